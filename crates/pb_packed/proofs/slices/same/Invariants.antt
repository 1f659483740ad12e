use Rattle.std.proofs.Common.{◌≡◌, take}
use Rattle.pb_packed.proofs.slices.same.Given as goal

abbrev pub invariant-loop-i : goal.invariant-loop-i
invariant-loop-i l = take l.i l.words ≡ take l.i l.other
