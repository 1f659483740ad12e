use Rattle.std.proofs.Common.{◌≡◌, ◌≤◌, ℕ, take}
use Rattle.pb_packed.specs.Sizes.{most_atoms}
use Rattle.pb_strips.specs.Grounding.{numbered_set}
use Rattle.pb_strips.specs.Packing.{AreAtoms}
use Rattle.pb_strips.proofs.sets.set_of.Given as goal

abbrev pub invariant-loop-n : goal.invariant-loop-n
invariant-loop-n l = (count : ℕ) → count ≤ most_atoms → AreAtoms count l.numbers → l.set ≡ numbered_set count (take l.n-index l.numbers)
