use Rattle.std.proofs.Common.{◌≡◌, drop}
use Rattle.pb_abstract.specs.Tracked.{tracked_set}
use Rattle.pb_abstract.proofs.tracked.TrackedAtoms.tracked_set.Given as goal

abbrev pub invariant-loop-at : goal.invariant-loop-at
invariant-loop-at l = l.tracked ≡ tracked_set (drop l.at l.atoms) l.set
