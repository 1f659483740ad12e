use Rattle.std.proofs.Common.{◌≡◌, drop}
use Rattle.pb_lifted.specs.Refusals.{first_among, first_refusal}
use Rattle.pb_lifted.proofs.checking.find_refusal.Given as goal

abbrev pub invariant-loop-cause : goal.invariant-loop-cause
invariant-loop-cause l = first_among (drop l.cause-index l.cause-items) l.domain l.problem ≡ first_refusal l.domain l.problem
