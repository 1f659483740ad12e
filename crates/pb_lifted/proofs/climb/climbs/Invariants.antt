use Rattle.std.proofs.Common.{◌≡◌, ◌-◌, length}
use Rattle.pb_lifted.specs.Tree.{comes_to}
use Rattle.pb_lifted.proofs.climb.climbs.Given as goal

abbrev pub invariant-loop : goal.invariant-loop
invariant-loop l = comes_to l.parents (length l.parents - l.counter) l.now l.to ≡ comes_to l.parents (length l.parents) l.from l.to
