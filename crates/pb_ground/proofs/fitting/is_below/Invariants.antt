use Rattle.std.proofs.Common.{◌≡◌, ◌-◌, length}
use Rattle.pb_lifted.specs.Tree.{comes_to}
use Rattle.pb_ground.proofs.fitting.is_below.Given as goal

abbrev pub invariant-loop : goal.invariant-loop
invariant-loop l = comes_to l.types (length l.types - l.counter) l.now l.wanted ≡ comes_to l.types (length l.types) l.from l.wanted
