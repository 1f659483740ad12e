use Rattle.std.proofs.Common.{[], not, sym, ap}
use Rattle.pb_ground.proofs.numbers.is_missing.Goals as goal

pub returns-then-all_fluent : goal.returns-then-all_fluent
returns-then-all_fluent c = sym (ap not (c.all_fluent.ensures c.if-all_fluent.true []))
