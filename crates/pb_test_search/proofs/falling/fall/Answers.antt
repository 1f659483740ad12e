use Rattle.std.proofs.Common.{IfOk, IfSome, subst, arith}
use Rattle.std.specs.Arc.{arc_value}
use Rattle.pb_test_search.specs.FallingWeights.{IsAfterRuns}
use Rattle.pb_test_search.proofs.falling.fall.Goals as goal

pub run_next-requires-2-clause-after : goal.run_next-requires-2-clause-after
run_next-requires-2-clause-after g c κs within =
    let after : IfSome c.in_ok-second.field-0 (IsAfterRuns (arc_value c.in_ok-task.task) 1) =
    subst (λ r. IfOk r (λ next. IfSome next (IsAfterRuns (arc_value c.in_ok-task.task) 1))) c.in_ok-second.was (c.run_next.ensures 0 c.in_ok-first.ensures) in
    (1, omega arith, subst (λ next. IfSome next (IsAfterRuns (arc_value c.in_ok-task.task) 1)) c.in-Some.is after)
