use Rattle.std.proofs.Common.{sym, ◌∙◌}
use Rattle.pb_answer.proofs.Callers.{quiet_rows_of}
use Rattle.pb_test_run_workers.proofs.kept.claimed.Goals as goal

pub claimed_plan-requires-clause-quiet : goal.claimed_plan-requires-clause-quiet
claimed_plan-requires-clause-quiet g c = λ quiet.
    let best = c.in_ok-graph.ensures.quiet quiet in
    quiet_rows_of c.deref.result.now c.in_ok-graph.graph (c.in_ok-graph.ensures.task ∙ sym c.deref.ensures) best.best best.small
