use Rattle.std.proofs.Common.{ap, ◌∙◌}
use Rattle.pb_estimate.specs.Estimates.{estimate_by}
use Rattle.pb_estimate.specs.Tables.{IsOfTask}
use Rattle.pb_yard.proofs.ByHand.{when_found}
use Rattle.pb_yard.proofs.by_hand.estimate.Goals as goal

pub estimate-requires-clause-task : goal.estimate-requires-clause-task
estimate-requires-clause-task g c = (c.choice-2.result.now, when_found (λ e. IsOfTask e c.args.task.now c.choice-2.result.now) c.of.result c.expect-estimator.result c.expect-estimator.ensures c.of.ensures)

pub returns : goal.returns
returns g c =
    c.estimate.ensures.estimate c.choice-2.result.now (when_found (λ e. IsOfTask e c.args.task.now c.choice-2.result.now) c.of.result c.expect-estimator.result c.expect-estimator.ensures c.of.ensures)
    ∙ ap (λ h. estimate_by c.args.task.now h c.args.state.now) c.choice-2.ensures
