use Rattle.std.proofs.Common.{◌≡◌, true, sym, subst}
use Rattle.pb_task.specs.declared.parts.TaskParts.{TaskParts}
use Rattle.pb_estimate.specs.Choices.{Choice}
use Rattle.pb_estimate.specs.Estimates.{suits}
use Rattle.pb_test_search.proofs.graphs.work_on.Goals as goal

pub of-requires : goal.of-requires
of-requires c = record {
  suits = subst (λ (p : TaskParts). suits p c.choice.result.now ≡ true) c.requires.task
      (subst (λ (k : Choice). suits c.args.graph.now.task k ≡ true) (sym c.choice.ensures.choice) c.choice.ensures.suits);
}
