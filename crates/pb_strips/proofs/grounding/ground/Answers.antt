use Rattle.pb_strips.specs.Refusals.{first_fault}
use Rattle.pb_strips.proofs.Never.{never_refused, no_fault}
use Rattle.pb_strips.proofs.grounding.ground.Goals as goal

pub returns-clause-never : goal.returns-clause-never
returns-clause-never c = λ typed limits. never_refused c.task_of.result (first_fault c.args.domain.now c.args.problem.now) c.task_of.ensures.refused (no_fault c.args.domain.now c.args.problem.now typed limits)
