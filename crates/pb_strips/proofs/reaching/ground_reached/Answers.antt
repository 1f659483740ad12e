use Rattle.pb_strips.proofs.ReachedTask.{never_refused}
use Rattle.pb_strips.proofs.reaching.ground_reached.Goals as goal

pub returns-clause-never : goal.returns-clause-never
returns-clause-never c = λ typed within. never_refused c.args.domain.now c.args.problem.now c.task_of.result c.task_of.ensures.refused typed within
