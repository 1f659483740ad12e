use Rattle.std.proofs.Common.{rules}
use Rattle.pb_estimate.specs.Tables.{IsOfTask}
use Rattle.pb_estimate.proofs.estimator.Estimator.by.Goals as goal

pub returns : goal.returns
unfolding IsOfTask
returns c = search rules
