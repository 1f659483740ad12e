use Rattle.std.proofs.Common.{rules}
use Rattle.pb_estimate.specs.Tables.{AreOfTask}
use Rattle.pb_estimate.proofs.estimator.PlainTables.of.Goals as goal

pub returns : goal.returns
unfolding AreOfTask
returns c = search rules
