use Rattle.pb_task.proofs.Validation.{faults_keep_from_plans}
use Rattle.pb_task.proofs.laws.faults_keep_from_plans.Goals as goal

pub returns : goal.returns
returns c = faults_keep_from_plans
