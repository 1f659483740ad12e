use Rattle.pb_task.proofs.Validation.{faults_are_unique}
use Rattle.pb_task.proofs.laws.faults_are_unique.Goals as goal

pub returns : goal.returns
returns c = faults_are_unique
