use Rattle.pb_make_laws.proofs.BlocksTasks.{made_problems_are_tasks}
use Rattle.pb_make_laws.proofs.laws.made_problems_are_tasks.Goals as goal

pub returns : goal.returns
returns c = made_problems_are_tasks
