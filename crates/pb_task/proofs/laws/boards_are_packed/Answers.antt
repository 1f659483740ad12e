use Rattle.pb_task.proofs.Boards.{boards_are_packed}
use Rattle.pb_task.proofs.laws.boards_are_packed.Goals as goal

pub returns : goal.returns
returns c = boards_are_packed
