use Rattle.std.proofs.Common.{subst}
use Rattle.std.specs.Prelude.{All}
use Rattle.pb_task.specs.Parts.{space_of}
use Rattle.pb_estimate.specs.Choices.{Choice}
use Rattle.pb_estimate.specs.Tables.{IsOfTask}
use Rattle.pb_check.proofs.Claims.{suiting_is}
use Rattle.pb_check.proofs.Firsts.{all_states}
use Rattle.pb_check.proofs.pieces.need_rows.Goals as goal

pub rows_fault_by_pieces-requires-clause-task : goal.rows_fault_by_pieces-requires-clause-task
rows_fault_by_pieces-requires-clause-task g c = λ κs lives.
    subst (λ (choice : Choice). All (λ e. IsOfTask e c.args.judged.now.task.now choice) c.args.estimators.now)
    (suiting_is c.args.judged.now.task.now c.args.judged.now.choice.now c.requires.suits) c.requires.task

pub rows_fault_by_pieces-requires-clause-states : goal.rows_fault_by_pieces-requires-clause-states
rows_fault_by_pieces-requires-clause-states g c = λ κs lives. all_states (space_of c.args.judged.now.task.now) c.args.judged.now.line c.args.judged.now.rows.now c.requires.states
