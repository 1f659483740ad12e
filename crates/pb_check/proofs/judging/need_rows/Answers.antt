use Rattle.std.proofs.Common.{sym, subst}
use Rattle.pb_estimate.specs.Choices.{Choice}
use Rattle.pb_estimate.specs.Tables.{IsOfTask}
use Rattle.pb_check.proofs.Claims.{suiting_is}
use Rattle.pb_check.proofs.judging.need_rows.Goals as goal

pub rows_fault-fault-requires-clause-task : goal.rows_fault-fault-requires-clause-task
rows_fault-fault-requires-clause-task c =
    subst (λ (choice : Choice). IsOfTask c.args.estimator.now c.args.judged.now.task.now choice)
    (suiting_is c.args.judged.now.task.now c.args.judged.now.choice.now c.requires.suits) c.requires.task

pub returns-clause-task : goal.returns-clause-task
returns-clause-task c =
    subst (λ (choice : Choice). IsOfTask c.rows_fault-fault.new.estimator c.args.judged.now.task.now choice)
    (sym (suiting_is c.args.judged.now.task.now c.args.judged.now.choice.now c.requires.suits)) c.rows_fault-fault.ensures.task
