use Rattle.pb_command.specs.Causes.{solve_meant}
use Rattle.pb_answer.proofs.ByOwners.{quiet_rows}
use Rattle.pb_answer.proofs.owners.answer_end.Goals as goal

pub report_end-requires-clause-quiet : goal.report_end-requires-clause-quiet
report_end-requires-clause-quiet c =
    quiet_rows (solve_meant c.args.solve.now) c.requires.engine c.args.task.now c.args.choice.now
    c.args.owners.now c.requires.quiet
