use Rattle.pb_command.specs.Causes.{solve_meant}
use Rattle.pb_answer.specs.Answer.{journals_of}
use Rattle.pb_answer.proofs.ByLeases.{quiet_rows}
use Rattle.pb_answer.proofs.leases.answer_end.Goals as goal

pub report_end-requires-clause-quiet : goal.report_end-requires-clause-quiet
report_end-requires-clause-quiet c =
    quiet_rows (solve_meant c.args.solve.now) c.requires.engine c.args.task.now c.args.choice.now
    c.args.graph.now (journals_of c.save_journal-journal.result) c.save_journal-journal.ensures c.requires.quiet
