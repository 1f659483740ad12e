use Rattle.pb_command.specs.Causes.{solve_meant}
use Rattle.pb_answer.specs.Answer.{journals_of}
use Rattle.pb_answer.proofs.ByLeases.{stops}
use Rattle.pb_answer.proofs.leases.answer_stop.Goals as goal

pub report_stop-requires : goal.report_stop-requires
report_stop-requires c =
    stops (solve_meant c.args.solve.now) c.requires.engine c.args.task.now c.args.choice.now
    c.args.graph.now (journals_of c.save_journal-journal.result) c.save_journal-journal.ensures
    c.requires.stopped
