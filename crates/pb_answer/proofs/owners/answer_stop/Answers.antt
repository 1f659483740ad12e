use Rattle.pb_command.specs.Causes.{solve_meant}
use Rattle.pb_answer.proofs.ByOwners.{stops}
use Rattle.pb_answer.proofs.owners.answer_stop.Goals as goal

pub report_stop-requires : goal.report_stop-requires
report_stop-requires c =
    stops (solve_meant c.args.solve.now) c.requires.engine c.args.task.now c.args.choice.now
    c.args._owners.now c.requires.stopped
