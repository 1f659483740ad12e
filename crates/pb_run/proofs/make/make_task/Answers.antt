use Rattle.std.proofs.Common.{refl}
use Rattle.pb_command.specs.Causes.{make_meant}
use Rattle.pb_run.proofs.MadeTasks.{made_at, said_is}
use Rattle.pb_run.proofs.make.make_task.Goals as goal

pub returns-clause-made : goal.returns-clause-made
returns-clause-made g c =
    made_at (make_meant c.args.make) c.args.looks c.args.make.kind refl
    c.in_ok-answer.answer
    (record {
      plan = c.in_ok-answer.ensures.plan;
      least = c.in_ok-answer.ensures.least;
      bound = c.in_ok-answer.ensures.bound;
      certified = c.in_ok-answer.ensures.certified;
      none = c.in_ok-answer.ensures.none;
      none_certified = c.in_ok-answer.ensures.none_certified;
      stopped = c.in_ok-answer.ensures.stopped;
    })
    _
    (said_is c.in_ok-answer.answer _ c.status_of.result c.in_ok-report.report c.args.looks
    c.without_files.ensures c.status_of.ensures c.in_ok-report.ensures)
