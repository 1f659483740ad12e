use Rattle.std.proofs.lemmas.Result.{err_from_is_err_and}
use Rattle.pb_task.specs.declared.grounding.Grounding.TheVariants.{Reachable}
use Rattle.pb_strips.proofs.ReachedTask.{tells_reach}
use Rattle.pb_strips.proofs.Stopping.{lifted_never_stops, reach_stops}
use Rattle.pb_strips.proofs.reaching.task_of.Goals as goal

pub returns-in_err-reached-clause-refused : goal.returns-in_err-reached-clause-refused
returns-in_err-reached-clause-refused c =
    let p = err_from_is_err_and c.from_residual-in_err-reached.result c.from_residual-in_err-reached.ensures.1 in
    rw (p.1, p.2)
    (tells_reach c.args.domain.now c.args.problem.now c.in_ok-lifted.lifted c.in_err-reached.field-0.0 c.in_ok-lifted.ensures.task c.in_ok-lifted.ensures.lifted c.in_err-reached.ensures.refused)

pub returns-in_err-lifted-clause-stopped : goal.returns-in_err-lifted-clause-stopped
returns-in_err-lifted-clause-stopped c =
    let p = err_from_is_err_and c.from_residual.result c.from_residual.ensures.1 in
    rw (p.1, p.2) (lifted_never_stops Reachable c.args.domain.now c.args.problem.now c.args.looks.now c.in_err-lifted.field-0.0)

pub returns-in_err-reached-clause-stopped : goal.returns-in_err-reached-clause-stopped
returns-in_err-reached-clause-stopped c =
    let p = err_from_is_err_and c.from_residual-in_err-reached.result c.from_residual-in_err-reached.ensures.1 in
    rw (p.1, p.2)
    (reach_stops Reachable c.args.domain.now c.args.problem.now c.reach.new.looks c.in_err-reached.field-0.0 c.in_ok-lifted.ensures.task c.in_err-reached.ensures.stopped)
