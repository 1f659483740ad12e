use Rattle.std.proofs.lemmas.Result.{err_from_is_err_and}
use Rattle.pb_task.specs.declared.grounding.Grounding.TheVariants.{All}
use Rattle.pb_strips.proofs.Stopping.{atoms_never_stop, lifted_never_stops}
use Rattle.pb_strips.proofs.grounding.task_of.Goals as goal

pub returns-in_err-lifted-clause-stopped : goal.returns-in_err-lifted-clause-stopped
returns-in_err-lifted-clause-stopped c =
    let p = err_from_is_err_and c.from_residual.result c.from_residual.ensures.1 in
    rw (p.1, p.2) (lifted_never_stops All c.args.domain.now c.args.problem.now c.args.looks.now c.in_err-lifted.field-0.0)

pub returns-in_err-atoms-clause-stopped : goal.returns-in_err-atoms-clause-stopped
returns-in_err-atoms-clause-stopped c =
    let p = err_from_is_err_and c.from_residual-in_err-atoms.result c.from_residual-in_err-atoms.ensures.1 in
    rw (p.1, p.2) (atoms_never_stop All c.args.domain.now c.args.problem.now c.args.looks.now c.in_ok-lifted.lifted c.in_err-atoms.field-0.0 c.in_err-atoms.ensures.refused)
