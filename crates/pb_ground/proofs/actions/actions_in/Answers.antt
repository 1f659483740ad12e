use Rattle.std.proofs.Common.{List}
use Rattle.std.proofs.lemmas.Result.{err_from_is_err_and}
use Rattle.pb_ground.specs.declared.actions.ActionInstance.{ActionInstance}
use Rattle.pb_ground.specs.Actions.{actions_from}
use Rattle.pb_ground.proofs.Halting.{halts_full, halts_stop}
use Rattle.pb_ground.proofs.actions.actions_in.Goals as goal

pub returns-in_err-look_at_all-clause-refused : goal.returns-in_err-look_at_all-clause-refused
returns-in_err-look_at_all-clause-refused c =
    let p = err_from_is_err_and c.from_residual.result c.from_residual.ensures.1 in
    let all : List ActionInstance = actions_from c.args.task.now c.args.atoms.now 0 c.args.schemas.now in
    rw (p.1, p.2) (halts_full 65536 all c.look_at_all.new.looks c.in_err-look_at_all.field-0.0 c.in_err-look_at_all.ensures.halted)

pub returns-in_err-look_at_all-clause-stopped : goal.returns-in_err-look_at_all-clause-stopped
returns-in_err-look_at_all-clause-stopped c =
    let p = err_from_is_err_and c.from_residual.result c.from_residual.ensures.1 in
    rw (p.1, p.2) (halts_stop c.look_at_all.new.looks c.in_err-look_at_all.field-0.0 c.in_err-look_at_all.ensures.halted)
