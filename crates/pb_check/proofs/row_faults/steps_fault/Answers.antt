use Rattle.std.proofs.Common.{refl, sym, ap, arith, ◌∙◌}
use Rattle.pb_task.specs.Parts.{space_of}
use Rattle.pb_check.specs.Judging.{steps_fault, step_fault}
use Rattle.pb_check.proofs.Passes.{steps_go_on, steps_end, not_none, is_none}
use Rattle.pb_check.proofs.row_faults.steps_fault.Goals as goal

pub loop-action-init : goal.loop-action-init
unfolding steps_fault
loop-action-init c = refl

pub returns-then-is_some : goal.returns-then-is_some
returns-then-is_some c = let space = space_of c.args.task.now in
    steps_end space c.args.rows.now c.args.line c.args.g c.args.state.now c.loop-action.action space.actions c.step_fault-fault.result (not_none c.step_fault-fault.result (sym c.is_some.ensures ∙ c.if-is_some.true)) (omega (arith, c.loop-action-test.true, c.actions-action-end.ensures)) c.loop-action.invariant
    (c.step_fault-fault.ensures ∙ ap (step_fault c.args.rows.now c.args.line c.args.g c.loop-action.action) c.apply-step.ensures)

pub loop-action-preserved : goal.loop-action-preserved
loop-action-preserved c = let space = space_of c.args.task.now in
    steps_go_on space c.args.rows.now c.args.line c.args.g c.args.state.now c.loop-action.action c.loop-action.invariant
    (sym (c.step_fault-fault.ensures ∙ ap (step_fault c.args.rows.now c.args.line c.args.g c.loop-action.action) c.apply-step.ensures) ∙ is_none c.step_fault-fault.result (sym c.is_some.ensures ∙ c.if-is_some.false))
