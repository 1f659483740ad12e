use Rattle.std.proofs.Common.{arith}
use Rattle.pb_task.specs.Parts.{space_of, greatest_cost}
use Rattle.pb_task.proofs.Callers.{tasks_are_proper}
use Rattle.pb_check.proofs.Walks.{step_state, step_small, no_step}
use Rattle.pb_check.proofs.plans.step.Goals as goal

pub returns-then-action-from-clause-state : goal.returns-then-action-from-clause-state
returns-then-action-from-clause-state c =
    step_state (space_of c.args.task.now) greatest_cost c.args.from.now c.args.action c.apply.result (tasks_are_proper c.args.task.now c.requires.lawful).0 c.apply.ensures

pub returns-then-action-from-clause-small : goal.returns-then-action-from-clause-small
returns-then-action-from-clause-small c =
    step_small (space_of c.args.task.now) greatest_cost c.args.from.now c.args.action c.apply.result (tasks_are_proper c.args.task.now c.requires.lawful).0 c.apply.ensures

pub returns-else-action-from-clause-step : goal.returns-else-action-from-clause-step
returns-else-action-from-clause-step c =
    no_step (space_of c.args.task.now) greatest_cost c.args.from.now c.args.action (space_of c.args.task.now).actions (tasks_are_proper c.args.task.now c.requires.lawful).0 (omega arith)
    (omega (arith, c.actions.ensures, c.from.ensures, c.if-action-from.false))
