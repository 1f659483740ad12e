use Rattle.std.proofs.Common.{◌≤◌, IsTrue, Ok, arith, ap, refl, subst, sym, ◌∙◌}
use Rattle.pb_model.specs.Space.{IsProper}
use Rattle.pb_task.specs.Parts.{space_of, greatest_cost}
use Rattle.pb_task.proofs.Grids.{tasks_are_proper}
use Rattle.pb_task.proofs.Validation.{one_more_step, is_fault_at, no_plan_at, plan_costs, no_plan_past_goal}
use Rattle.pb_task.proofs.task.Task.validate.Goals as goal

pub loop-i-init : goal.loop-i-init
loop-i-init c =
    let proper : IsProper (space_of c.args.self.now) greatest_cost = (tasks_are_proper c.args.self.now c.initial-state.ensures.lawful).0 in
    record {
      walk = (refl, c.initial-state.ensures.start);
      is_state = subst (λ state. IsTrue ((space_of c.args.self.now).is_state state)) (sym c.initial-state.ensures.start) proper.start;
      cheap = omega arith;
    }

pub returns-in_default-clause-plan : goal.returns-in_default-clause-plan
returns-in_default-clause-plan c = λ total is.
    absurd (no_plan_at (space_of c.args.self.now) c.args.plan.now c.loop-i.i c.loop-i.cost c.loop-i.state c.loop-i-test.true c.loop-i.invariant.walk (sym c.apply.ensures ∙ c.in_default.is) total is)

pub returns-in_default-clause-fault : goal.returns-in_default-clause-fault
returns-in_default-clause-fault c =
    is_fault_at (space_of c.args.self.now) c.args.plan.now c.loop-i.i c.loop-i.cost c.loop-i.state c.loop-i-test.true c.loop-i.invariant.walk (sym c.apply.ensures ∙ c.in_default.is)

pub overflow_add-cost : goal.overflow_add-cost
overflow_add-cost c =
    let proper : IsProper (space_of c.args.self.now) greatest_cost = (tasks_are_proper c.args.self.now c.initial-state.ensures.lawful).0 in
    let bound : c.in-Some.step.1 ≤ greatest_cost = proper.bounded c.loop-i.state _ c.in-Some.step.0 c.in-Some.step.1 (sym c.apply.ensures ∙ c.in-Some.is) in
    omega arith

pub loop-i-preserved : goal.loop-i-preserved
loop-i-preserved c =
    let proper : IsProper (space_of c.args.self.now) greatest_cost = (tasks_are_proper c.args.self.now c.initial-state.ensures.lawful).0 in
    let step = sym c.apply.ensures ∙ c.in-Some.is in
    let bound : c.in-Some.step.1 ≤ greatest_cost = proper.bounded c.loop-i.state _ c.in-Some.step.0 c.in-Some.step.1 step in
    record {
      walk = one_more_step (space_of c.args.self.now) c.args.plan.now c.loop-i.i c.loop-i.cost c.loop-i.state c.in-Some.step.0 c.in-Some.step.1 c.loop-i-test.true c.loop-i.invariant.walk step;
      is_state = proper.to_state c.loop-i.state _ c.in-Some.step.0 c.in-Some.step.1 step;
      cheap = omega arith;
    }

pub returns-then-is_goal-clause-plan : goal.returns-then-is_goal-clause-plan
returns-then-is_goal-clause-plan c = λ total is.
    ap Ok (plan_costs (space_of c.args.self.now) c.args.plan.now c.loop-i.i c.loop-i.cost c.loop-i.state c.loop-i-test.false c.loop-i.invariant.walk total is)

pub returns-else-is_goal-clause-plan : goal.returns-else-is_goal-clause-plan
returns-else-is_goal-clause-plan c = λ total is.
    absurd (no_plan_past_goal (space_of c.args.self.now) c.args.plan.now c.loop-i.i c.loop-i.cost c.loop-i.state c.loop-i-test.false c.loop-i.invariant.walk (sym c.is_goal.ensures ∙ c.if-is_goal.false) total is)
