use Rattle.std.proofs.Common.{◌≡◌, ◌<◌, ℕ, Some, None, if◌then◌else◌, length, sym, ap, arith, ◌∙◌}
use Rattle.pb_packed.specs.Words.{number_of}
use Rattle.pb_task.specs.Strips.{action_at, state_after, strips_step}
use Rattle.pb_task.proofs.Acting.{step_at}
use Rattle.pb_task.proofs.strips.step_from.Goals as goal
use Rattle.pb_task.proofs.strips.step_from.Goals.{After-needs_hold}
use Rattle.pb_task.proofs.strips.step_from.Given.{Over}

inside : (g : Over) (c : After-needs_hold g) → c.args.action < length c.args.strips.now.actions
inside g c = omega arith

-- the step as the test says
step_is : (g : Over) (c : After-needs_hold g) → strips_step c.args.strips.now (number_of c.args.held.now) c.args.action
    ≡ (if c.needs_hold.result
    then Some (state_after c.args.strips.now.atoms (action_at c.args.strips.now.actions c.args.action) (number_of c.args.held.now), (action_at c.args.strips.now.actions c.args.action).cost)
    else None)
step_is g c =
    step_at c.args.strips.now c.requires.strips (number_of c.args.held.now) c.args.action c.requires.state (inside g c) c.needs_hold.result
    c.needs_hold.ensures

pub returns-then-needs_hold : goal.returns-then-needs_hold
returns-then-needs_hold g c =
    let here : After-needs_hold g = (goal.at.returns-then-needs_hold g c).After-needs_hold in
    let strips = c.args.strips.now in
    let from = number_of c.args.held.now in
    let act = action_at strips.actions c.args.action in
    ap (λ (state : ℕ). Some (state, c.cost.result)) c.state_after-state.ensures ∙ ap (λ (cost : ℕ). Some (state_after strips.atoms act from, cost)) c.cost.ensures
    ∙ sym (step_is g here ∙ ap (λ test. if test then Some (state_after strips.atoms act from, act.cost) else None) c.if-needs_hold.true)

pub returns-else-needs_hold : goal.returns-else-needs_hold
returns-else-needs_hold g c =
    let here : After-needs_hold g = (goal.at.returns-else-needs_hold g c).After-needs_hold in
    let strips = c.args.strips.now in
    let from = number_of c.args.held.now in
    let act = action_at strips.actions c.args.action in
    sym (step_is g here ∙ ap (λ test. if test then Some (state_after strips.atoms act from, act.cost) else None) c.if-needs_hold.false)
