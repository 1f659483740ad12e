use Rattle.std.proofs.Common.{◌++◌, ℕ, Some, None, if◌then◌else◌, sym, ap, append-nil, ◌∙◌}
use Rattle.pb_packed.specs.Words.{number_of}
use Rattle.pb_model.specs.Space.{successor_list}
use Rattle.pb_task.specs.Strips.{action_at, state_after}
use Rattle.pb_task.proofs.Acting.{step_at}
use Rattle.pb_task.proofs.strips.push_step.Goals as goal

pub returns-then-needs_hold-clause-items : goal.returns-then-needs_hold-clause-items
returns-then-needs_hold-clause-items g c =
    let strips = c.args.strips.now in
    let from = number_of c.args.held.now in
    let act = action_at strips.actions c.args.action in
    let step = step_at strips c.requires.strips from c.args.action c.requires.state c.requires.action c.needs_hold.result c.needs_hold.ensures
    ∙ ap (λ test. if test then Some (state_after strips.atoms act from, act.cost) else None) c.if-needs_hold.true in
    c.push_successor.ensures.items
    ∙ ap (λ (state : ℕ). c.args.out.now.items ++ successor_list c.args.action (Some (state, c.cost-cost.result))) c.state_after.ensures
    ∙ ap (λ (cost : ℕ). c.args.out.now.items ++ successor_list c.args.action (Some (state_after strips.atoms act from, cost))) c.cost-cost.ensures
    ∙ ap (λ after. c.args.out.now.items ++ successor_list c.args.action after) (sym step)

pub returns-else-needs_hold-clause-items : goal.returns-else-needs_hold-clause-items
returns-else-needs_hold-clause-items g c =
    let strips = c.args.strips.now in
    let from = number_of c.args.held.now in
    let act = action_at strips.actions c.args.action in
    let step = step_at strips c.requires.strips from c.args.action c.requires.state c.requires.action c.needs_hold.result c.needs_hold.ensures
    ∙ ap (λ test. if test then Some (state_after strips.atoms act from, act.cost) else None) c.if-needs_hold.false in
    sym (append-nil c.args.out.now.items) ∙ ap (λ after. c.args.out.now.items ++ successor_list c.args.action after) (sym step)
