use Rattle.std.proofs.Common.{◌≡◌, Some, false, sym, ap, ◌∙◌}
use Rattle.pb_estimate.specs.Hmax.{goal_cost, estimate_by}
use Rattle.pb_estimate.proofs.Underway.{free_goal}
use Rattle.pb_estimate.proofs.strips.estimate.Goals as goal

pub returns-then-counters-eq0-clause-estimate : goal.returns-then-counters-eq0-clause-estimate
returns-then-counters-eq0-clause-estimate c =
    let cost : Some 0 ≡ goal_cost c.args.strips.now c.args.state.now = free_goal c.args.strips.now c.args.state.now (sym c.requires.counters.goal.wanted ∙ c.if-counters-eq0.true) in
    ap (λ cost. estimate_by false cost) cost ∙ ap (λ never. estimate_by never (goal_cost c.args.strips.now c.args.state.now)) (sym c.if-strips.false)
