use Rattle.std.proofs.Common.{not, ◌&&◌, sym, ap, ◌∙◌}
use Rattle.pb_task.specs.Strips.{is_within}
use Rattle.pb_task.proofs.AtomSets.{within_is}
use Rattle.pb_task.proofs.strips.is_goal.Goals as goal

pub returns-then-may_hold : goal.returns-then-may_hold
returns-then-may_hold c =
    let strips = c.args.strips.now in
    within_is c.is_subset.result strips.atoms strips.goal c.args.state.now c.requires.goal c.is_subset.ensures
    ∙ ap (λ never. not never && is_within strips.atoms strips.goal c.args.state.now) (sym c.if-may_hold.true)
