use Rattle.std.proofs.Common.{◌≡◌, ◌<◌, List, length, sym, ap, ◌∙◌, arith}
use Rattle.pb_task.specs.declared.parts.GroundAction.{GroundAction}
use Rattle.pb_task.specs.Strips.{action_at}
use Rattle.pb_task.proofs.FlatActions.{many_labels, sets_at}
use Rattle.pb_task.proofs.actions.Actions.words_of_needs.Goals as goal

pub at-requires : goal.at-requires
at-requires c =
    omega (arith, many_labels c.self.inside.labels.items c.self.inside.needs.sets c.self.inside.adds.sets c.self.inside.deletes.sets c.args.self.now c.self.view_is, c.requires, c.self.invariant.0)

pub returns-clause-set : goal.returns-clause-set
returns-clause-set c =
    let labels = c.self.inside.labels.items in
    let many : length labels ≡ length c.args.self.now = many_labels labels c.self.inside.needs.sets c.self.inside.adds.sets c.self.inside.deletes.sets c.args.self.now c.self.view_is in
    let less : c.args.at < length labels = omega (arith, many, c.requires) in
    c.at.ensures.set
    ∙ sym (ap (λ (action : GroundAction). action.needs) (sets_at labels c.self.inside.needs.sets c.self.inside.adds.sets c.self.inside.deletes.sets c.args.at less))
    ∙ ap (λ (actions : List GroundAction). (action_at actions c.args.at).needs) c.self.view_is
