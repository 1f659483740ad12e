use Rattle.std.proofs.Common.{◌≡◌, ◌<◌, List, length, sym, ap, ◌∙◌, arith}
use Rattle.pb_task.specs.declared.parts.GroundAction.{GroundAction}
use Rattle.pb_task.specs.Strips.{action_at}
use Rattle.pb_task.proofs.FlatActions.{many_labels, label_at}
use Rattle.pb_task.proofs.actions.Actions.cost.Goals as goal

pub index-requires : goal.index-requires
index-requires c =
    omega (arith, many_labels c.self.inside.labels.items c.self.inside.needs.sets c.self.inside.adds.sets c.self.inside.deletes.sets c.args.self.now c.self.view_is, c.requires)

pub returns : goal.returns
returns c =
    let labels = c.self.inside.labels.items in
    let many : length labels ≡ length c.args.self.now = many_labels labels c.self.inside.needs.sets c.self.inside.adds.sets c.self.inside.deletes.sets c.args.self.now c.self.view_is in
    let less : c.args.at < length labels = omega (arith, many, c.requires) in
    sym (ap (λ (action : GroundAction). action.cost) (label_at labels c.self.inside.needs.sets c.self.inside.adds.sets c.self.inside.deletes.sets c.args.at c.index.result.now less c.index.ensures))
    ∙ ap (λ (actions : List GroundAction). (action_at actions c.args.at).cost) c.self.view_is
