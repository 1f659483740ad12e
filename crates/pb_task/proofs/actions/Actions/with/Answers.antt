use Rattle.std.proofs.Common.{◌++◌, ◌∷◌, [], List, ap, ◌∙◌, arith}
use Rattle.pb_task.specs.declared.parts.GroundAction.{GroundAction}
use Rattle.pb_task.proofs.FlatActions.{action_added}
use Rattle.pb_task.proofs.actions.Actions.with.Goals as goal

pub returns : goal.returns
returns c =
    rw (c.in_ok-push.ensures.items, c.in_ok-needs.ensures, c.in_ok-adds.ensures, c.in_ok-deletes.ensures) (
    action_added 0 c.self.inside.labels.items (record { name = c.args.action.name; cost = c.args.action.cost }) c.self.inside.needs.sets c.self.inside.adds.sets c.self.inside.deletes.sets
    c.args.action.needs c.args.action.adds c.args.action.deletes (omega (arith, c.self.invariant.0)) (omega (arith, c.self.invariant.1)) (omega (arith, c.self.invariant.2))
    ∙ ap (λ (actions : List GroundAction). actions ++ c.args.action ∷ []) c.self.view_is
    )
