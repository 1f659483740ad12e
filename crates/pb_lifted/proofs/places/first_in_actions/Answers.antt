use Rattle.std.proofs.Common.{◌<◌, List, length, get_or, ap, ◌∙◌, subst}
use Rattle.pb_pddl.specs.declared.tree.Action.{Action}
use Rattle.pb_lifted.specs.Refusals.{in_action}
use Rattle.pb_lifted.proofs.Earliest.{kept}
use Rattle.pb_lifted.proofs.places.first_in_actions.Goals as goal

pub loop-i-preserved : goal.loop-i-preserved
loop-i-preserved c =
    kept (λ a. in_action c.args.cause c.args.domain.now c.args.problem.now a) c.args.domain.now.actions c.action-item.result c.loop-i.i c.loop-i.found c.first_in_action-found.result _
    (subst (λ (xs : List Action). c.loop-i.i < length xs) c.as_slice-action-items.ensures c.loop-i-test.true)
    (c.action-item.is ∙ ap (λ xs. get_or xs c.loop-i.i c.action-item.result) c.as_slice-action-items.ensures) c.first_in_action-found.ensures c.loop-i.invariant
