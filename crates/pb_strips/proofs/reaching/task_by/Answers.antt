use Rattle.std.proofs.Common.{◌≤◌, length, List, All, sym, subst, ap, ◌∙◌}
use Rattle.pb_packed.specs.Sizes.{most_atoms}
use Rattle.pb_lifted.specs.declared.lifted.Lifted.{Lifted}
use Rattle.pb_lifted.specs.Lifted.{lifted_of}
use Rattle.pb_ground.specs.declared.actions.ActionInstance.{ActionInstance}
use Rattle.pb_ground.specs.Actions.{kept_actions}
use Rattle.pb_reach.specs.Rounds.{is_reached}
use Rattle.pb_task.specs.declared.grounding.Grounding.TheVariants.{Reachable}
use Rattle.pb_task.specs.declared.parts.StripsParts.{StripsParts}
use Rattle.pb_task.specs.declared.parts.TaskParts.TheVariants.{Strips}
use Rattle.pb_task.specs.Strips.{IsStrips}
use Rattle.pb_strips.specs.Packing.{HasAtoms}
use Rattle.pb_strips.proofs.Below.{actions_have, have_below, is_strips}
use Rattle.pb_strips.proofs.ReachedTask.{reached_parts}
use Rattle.pb_strips.proofs.reaching.task_by.Goals as goal

pub parts_of-requires-clause-actions : goal.parts_of-requires-clause-actions
parts_of-requires-clause-actions c =
    let lifted = c.args.lifted.now in
    let atoms = c.args.reached.now.atoms in
    subst (λ (xs : List ActionInstance). All (HasAtoms most_atoms) xs) (sym (c.as_slice.ensures ∙ c.requires.actions))
    (have_below (length atoms) most_atoms (kept_actions lifted (is_reached lifted) atoms) c.requires.few (actions_have lifted (is_reached lifted) atoms 0 lifted.actions))

pub of_strips-requires : goal.of_strips-requires
of_strips-requires c =
    let lifted = c.args.lifted.now in
    let task = lifted_of c.args.domain.now c.args.problem.now in
    let atoms = c.args.reached.now.atoms in
    let few : length (kept_actions task (is_reached lifted) atoms) ≤ 65536 =
    subst (λ (l : Lifted). length (kept_actions l (is_reached lifted) atoms) ≤ 65536) c.requires.lifted
    (subst (λ (all : List ActionInstance). length all ≤ 65536) c.requires.actions c.requires.few_actions) in
    subst IsStrips (sym (c.in_ok-parts.ensures (is_reached lifted) (c.as_slice.ensures ∙ c.requires.actions) c.requires.never))
    (is_strips c.args.domain.now c.args.problem.now Reachable (is_reached lifted) atoms c.requires.resolved c.requires.few few)

pub returns : goal.returns
returns c =
    let lifted = c.args.lifted.now in
    c.of_strips.ensures
    ∙ ap (λ (parts : StripsParts). Strips parts)
    (reached_parts c.args.domain.now c.args.problem.now lifted c.args.reached.now.atoms c.in_ok-parts.parts c.requires.resolved c.requires.lifted c.requires.atoms
    (c.in_ok-parts.ensures (is_reached lifted) (c.as_slice.ensures ∙ c.requires.actions) c.requires.never))
