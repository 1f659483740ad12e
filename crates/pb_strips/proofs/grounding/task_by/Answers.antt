use Rattle.std.proofs.Common.{◌≡◌, ◌≤◌, length, List, All, sym, subst, ap, ◌∙◌}
use Rattle.std.proofs.lemmas.Result.{err_from_is_err_and}
use Rattle.pb_packed.specs.Sizes.{most_atoms}
use Rattle.pb_lifted.specs.declared.lifted.Lifted.{Lifted}
use Rattle.pb_lifted.specs.Lifted.{lifted_of}
use Rattle.pb_ground.specs.declared.actions.ActionInstance.{ActionInstance}
use Rattle.pb_ground.specs.declared.atoms.GroundAtom.{GroundAtom}
use Rattle.pb_ground.specs.Atoms.{ground_atoms}
use Rattle.pb_ground.specs.Actions.{ground_actions}
use Rattle.pb_ground.specs.Statics.{keep_all}
use Rattle.pb_task.specs.declared.grounding.Grounding.TheVariants as groundings
use Rattle.pb_task.specs.declared.parts.StripsParts.{StripsParts}
use Rattle.pb_task.specs.declared.parts.TaskParts.TheVariants.{Strips}
use Rattle.pb_task.specs.Strips.{IsStrips}
use Rattle.pb_strips.specs.Packing.{HasAtoms}
use Rattle.pb_strips.proofs.Below.{actions_have, have_below, is_strips}
use Rattle.pb_strips.proofs.Never.{within_limits}
use Rattle.pb_strips.proofs.Stopping.{ground_stops}
use Rattle.pb_strips.proofs.TaskParts.{all_parts}
use Rattle.pb_strips.proofs.grounding.task_by.Goals as goal

-- few atoms and actions of the lifted task are few of the trees
few_atoms : (lifted task : Lifted) → lifted ≡ task → length (ground_atoms lifted) ≤ most_atoms → length (ground_atoms task) ≤ most_atoms
few_atoms lifted task same few = subst (λ (l : Lifted). length (ground_atoms l) ≤ most_atoms) same few

few_actions : (lifted task : Lifted) (atoms : List GroundAtom) → lifted ≡ task → atoms ≡ ground_atoms lifted → length (ground_actions lifted atoms) ≤ 65536
    → length (ground_actions task (ground_atoms task)) ≤ 65536
few_actions lifted task atoms same are few =
    subst (λ (l : Lifted). length (ground_actions l (ground_atoms l)) ≤ 65536) same (subst (λ (xs : List GroundAtom). length (ground_actions lifted xs) ≤ 65536) are few)

pub parts_of-requires-clause-actions : goal.parts_of-requires-clause-actions
parts_of-requires-clause-actions c =
    let lifted = c.args.lifted.now in
    let atoms = c.args.atoms.now in
    let few : length atoms ≤ most_atoms = subst (λ (xs : List GroundAtom). length xs ≤ most_atoms) (sym c.requires.atoms) c.requires.few in
    subst (λ (xs : List ActionInstance). All (HasAtoms most_atoms) xs) (sym (c.as_slice.ensures ∙ c.in_ok-actions.ensures.actions))
    (have_below (length atoms) most_atoms (ground_actions lifted atoms) few (actions_have lifted (keep_all lifted) atoms 0 lifted.actions))

pub of_strips-requires : goal.of_strips-requires
of_strips-requires c =
    let lifted = c.args.lifted.now in
    let task = lifted_of c.args.domain.now c.args.problem.now in
    subst IsStrips
    (sym
    (all_parts c.args.domain.now c.args.problem.now lifted c.args.atoms.now c.in_ok-parts.parts c.requires.lifted c.requires.atoms
    (c.in_ok-parts.ensures (keep_all lifted) (c.as_slice.ensures ∙ c.in_ok-actions.ensures.actions) c.in_ok-never.ensures)))
    (is_strips c.args.domain.now c.args.problem.now groundings.All (keep_all task) (ground_atoms task) c.requires.resolved (few_atoms lifted task c.requires.lifted c.requires.few)
    (few_actions lifted task c.args.atoms.now c.requires.lifted c.requires.atoms c.in_ok-actions.ensures.few))

pub returns-clause-accepted : goal.returns-clause-accepted
returns-clause-accepted c =
    let lifted = c.args.lifted.now in
    let task = lifted_of c.args.domain.now c.args.problem.now in
    within_limits c.args.domain.now c.args.problem.now c.requires.resolved
    (few_atoms lifted task c.requires.lifted c.requires.few, few_actions lifted task c.args.atoms.now c.requires.lifted c.requires.atoms c.in_ok-actions.ensures.few)

pub returns-clause-task : goal.returns-clause-task
returns-clause-task c =
    c.of_strips.ensures
    ∙ ap (λ (parts : StripsParts). Strips parts)
    (all_parts c.args.domain.now c.args.problem.now c.args.lifted.now c.args.atoms.now c.in_ok-parts.parts c.requires.lifted c.requires.atoms
    (c.in_ok-parts.ensures (keep_all c.args.lifted.now) (c.as_slice.ensures ∙ c.in_ok-actions.ensures.actions) c.in_ok-never.ensures))

pub returns-in_err-actions-clause-stopped : goal.returns-in_err-actions-clause-stopped
returns-in_err-actions-clause-stopped c =
    let p = err_from_is_err_and c.from_residual.result c.from_residual.ensures.1 in
    let task = lifted_of c.args.domain.now c.args.problem.now in
    rw (p.1, p.2)
    (ground_stops groundings.All c.args.domain.now c.args.problem.now c.ground_actions.new.looks c.in_err-actions.field-0.0
    (c.requires.resolved, few_atoms c.args.lifted.now task c.requires.lifted c.requires.few) c.in_err-actions.ensures.stopped)
