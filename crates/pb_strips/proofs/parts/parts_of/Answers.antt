use Rattle.std.proofs.Common.{[], length, sym, ◌∙◌, subst}
use Rattle.pb_packed.specs.Sizes.{most_atoms}
use Rattle.pb_ground.specs.Actions.{numbers_of}
use Rattle.pb_strips.specs.Packing.{AreAtoms}
use Rattle.pb_strips.proofs.Below.{numbers_below, are_below}
use Rattle.pb_strips.proofs.TaskParts.{parts_are}
use Rattle.pb_strips.proofs.parts.parts_of.Goals as goal

pub set_of-requires : goal.set_of-requires
set_of-requires c =
    let atoms = c.args.task.now.atoms.now in
    let numbers = numbers_of atoms [] c.args.task.now.lifted.now.init in
    subst (AreAtoms most_atoms) (sym (c.as_slice-2.ensures ∙ c.in_ok-first.ensures))
    (are_below (length atoms) most_atoms numbers c.requires.few (numbers_below atoms [] c.args.task.now.lifted.now.init))

pub set_of-requires-2 : goal.set_of-requires-2
set_of-requires-2 c =
    let atoms = c.args.task.now.atoms.now in
    let numbers = numbers_of atoms [] c.args.task.now.lifted.now.goal in
    subst (AreAtoms most_atoms) (sym (c.as_slice-3.ensures ∙ c.in_ok-wanted.ensures))
    (are_below (length atoms) most_atoms numbers c.requires.few (numbers_below atoms [] c.args.task.now.lifted.now.goal))

pub returns : goal.returns
returns c = λ kept actions_are never_is.
    parts_are c.args.domain.now c.args.problem.now c.args.task.now.grounding c.args.task.now.lifted.now kept c.args.task.now.atoms.now c.as_slice.result.now c.args.task.now.actions.now c.in_ok-actions.actions c.as_slice-2.result.now
    c.as_slice-3.result.now c.set_of.result c.set_of-2.result c.args.task.now.never c.requires.lifted c.requires.few actions_are c.as_slice.ensures
    c.in_ok-actions.ensures (c.as_slice-2.ensures ∙ c.in_ok-first.ensures) c.set_of.ensures (c.as_slice-3.ensures ∙ c.in_ok-wanted.ensures) c.set_of-2.ensures
    never_is
