use Rattle.std.proofs.Common.{◌≡◌, ◌<◌, ℕ, None, false, subst, sym}
use Rattle.pb_task.specs.declared.parts.TaskParts.{TaskParts}
use Rattle.pb_task.specs.Parts.{space_of}
use Rattle.pb_task.specs.Marks.{is_marked}
use Rattle.pb_estimate.proofs.Indexing.{not_applicable}
use Rattle.pb_estimate.proofs.action_index.steps_by_lists.Goals as goal

pub successors_among-requires-clause-others : goal.successors_among-requires-clause-others
successors_among-requires-clause-others c =
    subst (λ (task : TaskParts). (action : ℕ) → action < (space_of task).actions → is_marked c.mark_candidates.new.marks action ≡ false → (space_of task).step c.args.from.now action ≡ None)
    (sym c.requires.parts)
    (not_applicable c.args.strips.now c.args.lists.now c.requires.lists c.args.from.now c.mark_candidates.new.marks c.mark_candidates.ensures.marked)
