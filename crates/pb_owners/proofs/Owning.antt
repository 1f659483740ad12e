-- What the owners have at the end of a search.
use Rattle.std.proofs.Common.{◌≡◌, ℕ, ◌-◌, ◌<◌, ◌≤◌, ◌^◌, length, sym, subst, arith}
use Rattle.pb_model.specs.Space.{IsProper}
use Rattle.pb_machine.specs.declared.event.End.{End}
use Rattle.pb_machine.specs.Settings.{AreInRange}
use Rattle.pb_task.specs.declared.parts.TaskParts.{TaskParts}
use Rattle.pb_task.specs.Parts.{space_of, greatest_cost, IsTask}
use Rattle.pb_task.proofs.Callers.{tasks_are_proper}
use Rattle.pb_estimate.specs.Choices.{Choice}
use Rattle.pb_abstract.specs.Graph.{AbstractGraph}
use Rattle.pb_hashed.proofs.Callers.{mail_keeps_sound, agreed_is_sound}
use Rattle.pb_owner.specs.Shares.{guide_for}
use Rattle.pb_owners.specs.Between.{IsSearched}
use Rattle.pb_owners.specs.Shares.{share_at, IsEnd}
use Rattle.pb_owners.specs.Owners.{OwnersValue, space_in, guide_in, weight_in, OwnersEnd}
use Rattle.pb_owners.proofs.Repeating.{plain_sound, plain_costs}

module _ (end : End) (v : OwnersValue) (is_task : IsTask v.task) (range : AreInRange v.settings) where
  home_below : (state : ℕ) → (guide_in v).home state < v.settings.workers
  home_below state = let some = range.workers.0 in omega arith

  pub owners_end : IsSearched (space_in v) (guide_in v) (weight_in v) v.settings.workers v.settings.lot v.settings.budget v.spent (share_at v.shares) → IsEnd v.settings.budget v.spent (share_at v.shares) end → v.spent ≤ v.settings.budget → length v.shares ≡ v.settings.workers → OwnersEnd end v
  owners_end searched end_is within many =
      let proper : IsProper (space_in v) greatest_cost = (tasks_are_proper v.task is_task).0 in
      let some = range.workers.0 in
      let plain = plain_sound (space_in v) (guide_in v) (weight_in v) v.settings.workers v.settings.lot v.settings.budget mail_keeps_sound agreed_is_sound greatest_cost v.spent (share_at v.shares) proper range.weight (omega arith) home_below searched in
      record {
        searched = searched;
        end_is = end_is;
        within = within;
        many = many;
        sound = plain.0;
        shown = plain.1;
        small = plain_costs (space_in v) (guide_in v) (weight_in v) v.settings.workers v.settings.lot v.settings.budget mail_keeps_sound greatest_cost v.spent (2 ^ 61 - 1) (share_at v.shares) proper range.weight (let b = range.budget.1 in omega arith) searched;
      }

  -- the search was of the task, the blocks and the choice that the owners have
  pub owners_ended : (task : TaskParts) (abstraction : AbstractGraph) (choice : Choice) → v.task ≡ task → v.abstraction ≡ abstraction → v.choice ≡ choice
      → IsSearched (space_of task) (guide_for task abstraction v.settings.workers choice) (weight_in v) v.settings.workers v.settings.lot v.settings.budget v.spent (share_at v.shares) → IsEnd v.settings.budget v.spent (share_at v.shares) end → v.spent ≤ v.settings.budget → length v.shares ≡ v.settings.workers → OwnersEnd end v
  owners_ended task abstraction choice task_is graph_is choice_is searched =
      owners_end (subst (λ (t : TaskParts × AbstractGraph × Choice). IsSearched (space_of t.0) (guide_for t.0 t.1 v.settings.workers t.2) (weight_in v) v.settings.workers v.settings.lot v.settings.budget v.spent (share_at v.shares)) (λ i. (sym task_is i, sym graph_is i, sym choice_is i)) searched)
