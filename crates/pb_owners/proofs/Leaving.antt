-- What a search by owners leaves.
use Rattle.std.proofs.Common.{◌≡◌, ◌≤◌, true, sym, ◌∙◌, subst}
use Rattle.pb_model.specs.Space.{IsProper}
use Rattle.pb_model.specs.Store.{IsQuiet}
use Rattle.pb_model.proofs.Callers.{quiet_incumbents_hold}
use Rattle.pb_machine.specs.declared.event.End.{End}
use Rattle.pb_machine.specs.declared.event.End.TheVariants.{Quiet}
use Rattle.pb_machine.specs.declared.settings.Settings.{Settings}
use Rattle.pb_machine.specs.Settings.{AreInRange}
use Rattle.pb_task.specs.declared.parts.TaskParts.{TaskParts}
use Rattle.pb_task.specs.Parts.{space_of, greatest_cost, IsTask}
use Rattle.pb_task.proofs.Callers.{tasks_are_proper}
use Rattle.pb_estimate.specs.Estimates.{suits}
use Rattle.pb_estimate.specs.Choices.{Choice}
use Rattle.pb_estimate.proofs.Callers.{estimates_are_admissible}
use Rattle.pb_abstract.specs.Projection.{IsFinest}
use Rattle.pb_abstract.specs.Graph.{AbstractGraph, IsGraphOf}
use Rattle.pb_lists.specs.Store.{IsQuietEnd}
use Rattle.pb_owners.specs.Owners.{OwnersValue, space_in, guide_in, owners_store, IsOpening, IsSameSearch, OwnersEnd}
use Rattle.pb_owners.specs.Leaves.{LeavesOwners}

-- a quiet end is that of the best plans
pub quiet_is_best : (end : End) (v : OwnersValue) → IsTask v.task → suits v.task v.choice ≡ true → OwnersEnd end v → end ≡ Quiet → IsQuietEnd (space_in v) (guide_in v) (owners_store v)
quiet_is_best end v is_task suits_it ended is =
    let proper : IsProper (space_in v) greatest_cost = (tasks_are_proper v.task is_task).0 in
    let quiet : IsQuiet (owners_store v) = λ home opened. ended.end_is.quiet.0 is (home, opened) in
    record {
      sound = ended.sound;
      quiet = quiet;
      shown = ended.shown;
      holds = quiet_incumbents_hold (space_in v) greatest_cost (guide_in v) (owners_store v) proper ended.sound ended.shown quiet (estimates_are_admissible v.task v.choice is_task suits_it);
      small = ended.small;
    }

module _ (parts : TaskParts) (abstraction : AbstractGraph) (choice : Choice) (settings : Settings) (range : AreInRange settings) (is_task : IsTask parts) (graph_of : IsGraphOf parts abstraction) (finest : IsFinest parts settings.wish abstraction.projection) where
  -- from the owners at the start of a search to those at its end
  pub leaves : (old new : OwnersValue) → old.task ≡ parts → old.abstraction ≡ abstraction → old.choice ≡ choice → old.settings ≡ settings → IsOpening old → IsSameSearch old new → (end : End) → OwnersEnd end new → LeavesOwners parts choice settings end new
  leaves old new task of_abstraction its_choice settings_are opening same end ended =
      let task_is : new.task ≡ parts = same.task ∙ task in
      let graph_is : new.abstraction ≡ abstraction = same.abstraction ∙ of_abstraction in
      let are : new.settings ≡ settings = same.settings ∙ settings_are in
      let its_graph : IsGraphOf parts new.abstraction = subst (λ (a : AbstractGraph). IsGraphOf parts a) (sym graph_is) graph_of in
      record {
        task = task_is;
        abstraction = its_graph;
        finest = subst (λ (a : AbstractGraph). IsFinest parts settings.wish a.projection) (sym graph_is) finest;
        settings_are = are;
        choice_is = same.choice ∙ its_choice;
        ended = ended;
        quiet = λ is. subst (λ (p : TaskParts). IsQuietEnd (space_of p) (guide_in new) (owners_store new)) task_is
            (quiet_is_best end new (subst IsTask (sym task_is) is_task) ((λ i. suits (same.task i) (same.choice i)) ∙ opening.suits) ended is);
        lookable = record {
          abstraction = subst (λ (p : TaskParts). IsGraphOf p new.abstraction) (sym task_is) its_graph;
          workers = subst (λ (s : Settings). (1 ≤ s.workers) × (s.workers ≤ 64)) (sym are) range.workers;
          many = ended.many;
        };
      }
