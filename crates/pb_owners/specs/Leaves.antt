-- What a search by owners leaves, from a task, an estimate and settings to its end.
use Rattle.std.specs.Prelude.{◌≡◌}
use Rattle.pb_machine.specs.declared.event.End.{End}
use Rattle.pb_machine.specs.declared.event.End.TheVariants.{Quiet}
use Rattle.pb_machine.specs.declared.settings.Settings.{Settings}
use Rattle.pb_task.specs.declared.parts.TaskParts.{TaskParts}
use Rattle.pb_task.specs.Parts.{space_of}
use Rattle.pb_estimate.specs.Choices.{Choice}
use Rattle.pb_abstract.specs.Projection.{IsFinest}
use Rattle.pb_abstract.specs.Graph.{IsGraphOf}
use Rattle.pb_lists.specs.Store.{IsQuietEnd}
use Rattle.pb_owners.specs.Owners.{OwnersValue, guide_in, owners_store, CanLookUp, OwnersEnd}

-- A search of this task, by this estimate and with these settings, came to this end with these
-- owners. Its blocks are the finest that are no more than the settings wish for. The home of each state can be looked up. At a quiet end the rows are a sound store without
-- an Opened row, some plan costs no more than the incumbent, and no plan costs less than the
-- incumbent divided by the weight. Without an incumbent there is no plan.
pub record LeavesOwners (parts : TaskParts) (choice : Choice) (settings : Settings) (end : End)
    (owners : OwnersValue) : Type 0 where
  pub task : owners.task ≡ parts
  pub abstraction : IsGraphOf parts owners.abstraction
  pub finest : IsFinest parts settings.wish owners.abstraction.projection
  pub settings_are : owners.settings ≡ settings
  pub choice_is : owners.choice ≡ choice
  pub ended : OwnersEnd end owners
  pub quiet : end ≡ Quiet
      → IsQuietEnd (space_of parts) (guide_in owners) (owners_store owners)
  pub lookable : CanLookUp owners
