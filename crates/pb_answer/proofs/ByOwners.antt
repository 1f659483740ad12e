-- What a hash-distributed search left, as solving asks for it.
use Rattle.std.proofs.Common.{◌≡◌, None, List, [], refl, sym, ap, subst}
use Rattle.pb_model.specs.Guide.{Guide}
use Rattle.pb_machine.specs.declared.event.End.TheVariants.{Quiet, Budget}
use Rattle.pb_machine.specs.Settings.{weight_of}
use Rattle.pb_task.specs.declared.parts.TaskParts.{TaskParts}
use Rattle.pb_task.specs.Parts.{space_of}
use Rattle.pb_estimate.specs.Choices.{Choice}
use Rattle.pb_estimate.specs.Estimates.{estimate_by}
use Rattle.pb_lists.specs.Store.{guide_with, IsQuietEnd}
use Rattle.pb_owners.specs.Owners.{OwnersValue, guide_in, owners_store}
use Rattle.pb_owners.specs.Leaves.{LeavesOwners}
use Rattle.pb_command.specs.declared.command.Engine.TheVariants.{Owners}
use Rattle.pb_command.specs.Meaning.{SolveMeaning}
use Rattle.pb_answer.specs.Outputs.{Output}
use Rattle.pb_answer.specs.Searches.{settings_of}
use Rattle.pb_answer.specs.Engines.{engine_asked, left_by_owners}
use Rattle.pb_answer.specs.Claims.{Stops}
use Rattle.pb_answer.specs.Ended.{guide_by, left_with, LeavesQuietRows}
use Rattle.pb_answer.proofs.Asked.{asked}

module _ (solve : SolveMeaning) (engine : engine_asked solve ≡ Owners) (parts : TaskParts)
    (choice : Choice) (owners : OwnersValue) where
  pub quiet_rows : LeavesOwners parts choice (settings_of solve) Quiet owners
      → LeavesQuietRows solve parts choice (guide_in owners).home (owners_store owners) []
  quiet_rows left =
      let same : guide_in owners ≡ guide_by parts choice (guide_in owners).home =
      λ i. guide_with (estimate_by (left.task i) (left.choice_is i)) (guide_in owners).home in
      record {
        end = subst (λ (g : Guide). IsQuietEnd (space_of parts) g (owners_store owners)) same
            (left.quiet refl);
        weight = ap weight_of left.settings_are;
        journal = None;
        leaves = asked solve Owners engine parts choice Quiet _ (
          owners,
          left,
          λ i. left_with (sym same i) (owners_store owners) None,
        );
        saved_is = refl;
      }

  pub stops : LeavesOwners parts choice (settings_of solve) Budget owners
      → Stops (λ outputs. ◌≡◌ {A = List Output} [] outputs) solve choice parts
  stops left = (
    left_by_owners owners,
    asked solve Owners engine parts choice Budget _ (owners, left, refl),
    refl,
  )
