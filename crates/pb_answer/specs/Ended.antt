-- What a search that came to a quiet end left, for what is reported and saved of it, whichever
-- engine searched.
use Rattle.std.specs.Prelude.{◌≡◌, ℕ, Option, List}
use Rattle.pb_model.specs.Guide.{Guide}
use Rattle.pb_model.specs.Store.{Store}
use Rattle.pb_model.specs.Plan.{Plan}
use Rattle.pb_model.specs.Certificate.{IsPlanIfAny, IsBackedBy}
use Rattle.pb_machine.specs.declared.event.End.TheVariants.{Quiet}
use Rattle.pb_machine.specs.declared.event.Event.{Event}
use Rattle.pb_task.specs.declared.parts.TaskParts.{TaskParts}
use Rattle.pb_task.specs.Parts.{space_of}
use Rattle.pb_estimate.specs.Choices.{Choice}
use Rattle.pb_estimate.specs.Estimates.{estimate_by}
use Rattle.pb_lists.specs.Store.{guide_with, IsQuietEnd}
use Rattle.pb_check.specs.Spelling.{PlanFitsIfAny}
use Rattle.pb_command.specs.Meaning.{SolveMeaning}
use Rattle.pb_answer.specs.Outputs.{Output}
use Rattle.pb_answer.specs.Searches.{settings_of, weight_asked}
use Rattle.pb_answer.specs.Engines.{Left, engine_asked, SearchLeaves}
use Rattle.pb_answer.specs.Claims.{journal_outputs_if_any}

-- what a search by this estimate looks up, if its states have these homes
abbrev pub guide_by : TaskParts → Choice → (homes : ℕ → ℕ) → Guide
guide_by parts choice homes = guide_with (estimate_by parts choice) homes

abbrev pub left_with : Guide → Store → Option (List Event) → Left
left_with guide store journal = record { guide = guide; store = store; journal = journal }

-- A search of the task, as the words ask for it and by this choice of an estimate, came to a quiet
-- end. It left these rows, whose states have these homes, and its journal is to be saved so.
pub record LeavesQuietRows (solve : SolveMeaning) (parts : TaskParts) (choice : Choice)
    (homes : ℕ → ℕ) (store : Store) (saved : List Output) : Type 0 where
  pub end : IsQuietEnd (space_of parts) (guide_by parts choice homes) store
  pub weight : store.weight ≡ weight_asked solve
  pub journal : Option (List Event)
  pub leaves : SearchLeaves (engine_asked solve) parts choice (settings_of solve) Quiet
      (left_with (guide_by parts choice homes) store journal)
  pub saved_is : saved ≡ journal_outputs_if_any solve.journal (settings_of solve) journal

-- A certificate of these rows can state this: a plan of the task that costs no more than the
-- incumbent and whose numbers can be stated, whether the rows lead to it or not. Or that there is
-- none, without an incumbent.
pub record CanBeCertified (parts : TaskParts) (store : Store) (plan : Option Plan) : Type 0 where
  pub is_plan : IsPlanIfAny (space_of parts) plan
  pub backed : IsBackedBy store.incumbent plan
  pub fits : PlanFitsIfAny plan
