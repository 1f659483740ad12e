-- What one run leaves for the next one.
use Rattle.std.proofs.Common.{◌≡◌, ℕ, ◌+◌, ◌<◌, ◌==◌, Option, None, Some, Result, Ok, Err, IfOk, refl, sym, ap, ◌∙◌, subst, cond}
use Rattle.pb_model.specs.Weight.{Weight}
use Rattle.pb_machine.specs.declared.settings.Settings.{Settings}
use Rattle.pb_task.specs.declared.parts.TaskParts.{TaskParts}
use Rattle.pb_estimate.specs.Choices.{Choice}
use Rattle.pb_estimate.specs.Choices.{Plain}
use Rattle.pb_estimate.specs.Tables.{HasTable}
use Rattle.pb_lease.specs.declared.past.Past.{Past}
use Rattle.pb_lease.specs.Tables.{no_past}
use Rattle.pb_lease.specs.GraphValue.{GraphValue}
use Rattle.pb_lease.specs.Begins.{IsOfRun, IsReopened, FitsWord, IsFirstMoment, BeginsAgain}
use Rattle.pb_search.specs.Ends.{IsLeftByRun, IsLeftBySearch}
use Rattle.pb_test_search.specs.FallingWeights.{IsAfterRuns}

-- ---- the first run

module _ (task : TaskParts) (settings : Settings) (chosen : Choice) (plain : chosen ≡ Plain) where
  pub first_run : {E : Type 0} (r : Result GraphValue E) → IfOk r (λ g. g.task ≡ task) → IfOk r (λ g. g.table.settings ≡ settings) → IfOk r (λ g. g.choice ≡ chosen) → IfOk r (λ g. g.table.past ≡ no_past) → IfOk r (IsLeftBySearch task chosen settings)
      → IfOk r (λ g. 1 < settings.workers → FitsWord g.incumbent) → IfOk r (IsAfterRuns task 0)
  first_run (Ok g) its are choice past left fits = record {
    task = its;
    choice = choice ∙ plain;
    past = ap (λ (p : Past). p.reopenings) past;
    recorded = left.recorded;
    machine = left.run.machine;
    moment = left.moment;
    fits = λ several. fits (subst (λ (s : Settings). 1 < s.workers) are several);
  }
  first_run (Err e) its are choice past left fits = tt

-- ---- a run after it

module _ (task : TaskParts) (reopenings : ℕ) (g : GraphValue) (after : IsAfterRuns task reopenings g) (weight : Weight) (again : GraphValue) (reopened : IsReopened g weight again) (begin : BeginsAgain g weight again) where
  pub its_task : again.task ≡ task
  its_task = reopened.task ∙ after.task

  its_choice : again.choice ≡ Plain
  its_choice = reopened.choice ∙ after.choice

  pub begins : IsFirstMoment again
  begins = (begin after.recorded after.machine after.moment).0

  pub still_fits : 1 < again.table.settings.workers → FitsWord again.incumbent
  still_fits several cost is = after.fits (subst (λ (s : Settings). 1 < s.workers) reopened.settings several) cost (sym reopened.incumbent ∙ is)

  pub no_table : HasTable task again.choice None
  no_table = subst (λ (c : Choice). HasTable task c None) (sym its_choice) tt

  pub next_run : (last : GraphValue) → IsOfRun again last → IsLeftByRun again last → (1 < again.table.settings.workers → FitsWord last.incumbent) → IsAfterRuns task (reopenings + 1) last
  next_run last of left fits = record {
    task = of.task ∙ its_task;
    choice = of.choice ∙ its_choice;
    past = ap (λ (p : Past). p.reopenings) of.past ∙ reopened.reopenings ∙ ap (λ n. n + 1) after.past;
    recorded = left.recorded;
    machine = left.run.machine;
    moment = left.moment;
    fits = λ several. fits (subst (λ (s : Settings). 1 < s.workers) of.settings several);
  }
