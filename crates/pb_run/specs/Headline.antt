-- The five promises to whoever runs `solve` without `--falling`. The task is that of the loaded
-- texts and of the words `--row`, `--swamp` and `--reachable`. The choice of an estimate is one that
-- the words ask for: with `--tables FILE`, for STRIPS, that of the tables which FILE states. The
-- same promises for each kind of task in its own words are in `Kinds`, and what else each command
-- promises is in `Commands`.
use Rattle.std.specs.Prelude.{◌≡◌, ◌⊎◌, None}
use Rattle.pb_model.specs.Plan.{HasNoPlan}
use Rattle.pb_model.specs.Texts.{none_report, stopped_report}
use Rattle.pb_task.specs.Parts.{space_of}
use Rattle.pb_answer.specs.Answer.{Says, Saves}
use Rattle.pb_answer.specs.Loaded.{OfTexts}
use Rattle.pb_answer.specs.Searches.{weight_asked}
use Rattle.pb_answer.specs.Claims.{Certifies, Stops, PrintsPlan, PrintsLeastCost, SavesPlan}
use Rattle.pb_answer.specs.Stops.{StopsSolve}
use Rattle.pb_run.specs.Outcome.{Outcome, IfSolve}

-- Status 0: what is printed is a plan of the task, with its cost and bound.
abbrev pub PlanIsPlan : Outcome → Type 0
PlanIsPlan it = IfSolve it.asked (λ solve. it.said.status ≡ 0 → OfTexts solve it.texts
    (λ choice parts. PrintsPlan (Says it.said) parts (weight_asked solve)))

-- Status 0: no plan costs less than the printed cost divided by the weight num / den. With weight 1
-- the plan is a cheapest one.
abbrev pub NoneIsCheaper : Outcome → Type 0
NoneIsCheaper it = IfSolve it.asked (λ solve. it.said.status ≡ 0 → OfTexts solve it.texts
    (λ choice parts. PrintsLeastCost (Says it.said) parts (weight_asked solve)))

-- The saved certificate is that of the search, and is valid: anyone can check the answer without
-- trust in the search. At status 0 it has the printed plan, at status 1 it claims that there is
-- none.
pub record CertificateHolds (it : Outcome) : Type 0 where
  pub plan : IfSolve it.asked (λ solve. it.said.status ≡ 0 → OfTexts solve it.texts
      (SavesPlan (Says it.said) (Saves it.said) solve))
  pub none : IfSolve it.asked (λ solve. it.said.status ≡ 1 → OfTexts solve it.texts
      (λ choice parts. Certifies (Saves it.said) solve choice parts None))

-- Status 1: `none` is printed, and the task has no plan.
abbrev pub NoneMeansNone : Outcome → Type 0
NoneMeansNone it = IfSolve it.asked (λ solve. it.said.status ≡ 1 → Says it.said none_report
    × OfTexts solve it.texts (λ choice parts. HasNoPlan (space_of parts)))

-- Status 2, and nothing is claimed of plans. The search used up its budget of expansions: the
-- budget is printed and nothing else, and no certificate is saved. Or grounding was stopped: it had
-- looked at as many rows as it may, no refusal comes before that, one line is printed, and nothing
-- is saved.
abbrev pub StopHasCause : Outcome → Type 0
StopHasCause it = IfSolve it.asked (λ solve. it.said.status ≡ 2
    → (Says it.said (stopped_report solve.settings.budget) × OfTexts solve it.texts
    (Stops (Saves it.said) solve))
    ⊎ StopsSolve solve it.texts it.said)
