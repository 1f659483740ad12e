-- What is said of a made task.
use Rattle.std.specs.Prelude.{◌≡◌, ℕ, ⊤, Option, None, Some, List, Ok, Err}
use Rattle.pb_model.specs.Weight.{Weight}
use Rattle.pb_model.specs.Plan.{Plan, IsPlan, IsBound, HasNoPlan, NoneCheaper}
use Rattle.pb_machine.specs.declared.event.End.TheVariants.{Budget}
use Rattle.pb_machine.specs.declared.event.Event.{Event}
use Rattle.pb_machine.specs.declared.settings.Settings.{Settings}
use Rattle.pb_machine.specs.Settings.{standard}
use Rattle.pb_task.specs.declared.parts.TaskParts.{TaskParts}
use Rattle.pb_task.specs.Parts.{space_of}
use Rattle.pb_estimate.specs.Choices.{Plain}
use Rattle.pb_search.specs.Ends.{searched_guide}
use Rattle.pb_search.specs.Searches.{SearchEnds}
use Rattle.pb_cert.specs.Found.{IsCertificateOf}
use Rattle.pb_check.specs.declared.fault.CertificateFault.{CertificateFault}
use Rattle.pb_check.specs.declared.fault.Verdict.{Verdict}
use Rattle.pb_check.specs.declared.fault.Claim.TheVariants.{Bounded, Unsolvable}
use Rattle.pb_check.specs.Judging.{checked, verdict_of}
use Rattle.pb_made.specs.declared.answer.MadeAnswer.{MadeAnswer}
use Rattle.pb_made.specs.declared.answer.MadeAnswer.TheVariants.{Accepted, Stopped}
use Rattle.pb_made.specs.Found.{Finds}

-- the weight 1
abbrev pub unweighted : Weight
unweighted = record { num = 1; den = 1 }

-- what a made task is searched with: so many workers, the weight 1, 16,777,216 expansions, lots of
-- 256, 256 blocks, hot marks, and the estimate of its kind alone
abbrev pub made_settings : (workers : ℕ) → Settings
made_settings workers = record standard { workers = workers }

-- ---- certificates

-- the checker accepts the text with a verdict, or refuses it
abbrev pub IsJudged : TaskParts → (text : List ℕ) → Option Verdict → Type 0
IsJudged parts text None = (fault : CertificateFault) × (checked parts text ≡ Err fault)
IsJudged parts text (Some verdict) = checked parts text ≡ Ok verdict

-- A search of the task with so many workers came to a quiet end. The certificate that has exactly
-- its rows, and the plan that they lead to, is accepted with this verdict.
abbrev pub IsCertified : TaskParts → (workers : ℕ) → Verdict → Type 0
IsCertified parts workers verdict =
    (plan : Option Plan) × (journal : List Event)
    × (found : Finds parts (made_settings workers) journal plan)
    × (text : List ℕ)
    × IsCertificateOf parts Plain unweighted
    (searched_guide parts found.run.ends.abstraction Plain)
    found.run.ends.run.machine.store plan text
    × (verdict ≡ verdict_of unweighted plan)

-- ---- answers

-- a plan of the task has this cost
abbrev pub HasPlan : TaskParts → (cost : ℕ) → Type 0
HasPlan parts cost = (plan : Plan) × IsPlan (space_of parts) plan × (plan.cost ≡ cost)

-- P of the cost and the bound, if a plan was accepted
abbrev pub IfAccepted : MadeAnswer → (P : (cost bound : ℕ) → Type 0) → Type 0
IfAccepted (Accepted (Bounded cost bound)) P = P cost bound
IfAccepted (Accepted Unsolvable) P = ⊤
IfAccepted (Stopped budget) P = ⊤

-- P, if it was accepted that there is no plan
abbrev pub IfNoneAccepted : MadeAnswer → (P : Type 0) → Type 0
IfNoneAccepted (Accepted (Bounded cost bound)) P = ⊤
IfNoneAccepted (Accepted Unsolvable) P = P
IfNoneAccepted (Stopped budget) P = ⊤

-- P of the budget, if the search stopped
abbrev pub IfStopped : MadeAnswer → (P : (budget : ℕ) → Type 0) → Type 0
IfStopped (Accepted verdict) P = ⊤
IfStopped (Stopped budget) P = P budget

-- the search of the task with so many workers used up this budget
abbrev pub IsStopped : TaskParts → (workers budget : ℕ) → Type 0
IsStopped parts workers budget =
    (budget ≡ 16777216)
    × ((journal : List Event) × SearchEnds parts Plain (made_settings workers) Budget journal)

-- all that an answer says of a task
abbrev pub IsAnswered : TaskParts → (workers : ℕ) → MadeAnswer → Type 0
IsAnswered parts workers (Accepted (Bounded cost bound)) =
    HasPlan parts cost × NoneCheaper (space_of parts) unweighted cost
    × IsBound unweighted cost bound × IsCertified parts workers (Bounded cost bound)
IsAnswered parts workers (Accepted Unsolvable) =
    HasNoPlan (space_of parts) × IsCertified parts workers Unsolvable
IsAnswered parts workers (Stopped budget) = IsStopped parts workers budget
