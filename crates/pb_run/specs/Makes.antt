-- What is answered of a task that is made from a seed and a size.
use Rattle.std.specs.Prelude.{ℕ, List}
use Rattle.pb_model.specs.Plan.{NoneCheaper, IsBound, HasNoPlan}
use Rattle.pb_model.specs.Texts.{stopped_report}
use Rattle.pb_task.specs.Parts.{space_of}
use Rattle.pb_check.specs.declared.fault.Claim.TheVariants.{Bounded, Unsolvable}
use Rattle.pb_made.specs.declared.answer.MadeAnswer.TheVariants.{Accepted, Stopped}
use Rattle.pb_made.specs.declared.answer.MadeAnswer.{MadeAnswer}
use Rattle.pb_made.specs.Made.{OfMade}
use Rattle.pb_made.specs.Answers.{unweighted, HasPlan, IsCertified, IsStopped}
use Rattle.pb_report.specs.Texts.{made_text}
use Rattle.pb_command.specs.Meaning.{MakeMeaning}
use Rattle.pb_answer.specs.declared.status.Status.{Status}
use Rattle.pb_answer.specs.declared.status.Status.TheVariants as statuses

-- The cost of a cheapest plan of the made task is printed, with its bound: some plan has it, and
-- none is cheaper. A search with the words' workers found it. The certificate of that search has
-- exactly its rows, and is accepted with this cost and bound.
abbrev pub MakesPlan : (says : List ℕ → Type 0) → MakeMeaning → Type 0
MakesPlan says make =
    (cost : ℕ) × (bound : ℕ) × says (made_text (Bounded cost bound))
    × OfMade make.kind make.seed make.size (λ parts. HasPlan parts cost)
    × OfMade make.kind make.seed make.size
    (λ parts. NoneCheaper (space_of parts) unweighted cost)
    × IsBound unweighted cost bound
    × OfMade make.kind make.seed make.size
    (λ parts. IsCertified parts make.workers (Bounded cost bound))

-- The made task has no plan. A search with the words' workers found none, and the certificate of
-- that search is accepted.
abbrev pub MakesNone : (says : List ℕ → Type 0) → MakeMeaning → Type 0
MakesNone says make =
    says (made_text Unsolvable)
    × OfMade make.kind make.seed make.size (λ parts. HasNoPlan (space_of parts))
    × OfMade make.kind make.seed make.size
    (λ parts. IsCertified parts make.workers Unsolvable)

-- The search of the made task by the words' number of workers used up its budget of expansions.
abbrev pub MakesStop : (says : List ℕ → Type 0) → MakeMeaning → Type 0
MakesStop says make =
    (budget : ℕ) × says (stopped_report budget)
    × OfMade make.kind make.seed make.size
    (λ parts. IsStopped parts make.workers budget)

-- the status of what came out of a made task
abbrev pub made_status : MadeAnswer → Status
made_status (Accepted (Bounded cost bound)) = statuses.Success
made_status (Accepted Unsolvable) = statuses.NoPlan
made_status (Stopped budget) = statuses.Stopped

-- what is printed of it
abbrev pub made_report : MadeAnswer → List ℕ
made_report (Accepted verdict) = made_text verdict
made_report (Stopped budget) = stopped_report budget
