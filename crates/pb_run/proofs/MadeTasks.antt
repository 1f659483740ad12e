-- What is answered of a made task is what was found of it.
use Rattle.std.proofs.Common.{◌≡◌, ◌≤◌, inl, inr, ℕ, List, [], ap, ◌∙◌, subst}
use Rattle.pb_model.specs.Plan.{NoneCheaper, IsBound, HasNoPlan}
use Rattle.pb_task.specs.Parts.{space_of}
use Rattle.pb_check.specs.declared.fault.Claim.TheVariants.{Bounded, Unsolvable}
use Rattle.pb_made.specs.declared.answer.MadeAnswer.{MadeAnswer}
use Rattle.pb_made.specs.declared.answer.MadeAnswer.TheVariants.{Accepted, Stopped}
use Rattle.pb_made.specs.Made.{IsSize, OfMade}
use Rattle.pb_made.specs.Answers.{unweighted, HasPlan, IsCertified, IsStopped, IfAccepted, IfNoneAccepted, IfStopped}
use Rattle.pb_task.specs.declared.kind.Kind.{Kind}
use Rattle.pb_task.specs.declared.kind.Kind.TheVariants.{Grid, Tiles, Strips}
use Rattle.pb_command.specs.Values.{least_size, most_size}
use Rattle.pb_command.specs.Meaning.{MakeMeaning}
use Rattle.pb_answer.specs.declared.status.Status.{Status}
use Rattle.pb_answer.specs.Statuses.{number_of}
use Rattle.pb_answer.specs.Answer.{Said}
use Rattle.pb_run.specs.Makes.{made_status, made_report}
use Rattle.pb_run.specs.Answers.{IsMade}

-- a size of a word's kind is one of the kind that it names
pub size_is : (word : Kind) (size : ℕ) → (least_size word ≤ size) × (size ≤ most_size word)
    → IsSize word size
size_is Grid size h = h
size_is Tiles size h = h.1
size_is Strips size h = h

-- what was found of the task that is made with this kind
pub record HasFound (make : MakeMeaning) (kind : Kind) (answer : MadeAnswer) : Type 0 where
  pub plan : IfAccepted answer (λ cost bound.
      OfMade kind make.seed make.size (λ parts. HasPlan parts cost))
  pub least : IfAccepted answer (λ cost bound.
      OfMade kind make.seed make.size (λ parts. NoneCheaper (space_of parts) unweighted cost))
  pub bound : IfAccepted answer (λ cost bound. IsBound unweighted cost bound)
  pub certified : IfAccepted answer (λ cost bound.
      OfMade kind make.seed make.size (λ parts. IsCertified parts make.workers (Bounded cost bound)))
  pub none : IfNoneAccepted answer
      (OfMade kind make.seed make.size (λ parts. HasNoPlan (space_of parts)))
  pub none_certified : IfNoneAccepted answer
      (OfMade kind make.seed make.size (λ parts. IsCertified parts make.workers Unsolvable))
  pub stopped : IfStopped answer (λ budget.
      OfMade kind make.seed make.size (λ parts. IsStopped parts make.workers budget))

-- what is said of an answer, with so many looks
abbrev pub said_of_answer : MadeAnswer → (looks : ℕ) → Said
said_of_answer answer looks = record {
  status = number_of (made_status answer);
  report = made_report answer;
  outputs = [];
  looks = looks;
}

module _ (make : MakeMeaning) (looks : ℕ) where
  made_is : (answer : MadeAnswer) → HasFound make make.kind answer → (said : Said)
      → said ≡ said_of_answer answer looks → IsMade make said
  made_is (Accepted (Bounded cost bound)) found said is =
      inl (
        ap (λ (s : Said). s.status) is,
        ap (λ (s : Said). s.outputs) is,
        (
          cost,
          bound,
          ap (λ (s : Said). s.report) is,
          found.plan,
          found.least,
          found.bound,
          found.certified,
        ),
      )
  made_is (Accepted Unsolvable) found said is =
      inr (inl (
        ap (λ (s : Said). s.status) is,
        ap (λ (s : Said). s.outputs) is,
        (ap (λ (s : Said). s.report) is, found.none, found.none_certified),
      ))
  made_is (Stopped budget) found said is =
      inr (inr (
        ap (λ (s : Said). s.status) is,
        ap (λ (s : Said). s.outputs) is,
        (budget, ap (λ (s : Said). s.report) is, found.stopped),
      ))

  -- what was found with the kind as it was handed on is answered
  pub made_at : (kind : Kind) → kind ≡ make.kind → (answer : MadeAnswer)
      → HasFound make kind answer → (said : Said) → said ≡ said_of_answer answer looks
      → IsMade make said
  made_at kind same answer found =
      made_is answer (subst (λ k. HasFound make k answer) same found)

-- what is said, by its parts
pub said_is : (answer : MadeAnswer) (said : Said) (status : Status) (report : List ℕ) (looks : ℕ)
    → said ≡ record { status = number_of status; report = report; outputs = []; looks = looks }
    → status ≡ made_status answer → report ≡ made_report answer
    → said ≡ said_of_answer answer looks
said_is answer said status report looks is same text =
    is ∙ (λ i. record { status = number_of (same i); report = text i; outputs = []; looks = looks })
