-- What an answer says of the made task, clause by clause.
use Rattle.std.proofs.Common.{ℕ, Result, Ok, Err, IfOk}
use Rattle.pb_model.specs.Plan.{IsBound, HasNoPlan, NoneCheaper}
use Rattle.pb_task.specs.declared.parts.TaskParts.{TaskParts}
use Rattle.pb_task.specs.Parts.{space_of}
use Rattle.pb_task.specs.declared.kind.Kind.{Kind}
use Rattle.pb_check.specs.declared.fault.Claim.TheVariants.{Bounded, Unsolvable}
use Rattle.pb_made.specs.declared.answer.MadeAnswer.{MadeAnswer}
use Rattle.pb_made.specs.declared.answer.MadeAnswer.TheVariants.{Accepted, Stopped}
use Rattle.pb_made.specs.Made.{IsMadeTask, OfMade}
use Rattle.pb_made.specs.Answers.{HasPlan, IfAccepted, IfNoneAccepted, IfStopped, IsAnswered, IsCertified, IsStopped, unweighted}

module _ {E : Type 0} (kind : Kind) (seed size workers : ℕ) (task : TaskParts) (made : IsMadeTask kind seed size task) where
  pub says_plan : (r : Result MadeAnswer E) → IfOk r (IsAnswered task workers) → IfOk r (λ a. IfAccepted a (λ cost bound. OfMade kind seed size (λ task. HasPlan task cost)))
  says_plan (Err e) is = tt
  says_plan (Ok (Accepted (Bounded cost bound))) is = (task, made, is.0)
  says_plan (Ok (Accepted Unsolvable)) is = tt
  says_plan (Ok (Stopped budget)) is = tt

  pub says_least : (r : Result MadeAnswer E) → IfOk r (IsAnswered task workers) → IfOk r (λ a. IfAccepted a (λ cost bound. OfMade kind seed size (λ task. NoneCheaper (space_of task) unweighted cost)))
  says_least (Err e) is = tt
  says_least (Ok (Accepted (Bounded cost bound))) is = (task, made, is.1)
  says_least (Ok (Accepted Unsolvable)) is = tt
  says_least (Ok (Stopped budget)) is = tt

  pub says_bound : (r : Result MadeAnswer E) → IfOk r (IsAnswered task workers) → IfOk r (λ a. IfAccepted a (λ cost bound. IsBound unweighted cost bound))
  says_bound (Err e) is = tt
  says_bound (Ok (Accepted (Bounded cost bound))) is = is.2
  says_bound (Ok (Accepted Unsolvable)) is = tt
  says_bound (Ok (Stopped budget)) is = tt

  pub says_certified : (r : Result MadeAnswer E) → IfOk r (IsAnswered task workers) → IfOk r (λ a. IfAccepted a (λ cost bound. OfMade kind seed size (λ task. IsCertified task workers (Bounded cost bound))))
  says_certified (Err e) is = tt
  says_certified (Ok (Accepted (Bounded cost bound))) is = (task, made, is.3)
  says_certified (Ok (Accepted Unsolvable)) is = tt
  says_certified (Ok (Stopped budget)) is = tt

  pub says_none : (r : Result MadeAnswer E) → IfOk r (IsAnswered task workers) → IfOk r (λ a. IfNoneAccepted a (OfMade kind seed size (λ task. HasNoPlan (space_of task))))
  says_none (Err e) is = tt
  says_none (Ok (Accepted (Bounded cost bound))) is = tt
  says_none (Ok (Accepted Unsolvable)) is = (task, made, is.0)
  says_none (Ok (Stopped budget)) is = tt

  pub says_none_certified : (r : Result MadeAnswer E) → IfOk r (IsAnswered task workers) → IfOk r (λ a. IfNoneAccepted a (OfMade kind seed size (λ task. IsCertified task workers Unsolvable)))
  says_none_certified (Err e) is = tt
  says_none_certified (Ok (Accepted (Bounded cost bound))) is = tt
  says_none_certified (Ok (Accepted Unsolvable)) is = (task, made, is.1)
  says_none_certified (Ok (Stopped budget)) is = tt

  pub says_stopped : (r : Result MadeAnswer E) → IfOk r (IsAnswered task workers) → IfOk r (λ a. IfStopped a (λ budget. OfMade kind seed size (λ task. IsStopped task workers budget)))
  says_stopped (Err e) is = tt
  says_stopped (Ok (Accepted (Bounded cost bound))) is = tt
  says_stopped (Ok (Accepted Unsolvable)) is = tt
  says_stopped (Ok (Stopped budget)) is = (task, made, is)
