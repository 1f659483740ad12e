-- What a verdict on a valid certificate says of the space.
use Rattle.std.proofs.Common.{mul_comm, cond, ap, ◌≡◌, ◌∙◌, ℕ, ◌+◌, ◌-◌, ◌*◌, ◌/◌, ◌<◌, ◌≤◌, Bool, true, false, Option, None, Some, List, Result, Ok, Err, refl, sym, subst, arith}
use Rattle.std.specs.Prelude.{IfOk, is_some}
use Rattle.std.proofs.Math.Nat.{div-lt_iff_lt-mul, lt-div-mul-add}
use Rattle.pb_model.specs.Space.{Space}
use Rattle.pb_model.specs.Weight.{Weight, IsWeight}
use Rattle.pb_model.specs.Plan.{Plan}
use Rattle.pb_model.specs.Certificate.{ClaimHolds}
use Rattle.pb_model.proofs.Callers.{valid_certificates_hold}
use Rattle.pb_task.specs.declared.parts.TaskParts.{TaskParts}
use Rattle.pb_task.specs.Parts.{space_of, IsTask}
use Rattle.pb_estimate.specs.Choices.{Choice, Plain, tables_of}
use Rattle.pb_estimate.specs.Estimates.{estimate_by, suits}
use Rattle.pb_estimate.specs.Tables.{EstimatorValue, IsOfTask}
use Rattle.pb_estimate.proofs.Callers.{estimates_are_admissible}
use Rattle.pb_check.specs.declared.fault.Verdict.{Verdict}
use Rattle.pb_check.specs.declared.fault.CheckError.{CheckError}
use Rattle.pb_check.specs.Reading.{suiting}
use Rattle.pb_check.specs.Judging.{StatedChoicesSuit, verdict_of, bound_of}
use Rattle.pb_check.proofs.Validity.{choice_suits}
use Rattle.pb_check.proofs.Completeness.{choice_ok}
use Rattle.pb_check.specs.Shown.{IsAccepted, ShowsClaim, VerdictHolds, BoundsAreLeast}

bounded : (weight : Weight) (cost other : ℕ) → IsWeight weight → weight.den * cost ≤ weight.num * other → bound_of weight cost ≤ other
bounded weight cost other is le =
    let positive : 0 < weight.num = (let a = is.positive in let b = is.at_least_one in omega (arith, a, b)) in
    let c : (other + 1) * weight.num ≡ weight.num * other + weight.num = grind arith in
    let lt : weight.den * cost + (weight.num - 1) < (other + 1) * weight.num = omega (arith, c, le, positive) in
    let d : (weight.den * cost + (weight.num - 1)) / weight.num < other + 1 = (div-lt_iff_lt-mul positive).1 lt in
    omega (arith, d)

holds : (space : Space) (weight : Weight) (plan : Option Plan) → IsWeight weight → ClaimHolds space weight plan → VerdictHolds space (verdict_of weight plan)
holds space weight None is claim = claim
holds space weight (Some plan) is claim = ((plan, claim.0, refl), λ other also. bounded weight plan.cost other.cost is (claim.1 other also))

-- an estimator is made by a choice that suits the task
pub suiting_is : (parts : TaskParts) (choice : Choice) → suits parts choice ≡ true → suiting parts choice ≡ choice
suiting_is parts choice fine = ap (λ b. cond b choice Plain) fine

-- an estimator by what suits has tables only if the choice suits
pub with_tables : (estimator : EstimatorValue) (parts : TaskParts) (choice : Choice) → IsOfTask estimator parts (suiting parts choice) → is_some estimator.tables ≡ true → suits parts choice ≡ true
unfolding IsOfTask
with_tables estimator parts choice is some = go (suits parts choice) (ap is_some (sym is.2) ∙ some)
  where
    go : (fine : Bool) → is_some (tables_of (cond fine choice Plain)) ≡ true → fine ≡ true
    go true e = refl
    go false e = absurd cc

-- what is stated is no fault if and only if it suits the task
pub stated_choices_suit : StatedChoicesSuit
stated_choices_suit parts stated = (
  (choice_suits parts stated.choice, choice_ok parts stated.choice),
  suiting_is parts stated.choice,
)

shown : (parts : TaskParts) (bytes : List ℕ) (verdict : Verdict) → IsTask parts → IsAccepted parts bytes verdict → ShowsClaim parts bytes verdict
shown parts bytes verdict lawful is =
    let choice = is.spelling.stated.choice in
    let admissible = estimates_are_admissible parts choice lawful is.stated in
    record {
      spelling = is.spelling;
      certificate = is.certificate;
      spelled = is.spelled;
      kind = is.kind;
      weight = is.valid.weight;
      claim = valid_certificates_hold (space_of parts) (estimate_by parts choice) is.certificate admissible is.valid;
      verdict_is = is.verdict_is;
    }

pub claims : (parts : TaskParts) (bytes : List ℕ) (r : Result Verdict CheckError) → IfOk r (λ verdict. IsTask parts) → IfOk r (λ verdict. IsAccepted parts bytes verdict)
    → IfOk r (λ verdict. ShowsClaim parts bytes verdict)
claims parts bytes (Ok verdict) lawful is = shown parts bytes verdict lawful is
claims parts bytes (Err e) lawful is = tt

pub verdicts : (parts : TaskParts) (bytes : List ℕ) (r : Result Verdict CheckError) → IfOk r (λ verdict. ShowsClaim parts bytes verdict) → IfOk r (λ verdict. VerdictHolds (space_of parts) verdict)
verdicts parts bytes (Ok verdict) is = subst (VerdictHolds (space_of parts)) (sym is.verdict_is) (holds (space_of parts) is.certificate.weight is.certificate.plan is.weight is.claim)
verdicts parts bytes (Err e) is = tt

pub bounds_are_least : BoundsAreLeast
bounds_are_least weight cost is = record {
  enough = enough weight cost is;
  least = λ other le. bounded weight cost other is le;
} where
  enough : (weight : Weight) (cost : ℕ) → IsWeight weight → weight.den * cost ≤ weight.num * bound_of weight cost
  enough weight cost is =
      let positive : 0 < weight.num = (let a = is.positive in let b = is.at_least_one in omega (arith, a, b)) in
      let lt : weight.den * cost + (weight.num - 1) < bound_of weight cost * weight.num + weight.num = lt-div-mul-add positive in
      let c : bound_of weight cost * weight.num ≡ weight.num * bound_of weight cost = mul_comm (bound_of weight cost) weight.num in
      omega (arith, lt, c, positive)
