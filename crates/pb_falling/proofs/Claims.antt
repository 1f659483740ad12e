-- What is claimed after each run.
use Rattle.std.proofs.Common.{◌≡◌, ℕ, ◌≤◌, Bool, true, false, nat_lt, if◌then◌else◌, List, [], ◌∷◌, Option, None, Some, refl, sym, subst, arith, le_trans, mul-le-mul_left}
use Rattle.std.specs.List.{AllByRecursion}
use Rattle.pb_model.specs.Weight.{Weight, IsWeight}
use Rattle.pb_model.specs.Space.{Space}
use Rattle.pb_model.specs.Plan.{Plan, IsPlan, NoneCheaper, IncumbentHolds}
use Rattle.pb_model.specs.Guide.{IsAdmissible}
use Rattle.pb_model.specs.Certificate.{IsPlanIfAny, IsBackedBy}
use Rattle.pb_model.proofs.Callers.{below, not_below}
use Rattle.pb_machine.specs.Machine.{Setup, IsSetup, Machine}
use Rattle.pb_machine.specs.Settings.{weight_of}
use Rattle.pb_machine.specs.Lawful.{IsLawful, reopened_machine, reopened_setup}
use Rattle.pb_machine.specs.Laws.{ReopeningIsLawful}
use Rattle.pb_machine.proofs.Callers.{runs_are_lawful, quiet_ends_are_best}
use Rattle.pb_falling.specs.Falling.{kept_plan, Claim, IsClaim, AreClaims, CostsFall}
use Rattle.pb_falling.specs.Laws.{ClaimsHold}

-- the kept plan is one of both
pub kept_is_plan : (space : Space) (before : Option Plan) (traced : Plan) → IsPlanIfAny space before → IsPlan space traced → IsPlan space (kept_plan before traced)
kept_is_plan space None traced b t = t
kept_is_plan space (Some before) traced b t = go (nat_lt before.cost traced.cost) where
  go : (test : Bool) → IsPlan space (if test then before else traced)
  go true = b
  go false = t

-- and the cheaper
pub kept_costs : (before : Option Plan) (traced : Plan) → (kept_plan before traced).cost ≤ traced.cost
kept_costs None traced = omega arith
kept_costs (Some before) traced = go (nat_lt before.cost traced.cost) refl where
  go : (test : Bool) → nat_lt before.cost traced.cost ≡ test → (if test then before else traced).cost ≤ traced.cost
  go true lt = let l = below before.cost traced.cost lt in omega arith
  go false lt = omega arith

kept_below : (before traced : Plan) → (kept_plan (Some before) traced).cost ≤ before.cost
kept_below before traced = go (nat_lt before.cost traced.cost) refl where
  go : (test : Bool) → nat_lt before.cost traced.cost ≡ test → (if test then before else traced).cost ≤ before.cost
  go true lt = omega arith
  go false lt = not_below before.cost traced.cost lt

-- what is said of an incumbent is said of a lower cost
cheaper_holds : (space : Space) (weight : Weight) (incumbent : Option ℕ) (traced : Plan) (cost : ℕ) → IncumbentHolds space weight incumbent → IsBackedBy incumbent (Some traced) → cost ≤ traced.cost → NoneCheaper space weight cost
cheaper_holds space weight None traced cost holds backed le = absurd backed
cheaper_holds space weight (Some incumbent) traced cost holds backed le = λ plan is. le_trans (mul-le-mul_left weight.den (le_trans le backed)) (holds.1 plan is)

module _ (reopening_is_lawful : ReopeningIsLawful) (greatest_cost : ℕ) where
  one_claim : (setup : Setup) (begin : Machine) (before : Option Plan) (claim : Claim) → IsSetup setup greatest_cost → IsAdmissible setup.space setup.guide.estimate → IsLawful setup begin → IsPlanIfAny setup.space before → IsClaim setup begin before claim
      → IsPlan setup.space claim.plan × NoneCheaper setup.space claim.weight claim.plan.cost × IsLawful setup claim.machine
  one_claim setup begin before claim is admissible lawful plan c =
      let l = runs_are_lawful setup greatest_cost c.moves begin claim.machine is lawful c.run in
      let best = quiet_ends_are_best setup greatest_cost claim.machine is l c.quiet admissible in (
        subst (IsPlan setup.space) (sym c.plan_is) (kept_is_plan setup.space before c.traced plan c.is_plan),
        subst (λ w. NoneCheaper setup.space w claim.plan.cost) (sym c.weight_is)
            (cheaper_holds setup.space (weight_of setup.settings) claim.machine.store.incumbent c.traced claim.plan.cost best c.backed
            (subst (λ (p : Plan). p.cost ≤ c.traced.cost) (sym c.plan_is) (kept_costs before c.traced))),
        l,
      )

  costs_first : (setup : Setup) (begin : Machine) (before : Plan) (claim : Claim) → IsClaim setup begin (Some before) claim → claim.plan.cost ≤ before.cost
  costs_first setup begin before claim c = subst (λ (p : Plan). p.cost ≤ before.cost) (sym c.plan_is) (kept_below before c.traced)

  all_claims : (setup : Setup) (begin : Machine) (before : Option Plan) (claims : List Claim) → IsSetup setup greatest_cost → IsAdmissible setup.space setup.guide.estimate → IsLawful setup begin → IsPlanIfAny setup.space before
      → AllByRecursion (λ claim. IsWeight claim.weight) claims → AreClaims setup begin before claims
      → AllByRecursion (λ claim. IsPlan setup.space claim.plan × NoneCheaper setup.space claim.weight claim.plan.cost) claims × CostsFall before claims
  all_claims setup begin before [] is admissible lawful plan weights claims = (tt, tt)
  all_claims setup begin None (claim ∷ []) is admissible lawful plan weights c =
      let one = one_claim setup begin None claim is admissible lawful plan c in (((one.0, one.1), tt), tt)
  all_claims setup begin (Some before) (claim ∷ []) is admissible lawful plan weights c =
      let one = one_claim setup begin (Some before) claim is admissible lawful plan c in (((one.0, one.1), tt), (costs_first setup begin before claim c, tt))
  all_claims setup begin None (claim ∷ next ∷ claims) is admissible lawful plan weights c =
      let one = one_claim setup begin None claim is admissible lawful plan c.0 in
      let again = reopening_is_lawful setup greatest_cost next.weight claim.machine is one.2 c.0.quiet weights.1.0 in
      let rest = all_claims (reopened_setup setup next.weight) (reopened_machine setup next.weight claim.machine) (Some claim.plan) (next ∷ claims) again.0 admissible again.1 one.0 weights.1 c.1 in
      (((one.0, one.1), rest.0), rest.1)
  all_claims setup begin (Some before) (claim ∷ next ∷ claims) is admissible lawful plan weights c =
      let one = one_claim setup begin (Some before) claim is admissible lawful plan c.0 in
      let again = reopening_is_lawful setup greatest_cost next.weight claim.machine is one.2 c.0.quiet weights.1.0 in
      let rest = all_claims (reopened_setup setup next.weight) (reopened_machine setup next.weight claim.machine) (Some claim.plan) (next ∷ claims) again.0 admissible again.1 one.0 weights.1 c.1 in
      (((one.0, one.1), rest.0), (costs_first setup begin before claim c.0, rest.1))

pub claims_hold : ReopeningIsLawful → ClaimsHold
claims_hold reopens setup greatest_cost begin claims is admissible lawful weights are = all_claims reopens greatest_cost setup begin None claims is admissible lawful tt weights are
