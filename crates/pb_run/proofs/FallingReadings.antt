-- What holds of printed claims holds of whatever claims are read off their text.
use Rattle.std.proofs.Common.{◌≡◌, ℕ, ◌+◌, ◌^◌, ◌<◌, ◌≤◌, List, [], ◌∷◌, length, sym, subst, arith, lit<, le_trans, lt_of_le_of_lt, mul-le-mul_right}
use Rattle.std.specs.List.{AllByRecursion}
use Rattle.pb_model.specs.Weight.{Weight, IsWeight}
use Rattle.pb_model.specs.Space.{Space, IsProper}
use Rattle.pb_model.specs.Plan.{Walk, IsPlan, NoneCheaper, IsBound}
use Rattle.pb_falling.proofs.Callers.{weights_fall}
use Rattle.pb_run.specs.FallingHeadline.{PrintedClaim, AreAtWeights, CostsNeverRise}
use Rattle.pb_run.specs.FallingLaws.{HasSmallNumbers, SayTheSame, ReadClaimsHold}
use Rattle.pb_run.proofs.FallingReports.{claims_are_told_by_their_text}

-- ---- the numbers of claims

-- the bound of a cost is no more than it
bound_below : (weight : Weight) (cost bound : ℕ) → IsWeight weight → IsBound weight cost bound → bound ≤ cost
bound_below weight cost bound is bounded = bounded.least cost (mul-le-mul_right cost is.at_least_one)

module _ (space : Space) (greatest_cost : ℕ) (proper : IsProper space greatest_cost) where
  -- each step costs at least 1
  few_steps : (actions : List ℕ) (from cost to : ℕ) → Walk space from actions cost to → length actions ≤ cost
  few_steps [] from cost to walk = omega arith
  few_steps (action ∷ actions) from cost to walk =
      let rest = few_steps actions walk.0 walk.2 to walk.4 in
      let first = proper.positive from action walk.0 walk.1 walk.3 in
      let all = walk.5 in
      omega (arith, rest, first, all)

  small_claim : (claim : PrintedClaim) → IsWeight claim.weight → IsPlan space claim.plan × IsBound claim.weight claim.plan.cost claim.bound → claim.plan.cost < 2 ^ 64 → HasSmallNumbers claim
  small_claim claim weight (plan, bounded) fits = record {
    num = lt_of_le_of_lt weight.small (lit< tt);
    den = lt_of_le_of_lt (le_trans weight.at_least_one weight.small) (lit< tt);
    cost = fits;
    steps = lt_of_le_of_lt (few_steps claim.plan.actions space.start claim.plan.cost plan.0 plan.1) fits;
    bound = lt_of_le_of_lt (bound_below claim.weight claim.plan.cost claim.bound weight bounded) fits;
  }

  small_claims : (weight : Weight) (steps run : ℕ) (claims : List PrintedClaim) → IsWeight weight → 1 ≤ steps → run + length claims ≤ steps + 1 → AreAtWeights weight steps run claims
      → AllByRecursion (λ claim. IsPlan space claim.plan × IsBound claim.weight claim.plan.cost claim.bound) claims
      → AllByRecursion (λ claim. claim.plan.cost < 2 ^ 64) claims → AllByRecursion HasSmallNumbers claims
  small_claims weight steps run [] is some few at plans fit = tt
  small_claims weight steps run (claim ∷ claims) is some few at plans fit = (
    small_claim claim (subst (λ (w : Weight). IsWeight w) (sym at.0) (weights_fall weight steps run is some (omega (arith, few))).0) plans.0 fit.0,
    small_claims weight steps (run + 1) claims is some (omega (arith, few)) at.1 plans.1 fit.1,
  )

-- ---- what is read

cheapest_read : (space : Space) (name : ℕ → List ℕ) (claims read : List PrintedClaim) → SayTheSame name claims read
    → AllByRecursion (λ claim. NoneCheaper space claim.weight claim.plan.cost) claims → AllByRecursion (λ claim. NoneCheaper space claim.weight claim.plan.cost) read
cheapest_read space name [] [] same least = tt
cheapest_read space name [] (other ∷ read) same least = absurd same
cheapest_read space name (claim ∷ claims) [] same least = absurd same
cheapest_read space name (claim ∷ claims) (other ∷ read) same least = (
  subst (λ (w : Weight). NoneCheaper space w other.plan.cost) same.0
      (subst (λ (n : ℕ). NoneCheaper space claim.weight n) same.1 least.0),
  cheapest_read space name claims read same.4 least.1,
)

falls_read : (name : ℕ → List ℕ) (claims read : List PrintedClaim) → SayTheSame name claims read → CostsNeverRise claims → CostsNeverRise read
falls_read name [] [] same fall = tt
falls_read name [] (other ∷ read) same fall = absurd same
falls_read name (claim ∷ claims) [] same fall = absurd same
falls_read name (claim ∷ []) (other ∷ []) same fall = tt
falls_read name (claim ∷ []) (other ∷ next ∷ read) same fall = absurd same.4
falls_read name (claim ∷ one ∷ claims) (other ∷ []) same fall = absurd same.4
falls_read name (claim ∷ one ∷ claims) (other ∷ next ∷ read) same fall =
    let below : one.plan.cost ≤ claim.plan.cost = fall.0 in
    let before : claim.plan.cost ≡ other.plan.cost = same.1 in
    let now : one.plan.cost ≡ next.plan.cost = same.4.1 in
    (omega (arith, below, before, now), falls_read name (one ∷ claims) (next ∷ read) same.4 fall.1)

pub read_claims_hold : ReadClaimsHold
read_claims_hold space greatest_cost weight steps name claims read rest proper is some free are small e =
    let few : 0 + length claims ≤ steps + 1 = omega (arith, are.few) in
    let own = small_claims space greatest_cost proper weight steps 0 claims is some few are.weights are.plans are.fit in
    let same = claims_are_told_by_their_text name claims read rest free own small e in
    (same, cheapest_read space name claims read same are.cheapest, falls_read name claims read same are.fall)
