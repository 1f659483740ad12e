-- Claims with one more behind them.
use Rattle.std.proofs.Common.{◌≡◌, ℕ, ◌+◌, ◌≤◌, List, [], ◌∷◌, ◌++◌, length, Option, Some, sym, ◌∙◌, subst, arith}
use Rattle.std.specs.List.{AllByRecursion}
use Rattle.pb_model.specs.Weight.{Weight, IsWeight}
use Rattle.pb_model.specs.Plan.{Plan}
use Rattle.pb_machine.specs.Machine.{Setup, Machine}
use Rattle.pb_machine.specs.Lawful.{reopened_machine, reopened_setup}
use Rattle.pb_falling.specs.Falling.{weight_at, Claim, IsClaim, AreClaims, first_weight, AfterClaims, HaveWeights}
use Rattle.pb_falling.proofs.Weights.{weights_fall}

-- what is said of a run
abbrev pub RunTold : Type 1
RunTold = Setup → Machine → Option Plan → Type 0

-- what holds of the run after the claims
pub run_after : (P Q : RunTold) → ((setup : Setup) (begin : Machine) (before : Option Plan) → P setup begin before → Q setup begin before)
    → (setup : Setup) (begin : Machine) (before : Option Plan) (claims : List Claim) (next : Weight) → AfterClaims setup begin before claims next P → AfterClaims setup begin before claims next Q
run_after P Q gives setup begin before [] next after = gives setup begin before after
run_after P Q gives setup begin before (claim ∷ claims) next after =
    let weight = first_weight claims next in
    (after.0, run_after P Q gives (reopened_setup setup weight) (reopened_machine setup weight claim.machine) (Some claim.plan) claims next after.1)

-- there is a run after the claims
pub some_run : (P : RunTold) (setup : Setup) (begin : Machine) (before : Option Plan) (claims : List Claim) (next : Weight) → AfterClaims setup begin before claims next P
    → (last : Setup) × (from : Machine) × (plan : Option Plan) × P last from plan
some_run P setup begin before [] next after = (setup, begin, before, after)
some_run P setup begin before (claim ∷ claims) next after =
    let weight = first_weight claims next in
    some_run P (reopened_setup setup weight) (reopened_machine setup weight claim.machine) (Some claim.plan) claims next after.1

-- if there are claims before it, there is a plan before it
pub claim_runs : (P : RunTold) (setup : Setup) (begin : Machine) (before : Option Plan) (claim : Claim) (claims : List Claim) (next : Weight) → AfterClaims setup begin before (claim ∷ claims) next P
    → (last : Setup) × (from : Machine) × (plan : Plan) × P last from (Some plan)
claim_runs P setup begin before claim [] next after = (reopened_setup setup next, reopened_machine setup next claim.machine, claim.plan, after.1)
claim_runs P setup begin before claim (more ∷ claims) next after =
    claim_runs P (reopened_setup setup more.weight) (reopened_machine setup more.weight claim.machine) (Some claim.plan) more claims next after.1

-- the claim of the run after some claims is one more claim
pub claims_grow : (setup : Setup) (begin : Machine) (before : Option Plan) (claims : List Claim) (claim : Claim)
    → AfterClaims setup begin before claims claim.weight (λ last from plan. IsClaim last from plan claim) → AreClaims setup begin before (claims ++ claim ∷ [])
claims_grow setup begin before [] claim after = after
claims_grow setup begin before (one ∷ []) claim after = after
claims_grow setup begin before (one ∷ two ∷ claims) claim after =
    (after.0, claims_grow (reopened_setup setup two.weight) (reopened_machine setup two.weight one.machine) (Some one.plan) (two ∷ claims) claim after.1)

-- and a further run comes after it
pub runs_go_on : (P : RunTold) (setup : Setup) (begin : Machine) (before : Option Plan) (claims : List Claim) (claim : Claim) (next : Weight)
    → AfterClaims setup begin before claims claim.weight
    (λ last from plan. IsClaim last from plan claim × P (reopened_setup last next) (reopened_machine last next claim.machine) (Some claim.plan))
    → AfterClaims setup begin before (claims ++ claim ∷ []) next P
runs_go_on P setup begin before [] claim next after = after
runs_go_on P setup begin before (one ∷ []) claim next after = after
runs_go_on P setup begin before (one ∷ two ∷ claims) claim next after =
    (after.0, runs_go_on P (reopened_setup setup two.weight) (reopened_machine setup two.weight one.machine) (Some one.plan) (two ∷ claims) claim next after.1)

-- what comes before a run are claims
pub claims_before : (P : RunTold) (setup : Setup) (begin : Machine) (before : Option Plan) (claims : List Claim) (next : Weight) → AfterClaims setup begin before claims next P → AreClaims setup begin before claims
claims_before P setup begin before [] next after = tt
claims_before P setup begin before (one ∷ []) next after = after.0
claims_before P setup begin before (one ∷ two ∷ claims) next after =
    (after.0, claims_before P (reopened_setup setup two.weight) (reopened_machine setup two.weight one.machine) (Some one.plan) (two ∷ claims) next after.1)

-- ---- weights

pub one_more_weight : (weight : Weight) (steps run : ℕ) (claims : List Claim) (claim : Claim) → HaveWeights weight steps run claims
    → claim.weight ≡ weight_at weight steps (run + length claims) → HaveWeights weight steps run (claims ++ claim ∷ [])
one_more_weight weight steps run [] claim have is = (is ∙ same, tt)
  where
    same : weight_at weight steps (run + 0) ≡ weight_at weight steps run
    same = let e : run + 0 ≡ run = omega arith in λ i. weight_at weight steps (e i)
one_more_weight weight steps run (one ∷ claims) claim have is = (have.0, one_more_weight weight steps (run + 1) claims claim have.1 (is ∙ same))
  where
    same : weight_at weight steps (run + length (one ∷ claims)) ≡ weight_at weight steps ((run + 1) + length claims)
    same = let e : run + length (one ∷ claims) ≡ (run + 1) + length claims = omega arith in λ i. weight_at weight steps (e i)

-- each of them is a weight
pub all_weights : (weight : Weight) (steps run : ℕ) (claims : List Claim) → IsWeight weight → 1 ≤ steps → run + length claims ≤ steps + 1
    → HaveWeights weight steps run claims → AllByRecursion (λ claim. IsWeight claim.weight) claims
all_weights weight steps run [] is some within have = tt
all_weights weight steps run (claim ∷ claims) is some within have = (
  subst IsWeight (sym have.0) (weights_fall weight steps run is some (omega (arith, within))).0,
  all_weights weight steps (run + 1) claims is some (omega (arith, within)) have.1,
)
