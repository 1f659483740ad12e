-- The laws of this crate.
use Rattle.std.specs.Prelude.{◌≡◌, ℕ, ◌+◌, ◌≤◌, List, [], ◌∷◌, None}
use Rattle.std.specs.List.{AllByRecursion}
use Rattle.pb_model.specs.Weight.{Weight, IsWeight}
use Rattle.pb_model.specs.Plan.{IsPlan, NoneCheaper}
use Rattle.pb_model.specs.Guide.{IsAdmissible}
use Rattle.pb_machine.specs.Machine.{Setup, IsSetup, Machine}
use Rattle.pb_machine.specs.Lawful.{IsLawful}
use Rattle.pb_falling.specs.Falling.{weight_at, Claim, AreClaims, CostsFall}

-- The weights fall from the first one to den/den, and each is a weight.
abbrev pub WeightsFall : Type 0
WeightsFall =
    (weight : Weight) (steps k : ℕ) → IsWeight weight → 1 ≤ steps → k ≤ steps
    → IsWeight (weight_at weight steps k)
    × ((weight_at weight steps 0).num ≡ weight.num)
    × ((weight_at weight steps steps).num ≡ weight.den)
    × ((weight_at weight steps (k + 1)).num ≤ (weight_at weight steps k).num)

-- Each claim's plan is a plan, and no plan costs less than it divided by the claim's weight. The
-- costs of the claims never rise.
abbrev pub ClaimsHold : Type 0
ClaimsHold =
    (setup : Setup) (greatest_cost : ℕ) (begin : Machine) (claims : List Claim)
    → IsSetup setup greatest_cost → IsAdmissible setup.space setup.guide.estimate
    → IsLawful setup begin → AllByRecursion (λ claim. IsWeight claim.weight) claims
    → AreClaims setup begin None claims
    → AllByRecursion (λ claim. IsPlan setup.space claim.plan
    × NoneCheaper setup.space claim.weight claim.plan.cost) claims
    × CostsFall None claims

-- the numerator of the run, if the weight falls from 3 to 1 in so many steps
abbrev pub from_three : (steps run : ℕ) → ℕ
from_three steps run = (weight_at (record { num = 3; den = 1 }) steps run).num

-- worked weights: in 2 steps, and in 4, where each of two weights comes twice
abbrev pub WorkedWeights : Type 0
WorkedWeights =
    (◌≡◌ {A = List ℕ} (from_three 2 0 ∷ from_three 2 1 ∷ from_three 2 2 ∷ []) (3 ∷ 2 ∷ 1 ∷ []))
    × (◌≡◌ {A = List ℕ}
    (from_three 4 0 ∷ from_three 4 1 ∷ from_three 4 2 ∷ from_three 4 3 ∷ from_three 4 4 ∷ [])
    (3 ∷ 2 ∷ 2 ∷ 1 ∷ 1 ∷ []))
