-- What is known of each claim of a search with falling weights, by its place. `pb_run` cites this
-- module.
use Rattle.std.proofs.Common.{◌≡◌, ◌≤◌, ◌+◌, ℕ, zero, suc, Option, None, Some, List, [], ◌∷◌, length, slice_get, refl, sym, ap, ◌∙◌, subst, arith}
use Rattle.std.specs.List.{AllByRecursion}
use Rattle.pb_model.specs.Weight.{Weight}
use Rattle.pb_model.specs.Plan.{Plan, IsPlan, NoneCheaper}
use Rattle.pb_task.specs.declared.parts.TaskParts.{TaskParts}
use Rattle.pb_task.specs.Parts.{space_of}
use Rattle.pb_estimate.specs.Choices.{Choice}
use Rattle.pb_abstract.specs.Graph.{AbstractGraph}
use Rattle.pb_falling.specs.Falling.{weight_at, Claim, HaveWeights, CostsFall}
use Rattle.pb_command.specs.Meaning.{SolveMeaning}
use Rattle.pb_answer.specs.Parts.{AnswerPart}
use Rattle.pb_answer.specs.Searches.{weight_asked}
use Rattle.pb_answer.specs.Falling.{SaysClaim, SayClaims, AreFalling}

-- no claims yet
pub no_claims : (solve : SolveMeaning) (parts : TaskParts) (abstraction : AbstractGraph) (choice : Choice) (steps : ℕ) → AreFalling solve parts abstraction choice steps []
no_claims solve parts abstraction choice steps = record { are = tt; quiet_runs = tt; few = omega arith; weights = tt; hold = tt; fall = tt }

-- ---- lists

holds_at : (P : Claim → Type 0) (claims : List Claim) (place : ℕ) (claim : Claim) → slice_get claims place ≡ Some claim → AllByRecursion P claims → P claim
holds_at P [] place claim is all = cc
holds_at P (one ∷ claims) zero claim is all = let same : one ≡ claim = cc in subst P same all.0
holds_at P (one ∷ claims) (suc place) claim is all = holds_at P claims place claim is all.1

weight_of_claim : (weight : Weight) (steps run : ℕ) (claims : List Claim) (place : ℕ) (claim : Claim) → slice_get claims place ≡ Some claim → HaveWeights weight steps run claims
    → claim.weight ≡ weight_at weight steps (run + place)
weight_of_claim weight steps run [] place claim is have = cc
weight_of_claim weight steps run (one ∷ claims) zero claim is have =
    let same : one ≡ claim = cc in
    let here : run ≡ run + 0 = omega arith in
    ap (λ (c : Claim). c.weight) (sym same) ∙ have.0 ∙ (λ i. weight_at weight steps (here i))
weight_of_claim weight steps run (one ∷ claims) (suc place) claim is have =
    let here : (run + 1) + place ≡ run + suc place = omega arith in
    weight_of_claim weight steps (run + 1) claims place claim is have.1 ∙ (λ i. weight_at weight steps (here i))

falls_below : (before : Plan) (claims : List Claim) (place : ℕ) (claim : Claim) → slice_get claims place ≡ Some claim → CostsFall (Some before) claims → claim.plan.cost ≤ before.cost
falls_below before [] place claim is fall = cc
falls_below before (one ∷ claims) zero claim is fall = let same : one ≡ claim = cc in subst (λ (c : Claim). c.plan.cost ≤ before.cost) same fall.0
falls_below before (one ∷ claims) (suc place) claim is fall =
    let rest = falls_below one.plan claims place claim is fall.1 in
    omega (arith, rest, fall.0)

falls_from : (before : Option Plan) (one : Claim) (claims : List Claim) → CostsFall before (one ∷ claims) → CostsFall (Some one.plan) claims
falls_from None one claims fall = fall
falls_from (Some before) one claims fall = fall.1

falls_at : (before : Option Plan) (claims : List Claim) (place other : ℕ) (claim later : Claim) → place ≤ other → slice_get claims place ≡ Some claim → slice_get claims other ≡ Some later → CostsFall before claims
    → later.plan.cost ≤ claim.plan.cost
falls_at before [] place other claim later le is also fall = cc
falls_at before (one ∷ claims) zero zero claim later le is also fall =
    let same : later ≡ claim = cc in
    let costs = ap (λ (c : Claim). c.plan.cost) same in
    omega (arith, costs)
falls_at before (one ∷ claims) zero (suc other) claim later le is also fall =
    let same : one ≡ claim = cc in
    subst (λ (c : Claim). later.plan.cost ≤ c.plan.cost) same (falls_below one.plan claims other later also (falls_from before one claims fall))
falls_at before (one ∷ claims) (suc place) zero claim later le is also fall = absurd (omega (arith, le))
falls_at before (one ∷ claims) (suc place) (suc other) claim later le is also fall = falls_at (Some one.plan) claims place other claim later (omega (arith, le)) is also (falls_from before one claims fall)

-- ---- the claims of a search

module _ (solve : SolveMeaning) (parts : TaskParts) (abstraction : AbstractGraph) (choice : Choice) (steps : ℕ) (claims : List Claim) (falling : AreFalling solve parts abstraction choice steps claims) where
  -- the claim at a place is at the weight of its run, of a plan, and no plan is cheaper than that weight allows
  pub claim_at : (place : ℕ) (claim : Claim) → slice_get claims place ≡ Some claim
      → (claim.weight ≡ weight_at (weight_asked solve) steps place) × IsPlan (space_of parts) claim.plan × NoneCheaper (space_of parts) claim.weight claim.plan.cost
  claim_at place claim is =
      let holds = holds_at (λ c. IsPlan (space_of parts) c.plan × NoneCheaper (space_of parts) c.weight c.plan.cost) claims place claim is falling.hold in
      let here : 0 + place ≡ place = omega arith in
      (weight_of_claim (weight_asked solve) steps 0 claims place claim is falling.weights ∙ (λ i. weight_at (weight_asked solve) steps (here i)), holds.0, holds.1)

  -- a later claim costs no more
  pub costs_fall_at : (place other : ℕ) (claim later : Claim) → place ≤ other → slice_get claims place ≡ Some claim → slice_get claims other ≡ Some later → later.plan.cost ≤ claim.plan.cost
  costs_fall_at place other claim later le is also = falls_at None claims place other claim later le is also falling.fall

-- ---- the parts that say them

-- the part at a place says the claim at that place
pub part_says : (solve : SolveMeaning) (parts : TaskParts) (abstraction : AbstractGraph) (choice : Choice) (steps run : ℕ) (claims : List Claim) (handed_out : List AnswerPart)
    → SayClaims solve parts abstraction choice steps run claims handed_out → (place : ℕ) (part : AnswerPart) → slice_get handed_out place ≡ Some part
    → (claim : Claim) × (slice_get claims place ≡ Some claim) × SaysClaim solve parts abstraction choice steps (run + place) claim part
part_says solve parts abstraction choice steps run [] [] say place part is = cc
part_says solve parts abstraction choice steps run [] (first ∷ rest) say place part is = absurd say
part_says solve parts abstraction choice steps run (claim ∷ claims) [] say place part is = absurd say
part_says solve parts abstraction choice steps run (claim ∷ claims) (first ∷ rest) say zero part is =
    let same : first ≡ part = cc in
    let here : run ≡ run + 0 = omega arith in
    (claim, refl, subst (λ (p : AnswerPart). SaysClaim solve parts abstraction choice steps (run + 0) claim p) same (subst (λ n. SaysClaim solve parts abstraction choice steps n claim first) here say.0))
part_says solve parts abstraction choice steps run (claim ∷ claims) (first ∷ rest) say (suc place) part is =
    let found = part_says solve parts abstraction choice steps (run + 1) claims rest say.1 place part is in
    let here : (run + 1) + place ≡ run + suc place = omega arith in
    (found.0, found.1, subst (λ n. SaysClaim solve parts abstraction choice steps n found.0 part) here found.2)

-- there are as many parts as claims
pub as_many_parts : (solve : SolveMeaning) (parts : TaskParts) (abstraction : AbstractGraph) (choice : Choice) (steps run : ℕ) (claims : List Claim) (handed_out : List AnswerPart)
    → SayClaims solve parts abstraction choice steps run claims handed_out → length handed_out ≡ length claims
as_many_parts solve parts abstraction choice steps run [] [] say = refl
as_many_parts solve parts abstraction choice steps run [] (first ∷ rest) say = absurd say
as_many_parts solve parts abstraction choice steps run (claim ∷ claims) [] say = absurd say
as_many_parts solve parts abstraction choice steps run (claim ∷ claims) (first ∷ rest) say = ap suc (as_many_parts solve parts abstraction choice steps (run + 1) claims rest say.1)
