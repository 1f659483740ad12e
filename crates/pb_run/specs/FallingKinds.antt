-- The promises of `solve` with `--falling` for each kind of task in its own words, for a reader who
-- wants to know nothing of other kinds, of certificates or of the search.
use Rattle.std.specs.Prelude.{◌≡◌, ◌≢◌, ◌⊎◌, ℕ, ◌+◌, ◌^◌, ◌<◌, ◌≤◌, ⊤, List, [], ◌∷◌, ◌++◌, length, map, slice_get}
use Rattle.std.specs.List.{AllByRecursion}
use Rattle.pb_model.specs.Weight.{Weight}
use Rattle.pb_model.specs.Space.{Space}
use Rattle.pb_model.specs.Plan.{Plan, IsPlan as IsPlanOf, HasNoPlan, IsBound}
use Rattle.pb_model.specs.Texts.{plan_report, weight_text, none_report, stopped_report}
use Rattle.pb_task.specs.Grid.{grid_space, direction}
use Rattle.pb_task.specs.Tiles.{tiles_space}
use Rattle.pb_pddl.specs.declared.tree.Domain.{Domain}
use Rattle.pb_pddl.specs.declared.tree.Problem.{Problem}
use Rattle.pb_lifted.specs.Plans.{NamedAction, IsPlan, plan_cost}
use Rattle.pb_strips.specs.Names.{action_bytes}
use Rattle.pb_falling.specs.Falling.{weight_at}
use Rattle.pb_command.specs.Meaning.{FallingMeaning}
use Rattle.pb_answer.specs.Spelled.{OfGrid, OfTiles}
use Rattle.pb_answer.specs.Named.{OfTrees, NoneBelow, NoneCheaperByNames, HasNoNamedPlan}
use Rattle.pb_answer.specs.Stops.{StopsSolve}
use Rattle.pb_run.specs.Outcome.{Outcome, IfFalling}
use Rattle.pb_run.specs.Kinds.{weight_of_words, IfMap, IfBoard}
use Rattle.pb_run.specs.FallingHeadline.{PrintedClaim, claims_text, AreClaimsOf, MayBeCheaper, IsRefusedInPart, IsStoppedInPart}

-- ---- any space

-- Claims are printed one after another, and then this text. Each has a plan of the space, at the
-- weight of its run. No plan costs less than that cost divided by that weight, and the costs never
-- rise.
abbrev pub PrintsClaims : (report : List ℕ) → Space → (name : ℕ → List ℕ) → Weight → (steps : ℕ)
    → (rest : List ℕ) → Type 0
PrintsClaims report space name weight steps rest =
    (claims : List PrintedClaim) × AreClaimsOf space weight steps claims
    × (report ≡ claims_text name claims ++ rest)

-- What is printed is a prefix of a report that would be true: of such claims, of such claims with a
-- stop at this budget, or of there being no plan.
abbrev pub PrintsInPart : (report : List ℕ) → Space → (name : ℕ → List ℕ) → Weight → (steps : ℕ)
    → (budget : ℕ) → Type 0
PrintsInPart report space name weight steps budget =
    (rest : List ℕ) × (PrintsClaims (report ++ rest) space name weight steps []
    ⊎ (PrintsClaims (report ++ rest) space name weight steps (stopped_report budget)
    ⊎ ((report ++ rest ≡ none_report) × HasNoPlan space)))

-- Such claims are printed, and nothing else. The bound of the last one is its cost, and no plan is
-- cheaper. It is the first claim of which that is so.
abbrev pub PrintsCheapestLast : (report : List ℕ) → Space → (name : ℕ → List ℕ) → Weight
    → (steps : ℕ) → Type 0
PrintsCheapestLast report space name weight steps =
    (claims : List PrintedClaim) × (last : PrintedClaim)
    × AreClaimsOf space weight steps (claims ++ last ∷ [])
    × (report ≡ claims_text name (claims ++ last ∷ []))
    × AllByRecursion MayBeCheaper claims × (last.bound ≡ last.plan.cost)
    × ((plan : Plan) → IsPlanOf space plan → last.plan.cost ≤ plan.cost)

-- ---- maps

-- What `solve` with `--falling` promises of a map:
-- - `proved`: claims are printed. Their plans are plans of the grid that the map and the scenario
--   spell, and no plan is cheaper than the last.
-- - `none`: the grid has no plan.
-- - `stopped`: such claims are printed, and then the budget that is used up.
-- - `short`, `unsaved`: if memory ran out or a file wasn't saved, nothing is printed, or such claims
--   and nothing else.
-- - `unprinted`: if the output failed, a prefix of such a report is printed, or of a refusal's.
pub record FallingMapHolds (falling : FallingMeaning) (it : Outcome) : Type 0 where
  pub proved : it.said.status ≡ 0
      → OfGrid (slice_get it.texts 0) (slice_get it.texts 1) falling.solve.options
      (λ grid. PrintsCheapestLast it.said.report (grid_space grid) direction
      (weight_of_words falling.solve) falling.steps)
  pub none : it.said.status ≡ 1
      → OfGrid (slice_get it.texts 0) (slice_get it.texts 1) falling.solve.options
      (λ grid. HasNoPlan (grid_space grid))
  pub stopped : it.said.status ≡ 2
      → OfGrid (slice_get it.texts 0) (slice_get it.texts 1) falling.solve.options
      (λ grid. PrintsClaims it.said.report (grid_space grid) direction
      (weight_of_words falling.solve) falling.steps
      (stopped_report falling.solve.settings.budget))
  pub short : it.said.status ≡ 71 → (it.said.report ≡ [])
      ⊎ OfGrid (slice_get it.texts 0) (slice_get it.texts 1) falling.solve.options
      (λ grid. PrintsClaims it.said.report (grid_space grid) direction
      (weight_of_words falling.solve) falling.steps [])
  pub unsaved : it.said.status ≡ 73 → (it.said.report ≡ [])
      ⊎ OfGrid (slice_get it.texts 0) (slice_get it.texts 1) falling.solve.options
      (λ grid. PrintsClaims it.said.report (grid_space grid) direction
      (weight_of_words falling.solve) falling.steps [])
  pub unprinted : it.said.status ≡ 74 → IsRefusedInPart falling.solve it.texts it.said
      ⊎ OfGrid (slice_get it.texts 0) (slice_get it.texts 1) falling.solve.options
      (λ grid. PrintsInPart it.said.report (grid_space grid) direction
      (weight_of_words falling.solve) falling.steps falling.solve.settings.budget)

abbrev pub FallingMapsHold : Outcome → Type 0
FallingMapsHold it = IfFalling it.asked (λ falling. IfMap falling.solve.input
    (FallingMapHolds falling it))

-- ---- boards

-- The same of the sliding tiles that the text spells.
pub record FallingBoardHolds (falling : FallingMeaning) (it : Outcome) : Type 0 where
  pub proved : it.said.status ≡ 0 → OfTiles (slice_get it.texts 0)
      (λ tiles. PrintsCheapestLast it.said.report (tiles_space tiles) direction
      (weight_of_words falling.solve) falling.steps)
  pub none : it.said.status ≡ 1
      → OfTiles (slice_get it.texts 0) (λ tiles. HasNoPlan (tiles_space tiles))
  pub stopped : it.said.status ≡ 2 → OfTiles (slice_get it.texts 0)
      (λ tiles. PrintsClaims it.said.report (tiles_space tiles) direction
      (weight_of_words falling.solve) falling.steps
      (stopped_report falling.solve.settings.budget))
  pub short : it.said.status ≡ 71 → (it.said.report ≡ [])
      ⊎ OfTiles (slice_get it.texts 0)
      (λ tiles. PrintsClaims it.said.report (tiles_space tiles) direction
      (weight_of_words falling.solve) falling.steps [])
  pub unsaved : it.said.status ≡ 73 → (it.said.report ≡ [])
      ⊎ OfTiles (slice_get it.texts 0)
      (λ tiles. PrintsClaims it.said.report (tiles_space tiles) direction
      (weight_of_words falling.solve) falling.steps [])
  pub unprinted : it.said.status ≡ 74 → IsRefusedInPart falling.solve it.texts it.said
      ⊎ OfTiles (slice_get it.texts 0)
      (λ tiles. PrintsInPart it.said.report (tiles_space tiles) direction
      (weight_of_words falling.solve) falling.steps falling.solve.settings.budget)

abbrev pub FallingBoardsHold : Outcome → Type 0
FallingBoardsHold it = IfFalling it.asked (λ falling. IfBoard falling.solve.input
    (FallingBoardHolds falling it))

-- ---- PDDL

-- a claim by names: the weight of its run, actions of the domain with objects, and the bound
pub record NamedClaim : Type 0 where
  pub weight : Weight
  pub actions : List NamedAction
  pub bound : ℕ

-- its text: a line with the weight, and then what the actions cost together, each as
-- `(name object ..)`, and the bound
abbrev pub named_text : Domain → Problem → NamedClaim → List ℕ
named_text domain problem claim =
    weight_text claim.weight
    ++ plan_report (map (action_bytes domain) claim.actions)
    (plan_cost domain problem claim.actions) claim.bound

abbrev pub named_claims_text : Domain → Problem → List NamedClaim → List ℕ
named_claims_text domain problem [] = []
named_claims_text domain problem (claim ∷ claims) =
    named_text domain problem claim ++ named_claims_text domain problem claims

abbrev pub NamedAtWeights : Weight → (steps run : ℕ) → List NamedClaim → Type 0
NamedAtWeights weight steps run [] = ⊤
NamedAtWeights weight steps run (claim ∷ claims) =
    (claim.weight ≡ weight_at weight steps run) × NamedAtWeights weight steps (run + 1) claims

abbrev pub NamedNeverRise : Domain → Problem → List NamedClaim → Type 0
NamedNeverRise domain problem [] = ⊤
NamedNeverRise domain problem (claim ∷ []) = ⊤
NamedNeverRise domain problem (claim ∷ next ∷ claims) =
    (plan_cost domain problem next.actions ≤ plan_cost domain problem claim.actions)
    × NamedNeverRise domain problem (next ∷ claims)

-- What is promised of claims by names, as of `AreClaimsOf`.
pub record AreNamedClaims (domain : Domain) (problem : Problem) (weight : Weight) (steps : ℕ)
    (claims : List NamedClaim) : Type 0 where
  pub weights : NamedAtWeights weight steps 0 claims
  pub few : length claims ≤ steps + 1
  pub plans : AllByRecursion (λ claim. IsPlan domain problem claim.actions
      × IsBound claim.weight (plan_cost domain problem claim.actions) claim.bound) claims
  pub cheapest : AllByRecursion (λ claim. NoneCheaperByNames domain problem claim.weight
      (plan_cost domain problem claim.actions)) claims
  pub fall : NamedNeverRise domain problem claims
  pub fit : AllByRecursion (λ claim. plan_cost domain problem claim.actions < 2 ^ 64) claims

-- the bound isn't the cost, so a cheaper plan may exist
abbrev pub NamedMayBeCheaper : Domain → Problem → NamedClaim → Type 0
NamedMayBeCheaper domain problem claim = claim.bound ≢ plan_cost domain problem claim.actions

abbrev pub PrintsNamedClaims : (report : List ℕ) → Weight → (steps : ℕ) → (rest : List ℕ)
    → Domain → Problem → Type 0
PrintsNamedClaims report weight steps rest domain problem =
    (claims : List NamedClaim) × AreNamedClaims domain problem weight steps claims
    × (report ≡ named_claims_text domain problem claims ++ rest)

-- What is printed is a prefix of such a report, with a stop at this budget or without, or of there
-- being no plan.
abbrev pub PrintsNamedInPart : (report : List ℕ) → Weight → (steps budget : ℕ) → Domain → Problem
    → Type 0
PrintsNamedInPart report weight steps budget domain problem =
    (rest : List ℕ) × (PrintsNamedClaims (report ++ rest) weight steps [] domain problem
    ⊎ (PrintsNamedClaims (report ++ rest) weight steps (stopped_report budget) domain problem
    ⊎ ((report ++ rest ≡ none_report) × HasNoNamedPlan domain problem)))

-- Such claims are printed, and nothing else. The bound of the last one is its cost, and no plan is
-- cheaper. It is the first claim of which that is so.
abbrev pub PrintsNamedLast : (report : List ℕ) → Weight → (steps : ℕ) → Domain → Problem → Type 0
PrintsNamedLast report weight steps domain problem =
    (claims : List NamedClaim) × (last : NamedClaim)
    × AreNamedClaims domain problem weight steps (claims ++ last ∷ [])
    × (report ≡ named_claims_text domain problem (claims ++ last ∷ []))
    × AllByRecursion (NamedMayBeCheaper domain problem) claims
    × (last.bound ≡ plan_cost domain problem last.actions)
    × NoneBelow domain problem (plan_cost domain problem last.actions)

-- What `solve` with `--falling` promises of a domain and a problem, by names, as for a map. A state
-- is a set of facts, and an action is one of the domain's with objects. At 2 grounding may have
-- been stopped too, and at 74 the line of that may be printed in part.
pub record FallingNamedHolds (falling : FallingMeaning) (it : Outcome) : Type 0 where
  pub proved : it.said.status ≡ 0 → OfTrees falling.solve.input 0 it.texts
      (PrintsNamedLast it.said.report (weight_of_words falling.solve) falling.steps)
  pub none : it.said.status ≡ 1 → OfTrees falling.solve.input 0 it.texts HasNoNamedPlan
  pub stopped : it.said.status ≡ 2 → OfTrees falling.solve.input 0 it.texts
      (PrintsNamedClaims it.said.report (weight_of_words falling.solve) falling.steps
      (stopped_report falling.solve.settings.budget))
      ⊎ StopsSolve falling.solve it.texts it.said
  pub short : it.said.status ≡ 71 → (it.said.report ≡ [])
      ⊎ OfTrees falling.solve.input 0 it.texts
      (PrintsNamedClaims it.said.report (weight_of_words falling.solve) falling.steps [])
  pub unsaved : it.said.status ≡ 73 → (it.said.report ≡ [])
      ⊎ OfTrees falling.solve.input 0 it.texts
      (PrintsNamedClaims it.said.report (weight_of_words falling.solve) falling.steps [])
  pub unprinted : it.said.status ≡ 74 → IsRefusedInPart falling.solve it.texts it.said
      ⊎ (IsStoppedInPart falling.solve it.texts it.said
      ⊎ OfTrees falling.solve.input 0 it.texts
      (PrintsNamedInPart it.said.report (weight_of_words falling.solve) falling.steps
      falling.solve.settings.budget))

abbrev pub FallingNamedHold : Outcome → Type 0
FallingNamedHold it = IfFalling it.asked (λ falling. FallingNamedHolds falling it)
