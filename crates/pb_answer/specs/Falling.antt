-- A search with falling weights, and what is claimed after each of its runs.
use Rattle.std.specs.Prelude.{◌≡◌, ◌⊎◌, ◌+◌, ◌<◌, ◌≤◌, ◌^◌, ℕ, ⊤, None, Some, List, [], ◌∷◌, ◌++◌, codes, length, option_map}
use Rattle.std.specs.Fmt.{decimal}
use Rattle.std.specs.List.{AllByRecursion}
use Rattle.pb_model.specs.Plan.{Plan, IsPlan, NoneCheaper, IsBound, HasNoPlan}
use Rattle.pb_model.specs.Texts.{none_report, stopped_report}
use Rattle.pb_machine.specs.declared.event.End.{End}
use Rattle.pb_machine.specs.declared.event.End.TheVariants.{Quiet, Budget}
use Rattle.pb_machine.specs.Settings.{settings_with}
use Rattle.pb_machine.specs.Machine.{Setup, Machine, Move, opening_machine}
use Rattle.pb_machine.specs.Lawful.{reopened_machine, reopened_setup}
use Rattle.pb_task.specs.declared.parts.TaskParts.{TaskParts}
use Rattle.pb_task.specs.Parts.{space_of}
use Rattle.pb_estimate.specs.Choices.{Choice}
use Rattle.pb_abstract.specs.Projection.{IsFinest}
use Rattle.pb_abstract.specs.Graph.{AbstractGraph, IsGraphOf}
use Rattle.pb_search.specs.Ends.{search_of, searched_guide, RunEnds}
use Rattle.pb_falling.specs.Falling.{weight_at, Claim, AreClaims, AfterClaims, HaveWeights, CostsFall}
use Rattle.pb_report.specs.Texts.{claim_text}
use Rattle.pb_command.specs.Meaning.{SolveMeaning}
use Rattle.pb_answer.specs.Searches.{settings_of, weight_asked}
use Rattle.pb_answer.specs.Claims.{IsCertificate}
use Rattle.pb_answer.specs.Answer.{Said}
use Rattle.pb_answer.specs.Parts.{AnswerPart, outputs_of, report_of}

-- ---- what the words ask of each run

-- the name of the certificate of a claim: the given name, a full stop and the number of the run
abbrev pub numbered : (name : List ℕ) → (run : ℕ) → List ℕ
numbered name run = name ++ (codes "." ++ decimal run)

-- What is asked of one run alone, if the weight falls in so many steps. Its weight is that of the
-- run, its certificate has the number of the run in its name, and it saves no journal.
abbrev pub asked_of_run : SolveMeaning → (steps run : ℕ) → SolveMeaning
asked_of_run solve steps run =
    record solve {
      settings = settings_with solve.settings (weight_at (weight_asked solve) steps run)
          solve.settings.pattern;
      certificate = option_map (λ name. numbered name run) solve.certificate;
      journal = None;
    }

-- the first run: a search of the task by these blocks and this estimate, as the words ask for it
abbrev pub first_setup : SolveMeaning → TaskParts → AbstractGraph → Choice → Setup
first_setup solve parts abstraction choice = search_of parts abstraction choice (settings_of solve)

-- ---- the claims

-- The claim is that of a run that began with this machine. The run came to a quiet end, as a search
-- by leases does. Earlier runs had spent so much of the budget.
abbrev pub IsOfQuietRun : Setup → (begin : Machine) → Claim → Type 0
IsOfQuietRun setup begin claim =
    (spent : ℕ) × (moves : List Move) × (run : RunEnds setup spent begin Quiet moves)
    × (run.machine ≡ claim.machine)

-- The claims are those of such runs. Each run after the first begins where the one before ended,
-- with the rows opened again at its weight.
abbrev pub AreOfQuietRuns : Setup → (begin : Machine) → List Claim → Type 0
AreOfQuietRuns setup begin [] = ⊤
AreOfQuietRuns setup begin (claim ∷ []) = IsOfQuietRun setup begin claim
AreOfQuietRuns setup begin (claim ∷ next ∷ claims) =
    IsOfQuietRun setup begin claim
    × AreOfQuietRuns (reopened_setup setup next.weight)
    (reopened_machine setup next.weight claim.machine) (next ∷ claims)

-- These are the claims of the first runs of a search by leases, as the words ask for it, over these
-- blocks and by this estimate. The weight falls in so many steps, and there is at most one claim
-- more than steps. Each run came to a quiet end. Each claim is at the weight of its run. Its plan
-- is a plan of the task, and no plan costs less than it divided by that weight. The costs never
-- rise.
pub record AreFalling (solve : SolveMeaning) (parts : TaskParts) (abstraction : AbstractGraph)
    (choice : Choice) (steps : ℕ) (claims : List Claim) : Type 0 where
  pub are : AreClaims (first_setup solve parts abstraction choice)
      (opening_machine (first_setup solve parts abstraction choice)) None claims
  pub quiet_runs : AreOfQuietRuns (first_setup solve parts abstraction choice)
      (opening_machine (first_setup solve parts abstraction choice)) claims
  pub few : length claims ≤ steps + 1
  pub weights : HaveWeights (weight_asked solve) steps 0 claims
  pub hold : AllByRecursion (λ claim. IsPlan (space_of parts) claim.plan
      × NoneCheaper (space_of parts) claim.weight claim.plan.cost) claims
  pub fall : CostsFall None claims

-- a claim whose bound isn't its cost: a cheaper plan may exist, so another run comes after it
abbrev pub MayBeImproved : Claim → Type 0
MayBeImproved claim = IsBound claim.weight claim.plan.cost claim.plan.cost → ⊥

-- After these claims a run came to this end. It is asked for by the words as the run of this number.
-- Earlier runs had spent so much of the budget.
abbrev pub EndsAfter : SolveMeaning → TaskParts → AbstractGraph → Choice → (steps : ℕ)
    → List Claim → End → Type 0
EndsAfter solve parts abstraction choice steps claims end =
    let run = length claims in
    AfterClaims (first_setup solve parts abstraction choice)
    (opening_machine (first_setup solve parts abstraction choice)) None claims
    (weight_at (weight_asked solve) steps run)
    (λ setup begin before. (spent : ℕ) × (moves : List Move)
    × RunEnds setup spent begin end moves
    × (setup.settings ≡ settings_of (asked_of_run solve steps run)))

-- ---- what is handed out

-- The part says this claim, that of the run of this number. It is printed with its weight, its plan
-- and the least whole number that is no less than the plan's cost divided by the weight. The cost
-- is a number of 64 bits. With a name the certificate of its rows is saved. It has the claim's plan
-- and its weight, states the estimate of the search, and is accepted.
pub record SaysClaim (solve : SolveMeaning) (parts : TaskParts) (abstraction : AbstractGraph)
    (choice : Choice) (steps run : ℕ) (claim : Claim) (part : AnswerPart) : Type 0 where
  pub bound : ℕ
  pub bounded : IsBound claim.weight claim.plan.cost bound
  pub fits : claim.plan.cost < 2 ^ 64
  pub report : part.report ≡ claim_text parts claim.weight claim.plan bound
  pub outputs : IsCertificate (asked_of_run solve steps run).certificate parts choice claim.weight
      (searched_guide parts abstraction choice) claim.machine.store (Some claim.plan) part.outputs

-- each part says a claim, in the order of the runs from this number on
abbrev pub SayClaims : SolveMeaning → TaskParts → AbstractGraph → Choice → (steps run : ℕ)
    → List Claim → List AnswerPart → Type 0
SayClaims solve parts abstraction choice steps run [] [] = ⊤
SayClaims solve parts abstraction choice steps run [] (part ∷ rest) = ⊥
SayClaims solve parts abstraction choice steps run (claim ∷ claims) [] = ⊥
SayClaims solve parts abstraction choice steps run (claim ∷ claims) (part ∷ rest) =
    SaysClaim solve parts abstraction choice steps run claim part
    × SayClaims solve parts abstraction choice steps (run + 1) claims rest

-- The part says that there is no plan. It is that of a first run, which came to a quiet end. With a
-- name the certificate of its rows is saved, which says so too.
abbrev pub SaysNone : SolveMeaning → TaskParts → AbstractGraph → Choice → (steps : ℕ) → AnswerPart
    → Type 0
SaysNone solve parts abstraction choice steps part =
    let setup = first_setup solve parts abstraction choice in
    HasNoPlan (space_of parts) × (part.report ≡ none_report) × (moves : List Move)
    × (run : RunEnds setup 0 (opening_machine setup) Quiet moves)
    × IsCertificate (asked_of_run solve steps 0).certificate parts choice (weight_asked solve)
    (searched_guide parts abstraction choice) run.machine.store None part.outputs

-- The part says that the budget was used up, by all runs together. Nothing is saved.
abbrev pub SaysStop : SolveMeaning → TaskParts → AbstractGraph → Choice → (steps : ℕ) → List Claim
    → AnswerPart → Type 0
SaysStop solve parts abstraction choice steps claims part =
    EndsAfter solve parts abstraction choice steps claims Budget
    × (part.report ≡ stopped_report solve.settings.budget) × (part.outputs ≡ [])

-- ---- all that is handed out of one search

-- Each part says a claim. The bound of the last one is its cost, so no plan of the task is cheaper.
-- Of no claim before it is the bound the cost.
abbrev pub IsProvedCheapest : SolveMeaning → TaskParts → AbstractGraph → Choice → (steps : ℕ)
    → List AnswerPart → Type 0
IsProvedCheapest solve parts abstraction choice steps handed_out =
    (claims : List Claim) × (last : Claim)
    × AreFalling solve parts abstraction choice steps (claims ++ last ∷ [])
    × SayClaims solve parts abstraction choice steps 0 (claims ++ last ∷ []) handed_out
    × AllByRecursion MayBeImproved claims
    × IsBound last.weight last.plan.cost last.plan.cost
    × ((plan : Plan) → IsPlan (space_of parts) plan → last.plan.cost ≤ plan.cost)

-- The one part says that there is no plan.
abbrev pub IsFallingNone : SolveMeaning → TaskParts → AbstractGraph → Choice → (steps : ℕ)
    → List AnswerPart → Type 0
IsFallingNone solve parts abstraction choice steps handed_out =
    (part : AnswerPart) × SaysNone solve parts abstraction choice steps part
    × (handed_out ≡ part ∷ [])

-- Each part but the last says a claim, of none of which the bound is the cost. The last one says
-- that the budget was used up.
abbrev pub IsFallingStop : SolveMeaning → TaskParts → AbstractGraph → Choice → (steps : ℕ)
    → List AnswerPart → Type 0
IsFallingStop solve parts abstraction choice steps handed_out =
    (claims : List Claim) × (said : List AnswerPart) × (last : AnswerPart)
    × AreFalling solve parts abstraction choice steps claims
    × SayClaims solve parts abstraction choice steps 0 claims said
    × AllByRecursion MayBeImproved claims
    × SaysStop solve parts abstraction choice steps claims last
    × (handed_out ≡ said ++ last ∷ [])

-- What is handed out first, before it is known what comes after it: each part says a claim, and of
-- none is the bound the cost, so another run is due. The blocks are those of the task, and the
-- finest that are no more than the words wish for. All runs go by this choice of an estimate.
pub record AreClaimParts (solve : SolveMeaning) (choice : Choice) (parts : TaskParts) (steps : ℕ)
    (handed_out : List AnswerPart) : Type 0 where
  pub abstraction : AbstractGraph
  pub graph_of : IsGraphOf parts abstraction
  pub finest : IsFinest parts solve.settings.wish abstraction.projection
  pub claims : List Claim
  pub falling : AreFalling solve parts abstraction choice steps claims
  pub say : SayClaims solve parts abstraction choice steps 0 claims handed_out
  pub improvable : AllByRecursion MayBeImproved claims

-- All that is handed out of a search with falling weights, part by part, if nothing fails. The
-- blocks are those of the task, and the finest that are no more than the words wish for. All runs
-- go by this choice of an estimate.
pub record IsFallingFound (solve : SolveMeaning) (choice : Choice) (parts : TaskParts) (steps : ℕ)
    (said : Said) (handed_out : List AnswerPart) : Type 0 where
  pub report : said.report ≡ report_of handed_out
  pub outputs : said.outputs ≡ outputs_of handed_out
  pub abstraction : AbstractGraph
  pub graph_of : IsGraphOf parts abstraction
  pub finest : IsFinest parts solve.settings.wish abstraction.projection
  pub found : ((said.status ≡ 0) × IsProvedCheapest solve parts abstraction choice steps handed_out)
      ⊎ (((said.status ≡ 1) × IsFallingNone solve parts abstraction choice steps handed_out)
      ⊎ ((said.status ≡ 2) × IsFallingStop solve parts abstraction choice steps handed_out))
