-- What `solve` with `--falling` promises, whatever it ends with. A claim is a plan with the weight
-- of its run and a bound. The same promises for each kind of task in its own words are in
-- `FallingKinds`.
use Rattle.std.specs.Prelude.{◌≡◌, ◌≢◌, ◌⊎◌, ℕ, ◌+◌, ◌^◌, ◌<◌, ◌≤◌, ⊤, Option, None, Some, List, [], ◌∷◌, ◌++◌, length, map}
use Rattle.std.specs.List.{AllByRecursion}
use Rattle.pb_model.specs.Weight.{Weight}
use Rattle.pb_model.specs.Space.{Space}
use Rattle.pb_model.specs.Guide.{Guide}
use Rattle.pb_model.specs.Store.{Store}
use Rattle.pb_model.specs.Plan.{Plan, IsPlan, HasNoPlan, NoneCheaper, IsBound}
use Rattle.pb_model.specs.Texts.{plan_report, weight_text, none_report, stopped_report}
use Rattle.pb_machine.specs.declared.event.End.TheVariants.{Budget}
use Rattle.pb_task.specs.declared.parts.TaskParts.{TaskParts}
use Rattle.pb_task.specs.Parts.{space_of, action_name}
use Rattle.pb_estimate.specs.Choices.{Choice}
use Rattle.pb_abstract.specs.Projection.{IsFinest}
use Rattle.pb_abstract.specs.Graph.{AbstractGraph, IsGraphOf}
use Rattle.pb_strips.specs.Looks.{most_looks}
use Rattle.pb_cert.specs.Found.{IsCertificateOf}
use Rattle.pb_falling.specs.Falling.{weight_at, Claim}
use Rattle.pb_report.specs.Texts.{stopped_grounding_report}
use Rattle.pb_command.specs.Meaning.{SolveMeaning, FallingMeaning}
use Rattle.pb_answer.specs.Outputs.{Output, output}
use Rattle.pb_answer.specs.Searches.{weight_asked}
use Rattle.pb_answer.specs.Loaded.{OfTexts, solve_task, IsErr}
use Rattle.pb_answer.specs.Answer.{Said, Says, Saves}
use Rattle.pb_answer.specs.Parts.{AnswerPart}
use Rattle.pb_answer.specs.Falling.{numbered, AreFalling, EndsAfter, IsFallingFound}
use Rattle.pb_answer.specs.Stops.{InputMayStop, HasTablesText, StopsSolve}
use Rattle.pb_run.specs.Outcome.{Outcome, IfFalling, AnswersOneOf}

-- ---- claims

-- a claim as it is printed: the weight of its run, a plan, and the bound
pub record PrintedClaim : Type 0 where
  pub weight : Weight
  pub plan : Plan
  pub bound : ℕ

-- its text: a line with the weight, and then the plan's cost, a name for each step, and the bound
abbrev pub printed_text : (name : ℕ → List ℕ) → PrintedClaim → List ℕ
printed_text name claim =
    weight_text claim.weight
    ++ plan_report (map name claim.plan.actions) claim.plan.cost claim.bound

-- the texts of claims, one after another
abbrev pub claims_text : (name : ℕ → List ℕ) → List PrintedClaim → List ℕ
claims_text name [] = []
claims_text name (claim ∷ claims) = printed_text name claim ++ claims_text name claims

-- Each claim is at the weight of its run, from the run of this number on.
abbrev pub AreAtWeights : Weight → (steps run : ℕ) → List PrintedClaim → Type 0
AreAtWeights weight steps run [] = ⊤
AreAtWeights weight steps run (claim ∷ claims) =
    (claim.weight ≡ weight_at weight steps run) × AreAtWeights weight steps (run + 1) claims

-- no claim's cost is above that of the claim before
abbrev pub CostsNeverRise : List PrintedClaim → Type 0
CostsNeverRise [] = ⊤
CostsNeverRise (claim ∷ []) = ⊤
CostsNeverRise (claim ∷ next ∷ claims) =
    (next.plan.cost ≤ claim.plan.cost) × CostsNeverRise (next ∷ claims)

-- What is promised of claims, if the weight falls from this one to 1 in so many steps:
-- - `weights`, `few`: there is one for each run, from run 0 on, at the weight of that run.
-- - `plans`: each has a plan of the space, with its cost and bound.
-- - `cheapest`: no plan costs less than that cost divided by the claim's weight.
-- - `fall`: the costs never rise.
-- - `fit`: each cost is a number of 64 bits.
pub record AreClaimsOf (space : Space) (weight : Weight) (steps : ℕ) (claims : List PrintedClaim)
    : Type 0 where
  pub weights : AreAtWeights weight steps 0 claims
  pub few : length claims ≤ steps + 1
  pub plans : AllByRecursion (λ claim. IsPlan space claim.plan
      × IsBound claim.weight claim.plan.cost claim.bound) claims
  pub cheapest : AllByRecursion (λ claim. NoneCheaper space claim.weight claim.plan.cost) claims
  pub fall : CostsNeverRise claims
  pub fit : AllByRecursion (λ claim. claim.plan.cost < 2 ^ 64) claims

-- the bound isn't the cost, so a cheaper plan may exist and another run comes after it
abbrev pub MayBeCheaper : PrintedClaim → Type 0
MayBeCheaper claim = claim.bound ≢ claim.plan.cost

-- ---- certificates

-- The file is the certificate of the run of this number, `NAME.0` for the first. It has this weight
-- and this plan, or claims that there is none. It states this choice of an estimate, is valid, and
-- is accepted.
abbrev pub IsNumberedFile : (name : List ℕ) → (run : ℕ) → TaskParts → Choice → Weight → Option Plan
    → Output → Type 0
IsNumberedFile name run task choice weight plan file =
    (file.name ≡ numbered name run) × (guide : Guide) × (store : Store)
    × IsCertificateOf task choice weight guide store plan file.text

-- there is one such file, if certificates have a name, and else none
abbrev pub SavesOne : (name : Option (List ℕ)) → (run : ℕ) → TaskParts → Choice → Weight
    → Option Plan → List Output → Type 0
SavesOne None run task choice weight plan files = files ≡ []
SavesOne (Some name) run task choice weight plan files =
    (file : Output) × IsNumberedFile name run task choice weight plan file × (files ≡ file ∷ [])

-- the files are the certificates of the claims, in their order, from the run of this number on
abbrev pub AreNumberedFiles : (name : List ℕ) → (run : ℕ) → TaskParts → Choice
    → List PrintedClaim → List Output → Type 0
AreNumberedFiles name run task choice [] [] = ⊤
AreNumberedFiles name run task choice [] (file ∷ files) = ⊥
AreNumberedFiles name run task choice (claim ∷ claims) [] = ⊥
AreNumberedFiles name run task choice (claim ∷ claims) (file ∷ files) =
    IsNumberedFile name run task choice claim.weight (Some claim.plan) file
    × AreNumberedFiles name (run + 1) task choice claims files

-- if certificates have a name, there is one file for each claim, and else there is none
abbrev pub SavesEach : (name : Option (List ℕ)) → TaskParts → Choice → List PrintedClaim
    → List Output → Type 0
SavesEach None task choice claims files = files ≡ []
SavesEach (Some name) task choice claims files = AreNumberedFiles name 0 task choice claims files

-- ---- the search

-- the runs of a search claimed this: the same plans at the same weights
abbrev pub AreOfRuns : List Claim → List PrintedClaim → Type 0
AreOfRuns [] [] = ⊤
AreOfRuns [] (claim ∷ claims) = ⊥
AreOfRuns (run ∷ runs) [] = ⊥
AreOfRuns (run ∷ runs) (claim ∷ claims) =
    (claim.weight ≡ run.weight) × (claim.plan ≡ run.plan) × AreOfRuns runs claims

-- These are claims of one search, as the words ask for it. Each run goes on with the rows of the
-- one before. The blocks are those of the task, and the finest that are no more than the words wish
-- for. All runs go by this choice of an estimate.
pub record AreSearched (solve : SolveMeaning) (choice : Choice) (task : TaskParts) (steps : ℕ)
    (claims : List PrintedClaim) : Type 0 where
  pub abstraction : AbstractGraph
  pub graph_of : IsGraphOf task abstraction
  pub finest : IsFinest task solve.settings.wish abstraction.projection
  pub runs : List Claim
  pub falling : AreFalling solve task abstraction choice steps runs
  pub are_of : AreOfRuns runs claims

-- One more run of the same search, by this choice of an estimate, used up the budget. All its runs
-- together made exactly as many expansions as that allows.
abbrev pub SpendBudget : SolveMeaning → Choice → TaskParts → (steps : ℕ) → List PrintedClaim
    → Type 0
SpendBudget solve choice task steps claims =
    (of : AreSearched solve choice task steps claims)
    × EndsAfter solve task of.abstraction choice steps of.runs Budget

-- ---- the claims so far, and what comes after them

-- These claims were printed and their certificates saved, and nothing else. Each may be improved.
pub record HaveClaimed (solve : SolveMeaning) (choice : Choice) (task : TaskParts) (steps : ℕ)
    (claims : List PrintedClaim) (report : List ℕ) (files : List Output) : Type 0 where
  pub are : AreClaimsOf (space_of task) (weight_asked solve) steps claims
  pub searched : AreSearched solve choice task steps claims
  pub improvable : AllByRecursion MayBeCheaper claims
  pub printed : report ≡ claims_text (action_name task) claims
  pub certified : SavesEach solve.certificate task choice claims files

-- after these claims, of a search by this choice of an estimate, the part says one more, and its
-- certificate is the part's file
abbrev pub IsOneMoreClaim : SolveMeaning → Choice → TaskParts → (steps : ℕ) → List PrintedClaim
    → AnswerPart → Type 0
IsOneMoreClaim solve choice task steps claims part =
    (claim : PrintedClaim)
    × AreClaimsOf (space_of task) (weight_asked solve) steps (claims ++ claim ∷ [])
    × AreSearched solve choice task steps (claims ++ claim ∷ [])
    × (part.report ≡ printed_text (action_name task) claim)
    × SavesOne solve.certificate (length claims) task choice claim.weight (Some claim.plan)
    part.outputs

-- there is no claim, and the part says that there is no plan, with the certificate of that
abbrev pub IsNoPlan : SolveMeaning → Choice → TaskParts → List PrintedClaim → AnswerPart → Type 0
IsNoPlan solve choice task claims part =
    (claims ≡ []) × HasNoPlan (space_of task) × (part.report ≡ none_report)
    × SavesOne solve.certificate 0 task choice (weight_asked solve) None part.outputs

-- after these claims the part says that the budget was used up, and has no file
abbrev pub IsStop : SolveMeaning → Choice → TaskParts → (steps : ℕ) → List PrintedClaim
    → AnswerPart → Type 0
IsStop solve choice task steps claims part =
    SpendBudget solve choice task steps claims × (part.report ≡ stopped_report solve.settings.budget)
    × (part.outputs ≡ [])

-- what comes after these claims, in a search by this choice of an estimate
abbrev pub IsNext : SolveMeaning → Choice → TaskParts → (steps : ℕ) → List PrintedClaim
    → AnswerPart → Type 0
IsNext solve choice task steps claims part =
    IsOneMoreClaim solve choice task steps claims part
    ⊎ (IsNoPlan solve choice task claims part ⊎ IsStop solve choice task steps claims part)

-- ---- by the status

-- Status 0: claims are printed, and the last one is proved cheapest.
-- - `are`, `searched`: what is promised of all claims, which are of one search.
-- - `printed`, `certified`: they are printed one after another, and nothing else. If certificates
--   have a name, each claim's own is saved.
-- - `improvable`: it ends after the first claim of which the bound is the cost.
-- - `proved`, `least`: that is the last claim. No plan is cheaper.
pub record EndsProved (solve : SolveMeaning) (steps : ℕ) (said : Said) (choice : Choice)
    (task : TaskParts) : Type 0 where
  pub claims : List PrintedClaim
  pub last : PrintedClaim
  pub are : AreClaimsOf (space_of task) (weight_asked solve) steps (claims ++ last ∷ [])
  pub searched : AreSearched solve choice task steps (claims ++ last ∷ [])
  pub printed : Says said (claims_text (action_name task) (claims ++ last ∷ []))
  pub certified : SavesEach solve.certificate task choice (claims ++ last ∷ [])
      said.outputs
  pub improvable : AllByRecursion MayBeCheaper claims
  pub proved : last.bound ≡ last.plan.cost
  pub least : (plan : Plan) → IsPlan (space_of task) plan → last.plan.cost ≤ plan.cost

-- Status 1: `none` is printed and nothing else, and the task has no plan. If certificates have a
-- name, `NAME.0` is the certificate of that.
pub record EndsNone (solve : SolveMeaning) (said : Said) (choice : Choice) (task : TaskParts)
    : Type 0 where
  pub printed : Says said none_report
  pub no_plan : HasNoPlan (space_of task)
  pub certified : SavesOne solve.certificate 0 task choice (weight_asked solve) None said.outputs

-- Status 2: after the claims so far, if any, the budget is printed, which all runs together used
-- up. There is a certificate of each claim and no other.
pub record EndsStopped (solve : SolveMeaning) (steps : ℕ) (said : Said) (choice : Choice)
    (task : TaskParts) : Type 0 where
  pub claims : List PrintedClaim
  pub report : List ℕ
  pub so_far : HaveClaimed solve choice task steps claims report said.outputs
  pub printed : Says said (report ++ stopped_report solve.settings.budget)
  pub spent : SpendBudget solve choice task steps claims

-- nothing is printed or saved
abbrev pub IsSilent : Said → Type 0
IsSilent said = Says said [] × Saves said []

-- Status 71: memory ran out. The claims so far are out whole, each printed and its certificate
-- saved, and nothing else.
pub record EndsShort (solve : SolveMeaning) (steps : ℕ) (said : Said) (choice : Choice)
    (task : TaskParts) : Type 0 where
  pub claims : List PrintedClaim
  pub so_far : HaveClaimed solve choice task steps claims said.report said.outputs

-- nothing of the file was saved, or a first part of it
abbrev pub IsBegun : (begun : List Output) → (file : Output) → Type 0
IsBegun begun file =
    (begun ≡ []) ⊎ ((kept : List ℕ) × (rest : List ℕ) × (file.text ≡ kept ++ rest)
    × (begun ≡ output file.name kept ∷ []))

-- Status 73: the shelf failed to save the file of the part in hand. The claims before it are out
-- whole. Of this part nothing is printed, and of its file at most a first part is saved.
pub record EndsUnsaved (solve : SolveMeaning) (steps : ℕ) (said : Said) (choice : Choice)
    (task : TaskParts) : Type 0 where
  pub claims : List PrintedClaim
  pub files : List Output
  pub so_far : HaveClaimed solve choice task steps claims said.report files
  pub part : AnswerPart
  pub next : IsNext solve choice task steps claims part
  pub file : Output
  pub due : part.outputs ≡ file ∷ []
  pub begun : List Output
  pub is_begun : IsBegun begun file
  pub outputs : Saves said (files ++ begun)

-- Status 74: the sink failed to take the text of the part in hand. The claims before it are out
-- whole. The file of this part is saved whole too, if it has one, and of its text a first part is
-- printed.
pub record EndsUnprinted (solve : SolveMeaning) (steps : ℕ) (said : Said) (choice : Choice)
    (task : TaskParts) : Type 0 where
  pub claims : List PrintedClaim
  pub report : List ℕ
  pub files : List Output
  pub so_far : HaveClaimed solve choice task steps claims report files
  pub part : AnswerPart
  pub next : IsNext solve choice task steps claims part
  pub outputs : Saves said (files ++ part.outputs)
  pub kept : List ℕ
  pub rest : List ℕ
  pub is_kept : part.report ≡ kept ++ rest
  pub printed : Says said (report ++ kept)

-- The texts are refused, and of the report of that a first part is printed. Nothing is saved.
abbrev pub IsRefusedInPart : SolveMeaning → (texts : List (List ℕ)) → Said → Type 0
IsRefusedInPart solve texts said =
    (kept : List ℕ) × (rest : List ℕ) × IsErr (solve_task solve texts) (kept ++ rest)
    × Says said kept × Saves said []

-- Grounding was stopped: no refusal comes before, and it had looked at as many rows as it may. Of
-- the line of that a first part is printed, and nothing is saved.
abbrev pub IsStoppedInPart : SolveMeaning → (texts : List (List ℕ)) → Said → Type 0
IsStoppedInPart solve texts said =
    (rest : List ℕ) × HasTablesText solve.input solve.tables texts
    × InputMayStop solve.input solve.options 0 texts × (said.looks ≡ most_looks)
    × (stopped_grounding_report ≡ said.report ++ rest) × Saves said []

-- ---- all that is promised

-- - `found`: what is printed and saved is of one search, part by part. The certificate of a claim
--   has the rows of its run.
-- - `proved`, `none`, `stopped`: what each status means. At 2 grounding may have been stopped too,
--   before any run.
-- - `short`, `unsaved`, `unprinted`: what is out if nothing more is answered.
-- - `statuses`: only 0, 1, 2 and 65, or 71, 73, 74 if nothing is answered.
pub record FallingHolds (falling : FallingMeaning) (it : Outcome) : Type 0 where
  pub found : (it.said.status ≡ 0) ⊎ ((it.said.status ≡ 1) ⊎ (it.said.status ≡ 2))
      → OfTexts falling.solve it.texts (λ choice task. (parts : List AnswerPart)
      × IsFallingFound falling.solve choice task falling.steps it.said parts)
      ⊎ StopsSolve falling.solve it.texts it.said
  pub proved : it.said.status ≡ 0
      → OfTexts falling.solve it.texts (EndsProved falling.solve falling.steps it.said)
  pub none : it.said.status ≡ 1 → OfTexts falling.solve it.texts (EndsNone falling.solve it.said)
  pub stopped : it.said.status ≡ 2
      → OfTexts falling.solve it.texts (EndsStopped falling.solve falling.steps it.said)
      ⊎ StopsSolve falling.solve it.texts it.said
  pub short : it.said.status ≡ 71 → IsSilent it.said
      ⊎ OfTexts falling.solve it.texts (EndsShort falling.solve falling.steps it.said)
  pub unsaved : it.said.status ≡ 73 → IsSilent it.said
      ⊎ OfTexts falling.solve it.texts (EndsUnsaved falling.solve falling.steps it.said)
  pub unprinted : it.said.status ≡ 74 → IsRefusedInPart falling.solve it.texts it.said
      ⊎ (IsStoppedInPart falling.solve it.texts it.said
      ⊎ OfTexts falling.solve it.texts (EndsUnprinted falling.solve falling.steps it.said))
  pub statuses : AnswersOneOf (0 ∷ 1 ∷ 2 ∷ 65 ∷ []) it

abbrev pub FallingsHold : Outcome → Type 0
FallingsHold it = IfFalling it.asked (λ falling. FallingHolds falling it)
