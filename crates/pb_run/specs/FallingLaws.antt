-- Laws on calls of `solve` with `--falling`. A premise by the name of a clause is what that clause
-- of `run` promises.
use Rattle.std.specs.Prelude.{◌≡◌, ◌≢◌, ◌⊎◌, ℕ, ◌^◌, ◌<◌, ◌≤◌, ⊤, None, Some, List, [], ◌∷◌, ◌++◌, length, map, codes, All}
use Rattle.std.specs.List.{AllByRecursion}
use Rattle.pb_model.specs.Weight.{Weight, IsWeight}
use Rattle.pb_model.specs.Space.{Space, IsProper}
use Rattle.pb_model.specs.Plan.{NoneCheaper}
use Rattle.pb_outside.specs.Calls.{Call}
use Rattle.pb_command.specs.declared.command.Engine.TheVariants.{Leases}
use Rattle.pb_command.specs.declared.table.ValuedOption.TheVariants.{Row, Num, Den, Journal as JournalOption, Falling as FallingOption}
use Rattle.pb_command.specs.declared.table.FlagOption.TheVariants.{Swamp, Reachable}
use Rattle.pb_command.specs.Values.{InputNames}
use Rattle.pb_command.specs.Meaning.{Reading, Read, Falling, FallingMeaning, CheckMeaning, reading_of_words}
use Rattle.pb_command.specs.Options.{Argument, words_of, placed_words, value_given, number_given, flag_given, engine_given, AreDistinct, IsArgumentOf, is_of_check, is_flag_of_check, kind_word, file_words, AreOfSolve, HaveOneEstimate, HasNewName}
use Rattle.pb_answer.specs.Outputs.{Output}
use Rattle.pb_answer.specs.Answer.{Said}
use Rattle.pb_run.specs.Course.{Does}
use Rattle.pb_run.specs.Outcome.{Outcome, outcome_by}
use Rattle.pb_run.specs.Commands.{CheckHolds}
use Rattle.pb_run.specs.Laws.{Keeps, task_texts, AcceptsUnlessStopped, AcceptsIt}
use Rattle.pb_run.specs.FallingHeadline.{PrintedClaim, claims_text, CostsNeverRise, AreClaimsOf, FallingHolds, FallingsHold}
use Rattle.pb_run.specs.FallingKinds.{FallingMapsHold, FallingBoardsHold, FallingNamedHold}

-- ---- the clauses of `run`

-- How a call goes gives what is promised of falling weights.
abbrev pub CallsGiveFalling : Type 0
CallsGiveFalling =
    (reading : Reading) (status looks : ℕ) (shelf sink : List Call)
    → Does reading status looks shelf sink
    → FallingsHold (outcome_by reading status looks shelf sink)

-- What is promised of falling weights gives what is promised of each kind of task in its own words.
abbrev pub FallingHoldsByKind : Type 0
FallingHoldsByKind =
    (it : Outcome) → FallingsHold it
    → FallingMapsHold it × FallingBoardsHold it × FallingNamedHold it

-- ---- certificates

-- the call ended with this status, and each file that it began is whole
abbrev pub SavesWhole : (status : ℕ) → Type 0
SavesWhole status =
    (status ≡ 0) ⊎ ((status ≡ 1) ⊎ ((status ≡ 2) ⊎ ((status ≡ 71) ⊎ (status ≡ 74))))

-- this is one of the files that are saved
abbrev pub IsSaved : Said → Output → Type 0
IsSaved said file =
    (before : List Output) × (after : List Output) × (said.outputs ≡ before ++ file ∷ after)

-- A call searched a task with falling weights. Another call checks the text of any one of the files
-- that it saved, which was loaded whole, for the same input, row, swamp and grounding. It accepts
-- it, unless its grounding is stopped or it answers nothing. That holds too if the first call ran
-- out of memory or its output failed.
abbrev pub SavedClaimsAreAccepted : Type 0
SavedClaimsAreAccepted =
    (falling : FallingMeaning) (check : CheckMeaning) (ran checked : Outcome) (file : Output)
    → ran.asked ≡ Read (Falling falling) → check.input ≡ falling.solve.input
    → check.options ≡ falling.solve.options
    → SavesWhole ran.said.status → IsSaved ran.said file
    → checked.texts ≡ file.text ∷ task_texts falling.solve.input ran.texts
    → FallingHolds falling ran → CheckHolds check checked
    → AcceptsUnlessStopped check.input check.options checked

-- Arguments of `solve` for this input, with `--falling` and other options in any order, for the
-- engine that has falling weights and without a journal. Also arguments of `check` for the same
-- input, row, swamp and grounding, with this file beside it, and a new name for `--rewrite`, if that
-- is given.
pub record AreFallingMatching (input : InputNames) (steps file : List ℕ)
    (arguments others : List Argument) : Type 0 where
  pub solve : AreOfSolve input arguments
  pub falling : value_given FallingOption arguments ≡ Some steps
  pub weight : number_given Den arguments ≤ number_given Num arguments
  pub engine : engine_given arguments ≡ Leases
  pub journal : value_given JournalOption arguments ≡ None
  pub estimate : HaveOneEstimate arguments
  pub each : AllByRecursion (IsArgumentOf is_of_check is_flag_of_check) others
  pub distinct : AreDistinct others
  pub placed : placed_words others ≡ kind_word input ∷ file ∷ file_words input
  pub row : number_given Row others ≡ number_given Row arguments
  pub swamp : flag_given Swamp others ≡ flag_given Swamp arguments
  pub reachable : flag_given Reachable others ≡ flag_given Reachable arguments
  pub new : HasNewName input file others

-- A call with the words `solve .. --falling S` saved certificates whole. Another call has the words
-- of the matching `check ..`. It loads the text of any one of them whole, and then the same input,
-- and accepts it, unless its grounding is stopped.
abbrev pub ClaimsAreAcceptedByWords : Type 0
ClaimsAreAcceptedByWords =
    (input : InputNames) (steps file : List ℕ) (arguments others : List Argument)
    (ran checked : Outcome) (saved : Output)
    → AreFallingMatching input steps file arguments others
    → ran.asked ≡ reading_of_words (codes "solve" ∷ words_of arguments) → FallingsHold ran
    → Keeps (codes "check" ∷ words_of others) checked
    → SavesWhole ran.said.status → IsSaved ran.said saved
    → checked.texts ≡ saved.text ∷ task_texts input ran.texts
    → AcceptsIt checked

-- ---- texts

-- the numbers that the text of a claim has are of 64 bits
pub record HasSmallNumbers (claim : PrintedClaim) : Type 0 where
  pub num : claim.weight.num < 2 ^ 64
  pub den : claim.weight.den < 2 ^ 64
  pub cost : claim.plan.cost < 2 ^ 64
  pub steps : length claim.plan.actions < 2 ^ 64
  pub bound : claim.bound < 2 ^ 64

-- claim by claim, the weights, the costs, the names of the steps and the bounds are the same
abbrev pub SayTheSame : (name : ℕ → List ℕ) → List PrintedClaim → List PrintedClaim → Type 0
SayTheSame name [] [] = ⊤
SayTheSame name [] (other ∷ others) = ⊥
SayTheSame name (claim ∷ claims) [] = ⊥
SayTheSame name (claim ∷ claims) (other ∷ others) =
    (claim.weight ≡ other.weight) × (claim.plan.cost ≡ other.plan.cost)
    × (map name claim.plan.actions ≡ map name other.plan.actions) × (claim.bound ≡ other.bound)
    × SayTheSame name claims others

-- Claims are told by their text: two lists of claims with one text, whatever comes after it, say
-- the same. No name of a step has a line feed in it.
abbrev pub ClaimsAreToldByTheirText : Type 0
ClaimsAreToldByTheirText =
    (name : ℕ → List ℕ) (claims others : List PrintedClaim) (rest : List ℕ)
    → ((action : ℕ) → All (λ c. c ≢ 10) (name action))
    → AllByRecursion HasSmallNumbers claims → AllByRecursion HasSmallNumbers others
    → claims_text name claims ++ rest ≡ claims_text name others ++ rest
    → SayTheSame name claims others

-- Whatever claims are read off a text that has these, they are at the same weights, no plan costs
-- less than their costs divided by these weights, and their costs never rise. Each step of the space
-- costs at least 1.
abbrev pub ReadClaimsHold : Type 0
ReadClaimsHold =
    (space : Space) (greatest_cost : ℕ) (weight : Weight) (steps : ℕ) (name : ℕ → List ℕ)
    (claims read : List PrintedClaim) (rest : List ℕ)
    → IsProper space greatest_cost → IsWeight weight → 1 ≤ steps
    → ((action : ℕ) → All (λ c. c ≢ 10) (name action))
    → AreClaimsOf space weight steps claims → AllByRecursion HasSmallNumbers read
    → claims_text name claims ++ rest ≡ claims_text name read ++ rest
    → SayTheSame name claims read
    × AllByRecursion (λ claim. NoneCheaper space claim.weight claim.plan.cost) read
    × CostsNeverRise read
