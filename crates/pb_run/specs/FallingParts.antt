-- The parts that a search with falling weights hands out: what is claimed after each of its runs.
use Rattle.std.specs.Prelude.{◌≡◌, ◌⊎◌, ℕ, Option, None, Some, List, [], ◌∷◌, ◌++◌, length}
use Rattle.pb_outside.specs.Outside.{Files}
use Rattle.pb_outside.specs.Calls.{Call, KeepsTakes}
use Rattle.pb_model.specs.Plan.{Plan}
use Rattle.pb_machine.specs.Machine.{Machine}
use Rattle.pb_task.specs.declared.parts.TaskParts.{TaskParts}
use Rattle.pb_estimate.specs.Choices.{Choice}
use Rattle.pb_falling.specs.Falling.{Claim}
use Rattle.pb_command.specs.Meaning.{SolveMeaning}
use Rattle.pb_answer.specs.declared.status.Status.{Status}
use Rattle.pb_answer.specs.Statuses.{number_of}
use Rattle.pb_answer.specs.Answer.{Said}
use Rattle.pb_answer.specs.Parts.{AnswerPart}
use Rattle.pb_answer.specs.Falling.{AreFalling, SayClaims, AreClaimParts, IsFallingFound}
use Rattle.pb_answer.specs.FallingRuns.{FallingValue, claim_now, IsFalling, IsLast, part_of}
use Rattle.pb_run.specs.Calls.{CanHold}
use Rattle.pb_run.specs.Served.{PartsFit}
use Rattle.pb_run.specs.PartByPart.{HandsParts}
use Rattle.pb_run.specs.declared.output.Ending.{Ending}
use Rattle.pb_run.specs.declared.output.Ending.TheVariants.{Done, NotSaved, NotPrinted}

-- ---- all that is handed out

-- the parts that are decided: all of a search, or the claims of its first runs
abbrev pub AreFallingParts : SolveMeaning → Choice → TaskParts → (steps : ℕ) → List AnswerPart
    → Type 0
AreFallingParts solve choice task steps parts =
    ((said : Said) × IsFallingFound solve choice task steps said parts)
    ⊎ AreClaimParts solve choice task steps parts

-- How it ends with parts that were handed out so far: the search has come to its end, memory ran
-- out between two claims, or a file of the part in hand wasn't saved or its piece not put.
abbrev pub EndsFalling : SolveMeaning → Choice → TaskParts → (steps : ℕ) → Ending
    → List AnswerPart → (status : ℕ) → Type 0
EndsFalling solve choice task steps Done parts status =
    ((said : Said) × IsFallingFound solve choice task steps said parts × (status ≡ said.status))
    ⊎ ((status ≡ 71) × AreClaimParts solve choice task steps parts)
EndsFalling solve choice task steps NotSaved parts status =
    (status ≡ 73) × AreFallingParts solve choice task steps parts
EndsFalling solve choice task steps NotPrinted parts status =
    (status ≡ 74) × AreFallingParts solve choice task steps parts

-- what is claimed after the runs of a search was handed out, part by part
pub record HandsOutFalling (solve : SolveMeaning) (choice : Choice) (task : TaskParts)
    (steps status : ℕ)
    (files files' : Option Files) (shelf shelf' sink sink' : List Call)
    (written written' : Option (List ℕ)) : Type 0 where
  pub ending : Ending
  pub parts : List AnswerPart
  pub hands : HandsParts ending parts files files' shelf shelf' sink sink' written written'
  pub ends : EndsFalling solve choice task steps ending parts status

-- ---- what fits

-- this is found, and the status is its own if its parts fit
pub record FoundIfItFits (solve : SolveMeaning) (choice : Choice) (task : TaskParts)
    (steps status : ℕ)
    (can_hold : List ℕ → ℕ → Type 0) (can_take : ℕ → Type 0) : Type 0 where
  pub said : Said
  pub parts : List AnswerPart
  pub found : IsFallingFound solve choice task steps said parts
  pub if_they_fit : PartsFit can_hold can_take parts → status ≡ said.status

-- it broke off, and the claims of first runs don't fit
pub record ClaimsDoNotFit (solve : SolveMeaning) (choice : Choice) (task : TaskParts)
    (steps status : ℕ)
    (can_hold : List ℕ → ℕ → Type 0) (can_take : ℕ → Type 0) : Type 0 where
  pub broke : (status ≡ 73) ⊎ (status ≡ 74)
  pub parts : List AnswerPart
  pub parts_are : AreClaimParts solve choice task steps parts
  pub do_not_fit : PartsFit can_hold can_take parts → ⊥

-- Unless memory ran out, all of a search was handed out if the shelf can hold the files of all
-- parts and the sink can take their pieces. Or it broke off at a claim that doesn't fit.
abbrev pub ClaimsIfTheyFit : SolveMeaning → Choice → TaskParts → (steps status : ℕ)
    → (can_hold : List ℕ → ℕ → Type 0) → (can_take : ℕ → Type 0) → Type 0
ClaimsIfTheyFit solve choice task steps status can_hold can_take =
    (status ≡ 71)
    ⊎ (FoundIfItFits solve choice task steps status can_hold can_take
    ⊎ ClaimsDoNotFit solve choice task steps status can_hold can_take)

-- ---- on the way

-- the parts that were handed out before the run in hand: each says a claim
pub record HandedOutBefore (search : FallingValue) (parts : List AnswerPart) : Type 0 where
  pub before : List Claim
  pub machine : Machine
  pub run : IsFalling before machine search
  pub falling : AreFalling search.solve search.parts search.graph.table.abstraction
      search.graph.choice search.steps before
  pub say : SayClaims search.solve search.parts search.graph.table.abstraction
      search.graph.choice search.steps 0 before parts

-- the claim of the run in hand is among the parts too, and isn't the last one
pub record HandedOutNow (search : FallingValue) (parts : List AnswerPart) : Type 0 where
  pub before : List Claim
  pub machine : Machine
  pub run : IsFalling before machine search
  pub plan : Plan
  pub plan_is : search.plan ≡ Some plan
  pub falling : AreFalling search.solve search.parts search.graph.table.abstraction
      search.graph.choice search.steps (before ++ claim_now search machine plan ∷ [])
  pub say : SayClaims search.solve search.parts search.graph.table.abstraction
      search.graph.choice search.steps 0 (before ++ claim_now search machine plan ∷ []) parts
  pub not_last : IsLast search → ⊥
  pub more : search.run ≡ search.steps → ⊥

-- the shelf can hold the files of this part, and the sink can take its piece
abbrev pub FitsNow : (can_hold : List ℕ → ℕ → Type 0) → (can_take : ℕ → Type 0) → Said → Type 0
FitsNow can_hold can_take said = CanHold can_hold said.outputs × can_take (length said.report)

-- How it ends with one part after those before it, unless memory ran out. With this part all is
-- found, and the status is that of the whole if it fits. Or it is a claim after which another run
-- is due, and it doesn't fit.
abbrev pub EndsIfItFits : FallingValue → (parts : List AnswerPart) → (status : ℕ)
    → (can_hold : List ℕ → ℕ → Type 0) → (can_take : ℕ → Type 0) → Type 0
EndsIfItFits search parts status can_hold can_take =
    (status ≡ 71)
    ⊎ ((said : Said) × (((all : Said)
    × IsFallingFound search.solve search.graph.choice search.parts search.steps all
    (parts ++ part_of said ∷ [])
    × (FitsNow can_hold can_take said → status ≡ all.status))
    ⊎ (AreClaimParts search.solve search.graph.choice search.parts search.steps
    (parts ++ part_of said ∷ [])
    × ((status ≡ 73) ⊎ (status ≡ 74)) × (FitsNow can_hold can_take said → ⊥))))

-- After the claim of a run: if there is a status, all is handed out or it broke off. Else the
-- search is to go on.
abbrev pub AfterRun : FallingValue → (parts : List AnswerPart) → Option Status
    → (files files' : Option Files) → (shelf shelf' sink sink' : List Call)
    → (written written' : Option (List ℕ)) → (can_take can_take' : ℕ → Type 0) → Type 0
AfterRun search parts (Some status) files files' shelf shelf' sink sink' written written'
    can_take can_take' =
    HandsOutFalling search.solve search.graph.choice search.parts search.steps (number_of status)
    files files' shelf shelf' sink sink' written written'
AfterRun search parts None files files' shelf shelf' sink sink' written written'
    can_take can_take' =
    (said : Said) × HandsParts Done (parts ++ part_of said ∷ []) files files' shelf shelf' sink sink'
    written written'
    × HandedOutNow search (parts ++ part_of said ∷ [])
    × KeepsTakes can_take can_take' (length said.report)
