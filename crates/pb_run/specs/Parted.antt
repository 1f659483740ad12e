-- In which parts an answer is handed out. Of each part the files are saved, and then its piece of
-- the report is put.
use Rattle.std.specs.Prelude.{◌≡◌, ◌⊎◌, ℕ, Bool, true, false, List, [], Result, Ok, Err}
use Rattle.pb_command.specs.Meaning.{Reading, Refused, Read, Solve, Falling, Check, Journal, Make}
use Rattle.pb_answer.specs.Searches.{ByAskedChoice}
use Rattle.pb_answer.specs.Loaded.{solve_task, OfTexts}
use Rattle.pb_answer.specs.Answer.{Said}
use Rattle.pb_answer.specs.Parts.{AnswerPart, AreAnswerParts}
use Rattle.pb_answer.specs.Falling.{IsFallingFound, AreClaimParts}
use Rattle.pb_answer.specs.Stops.{StopsTexts}
use Rattle.pb_run.specs.Answers.{AnswersReading}

-- Whether a command line asks for an answer in one part. Each one does but a search with falling
-- weights, which has a part for each claim.
abbrev pub asks_one_part : Reading → Bool
asks_one_part (Refused fault) = true
asks_one_part (Read (Solve solve)) = true
asks_one_part (Read (Falling falling)) = false
asks_one_part (Read (Check check)) = true
asks_one_part (Read (Journal journal)) = true
asks_one_part (Read (Make make)) = true

-- what P says of what was read, or else Q
abbrev pub OfTaskOr : {A : Type 0} → Result A (List ℕ) → (Q : Type 0) → (P : A → Type 0) → Type 0
OfTaskOr (Ok read) Q P = P read
OfTaskOr (Err report) Q P = Q

-- The parts of an answer to these texts: all files and the whole report, or those of a search with
-- falling weights, one for each claim. A stop of grounding is one part.
abbrev pub AreAllParts : Reading → (texts : List (List ℕ)) → Said → List AnswerPart → Type 0
AreAllParts (Read (Falling falling)) texts said parts =
    (StopsTexts (Read (Falling falling)) texts said × AreAnswerParts said parts)
    ⊎ OfTaskOr (solve_task falling.solve texts) (AreAnswerParts said parts)
    (λ read. ByAskedChoice falling.solve read
    (λ choice task. IsFallingFound falling.solve choice task falling.steps said parts))
AreAllParts (Read (Solve solve)) texts said parts = AreAnswerParts said parts
AreAllParts (Read (Check check)) texts said parts = AreAnswerParts said parts
AreAllParts (Read (Journal journal)) texts said parts = AreAnswerParts said parts
AreAllParts (Read (Make make)) texts said parts = AreAnswerParts said parts
AreAllParts (Refused fault) texts said parts = AreAnswerParts said parts

-- The first parts of an answer to these texts, of which the others aren't decided yet. If one part
-- is asked for, none is decided before the whole answer. A search with falling weights may have
-- none, too. Else the texts spell a task, each part says a claim, and of none is the bound the
-- cost.
abbrev pub AreFirstParts : Reading → (texts : List (List ℕ)) → List AnswerPart → Type 0
AreFirstParts (Read (Falling falling)) texts parts =
    (parts ≡ [])
    ⊎ OfTexts falling.solve texts
    (λ choice task. AreClaimParts falling.solve choice task falling.steps parts)
AreFirstParts (Read (Solve solve)) texts parts = parts ≡ []
AreFirstParts (Read (Check check)) texts parts = parts ≡ []
AreFirstParts (Read (Journal journal)) texts parts = parts ≡ []
AreFirstParts (Read (Make make)) texts parts = parts ≡ []
AreFirstParts (Refused fault) texts parts = parts ≡ []

-- the parts that are decided of these texts after so many looks: those of an answer, or its first
-- ones
abbrev pub AreDecided : Reading → (texts : List (List ℕ)) → (looks : ℕ) → List AnswerPart → Type 0
AreDecided reading texts looks parts =
    ((said : Said) × AnswersReading reading texts said × AreAllParts reading texts said parts
    × (looks ≡ said.looks))
    ⊎ AreFirstParts reading texts parts
