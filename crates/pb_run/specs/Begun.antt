-- What is begun for a command line and the texts that were loaded of its files: an answer in one
-- part, or a search with falling weights.
use Rattle.std.specs.Prelude.{◌≡◌, ℕ, List, [], ◌∷◌}
use Rattle.pb_command.specs.Meaning.{Reading, Refused, Read, Solve, Falling, Check, Journal, Make}
use Rattle.pb_answer.specs.Answer.{Said, said_of}
use Rattle.pb_answer.specs.declared.begin.FallingBegin.TheVariants.{Search}
use Rattle.pb_answer.specs.FallingRuns.{FallingValue, part_of}
use Rattle.pb_answer.specs.FallingBegins.{BeginsFalling}
use Rattle.pb_run.specs.Answers.{AnswersReading}
use Rattle.pb_run.specs.Parted.{AreAllParts}
use Rattle.pb_run.specs.declared.answer.Begun.{Begun}
use Rattle.pb_run.specs.declared.answer.Begun.TheVariants.{Answered, Searching}

-- this is the answer to these texts, in one part
abbrev pub IsOnePart : Reading → (texts : List (List ℕ)) → Said → Type 0
IsOnePart reading texts said =
    AnswersReading reading texts said × AreAllParts reading texts said (part_of said ∷ [])

-- falling weights are asked for, and the first run was made
abbrev pub IsFirstRun : Reading → (texts : List (List ℕ)) → FallingValue → Type 0
IsFirstRun (Refused fault) texts search = ⊥
IsFirstRun (Read (Solve solve)) texts search = ⊥
IsFirstRun (Read (Falling falling)) texts search = BeginsFalling falling texts (Search search)
IsFirstRun (Read (Check check)) texts search = ⊥
IsFirstRun (Read (Journal journal)) texts search = ⊥
IsFirstRun (Read (Make make)) texts search = ⊥

-- the answer counts these looks, or a search is begun
abbrev pub Begins : Reading → (texts : List (List ℕ)) → (looks : ℕ) → Begun → Type 0
Begins reading texts looks (Answered answer) =
    IsOnePart reading texts (said_of answer) × (looks ≡ (said_of answer).looks)
Begins reading texts looks (Searching search) = IsFirstRun reading texts search
