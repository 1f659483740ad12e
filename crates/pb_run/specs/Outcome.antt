-- What one call of the program did: its command line, the texts that it loaded, and what it said.
use Rattle.std.specs.Prelude.{◌≡◌, ◌⊎◌, ℕ, ⊤, List, [], ◌∷◌}
use Rattle.pb_outside.specs.Calls.{Call}
use Rattle.pb_command.specs.declared.refusal.CommandFault.{CommandFault}
use Rattle.pb_command.specs.Meaning.{Reading, Refused, Read, Solve, Falling, Check, Journal, Make, SolveMeaning, FallingMeaning, CheckMeaning, JournalMeaning, MakeMeaning, reading_of_words}
use Rattle.pb_answer.specs.Answer.{Said}
use Rattle.pb_run.specs.Calls.{loaded_texts, outputs_in, put_bytes, calls_since}

-- The command that the words are, or their fault; the texts that were loaded, in order; and the
-- status, the bytes that were printed, the files that were saved, and how many rows grounding had
-- looked at in the end.
pub record Outcome : Type 0 where
  pub asked : Reading
  pub texts : List (List ℕ)
  pub said : Said

-- the outcome of a call that was asked for this and ended with this status and so many looks, by
-- what it called on the shelf and on the sink
abbrev pub outcome_by : Reading → (status looks : ℕ) → (shelf sink : List Call) → Outcome
outcome_by asked status looks shelf sink =
    record {
      asked = asked;
      texts = loaded_texts shelf;
      said = record {
        status = status;
        report = put_bytes sink;
        outputs = outputs_in shelf;
        looks = looks;
      };
    }

-- the same by the words of the call, and by the calls on the shelf and on the sink before and after
-- it
abbrev pub outcome : (words : List (List ℕ)) → (status looks : ℕ)
    → (shelf shelf' sink sink' : List Call) → Outcome
outcome words status looks shelf shelf' sink sink' =
    outcome_by (reading_of_words words) status looks (calls_since shelf shelf')
    (calls_since sink sink')

-- ---- by command: P, if the words are this command

abbrev pub IfRefused : Reading → (P : CommandFault → Type 0) → Type 0
IfRefused (Refused fault) P = P fault
IfRefused (Read meaning) P = ⊤

abbrev pub IfSolve : Reading → (P : SolveMeaning → Type 0) → Type 0
IfSolve (Refused fault) P = ⊤
IfSolve (Read (Solve solve)) P = P solve
IfSolve (Read (Falling falling)) P = ⊤
IfSolve (Read (Check check)) P = ⊤
IfSolve (Read (Journal journal)) P = ⊤
IfSolve (Read (Make make)) P = ⊤

abbrev pub IfFalling : Reading → (P : FallingMeaning → Type 0) → Type 0
IfFalling (Refused fault) P = ⊤
IfFalling (Read (Solve solve)) P = ⊤
IfFalling (Read (Falling falling)) P = P falling
IfFalling (Read (Check check)) P = ⊤
IfFalling (Read (Journal journal)) P = ⊤
IfFalling (Read (Make make)) P = ⊤

abbrev pub IfCheck : Reading → (P : CheckMeaning → Type 0) → Type 0
IfCheck (Refused fault) P = ⊤
IfCheck (Read (Solve solve)) P = ⊤
IfCheck (Read (Falling falling)) P = ⊤
IfCheck (Read (Check check)) P = P check
IfCheck (Read (Journal journal)) P = ⊤
IfCheck (Read (Make make)) P = ⊤

abbrev pub IfJournal : Reading → (P : JournalMeaning → Type 0) → Type 0
IfJournal (Refused fault) P = ⊤
IfJournal (Read (Solve solve)) P = ⊤
IfJournal (Read (Falling falling)) P = ⊤
IfJournal (Read (Check check)) P = ⊤
IfJournal (Read (Journal journal)) P = P journal
IfJournal (Read (Make make)) P = ⊤

abbrev pub IfMake : Reading → (P : MakeMeaning → Type 0) → Type 0
IfMake (Refused fault) P = ⊤
IfMake (Read (Solve solve)) P = ⊤
IfMake (Read (Falling falling)) P = ⊤
IfMake (Read (Check check)) P = ⊤
IfMake (Read (Journal journal)) P = ⊤
IfMake (Read (Make make)) P = P make

-- ---- the statuses

-- an answer: of a search, of a check, or a refusal
abbrev pub IsAnswer : ℕ → Type 0
IsAnswer n = (n ≡ 0) ⊎ (n ≡ 1) ⊎ (n ≡ 2) ⊎ (n ≡ 3) ⊎ (n ≡ 64) ⊎ (n ≡ 65)

-- nothing was answered: memory ran out, or the shelf or the sink failed
abbrev pub IsBroken : ℕ → Type 0
IsBroken n = (n ≡ 71) ⊎ (n ≡ 73) ⊎ (n ≡ 74)

abbrev pub IsAmong : List ℕ → ℕ → Type 0
IsAmong [] n = ⊥
IsAmong (status ∷ statuses) n = (n ≡ status) ⊎ IsAmong statuses n

-- one of these statuses is answered, or nothing is
abbrev pub AnswersOneOf : List ℕ → Outcome → Type 0
AnswersOneOf statuses it = IsAmong statuses it.said.status ⊎ IsBroken it.said.status
