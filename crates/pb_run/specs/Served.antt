-- Completeness: what is answered if the shelf and the sink can do what is asked of them.
use Rattle.std.specs.Prelude.{◌≡◌, ◌⊎◌, ℕ, ⊤, Option, None, Some, List, [], ◌∷◌, ◌++◌, length, Ok, IfSome}
use Rattle.pb_task.specs.declared.parts.TaskParts.{TaskParts}
use Rattle.pb_tables.specs.Tables.{TablesValue}
use Rattle.pb_check.specs.declared.fault.Verdict.{Verdict}
use Rattle.pb_check.specs.Shown.{IsAccepted}
use Rattle.pb_command.specs.Meaning.{Reading, Refused, Read, Solve, Falling, Check, Journal, Make}
use Rattle.pb_outside.specs.Outside.{Files}
use Rattle.pb_run.specs.Asked.{files_of, CanLoad}
use Rattle.pb_run.specs.Calls.{CanHold}
use Rattle.pb_run.specs.Loads.{loads_of}
use Rattle.pb_answer.specs.Loaded.{solve_task, check_task, journal_task}
use Rattle.pb_answer.specs.Journals.{IsJournalOf}
use Rattle.pb_answer.specs.Answer.{Said}
use Rattle.pb_answer.specs.Parts.{AnswerPart, outputs_of}
use Rattle.pb_answer.specs.Stops.{StopsTexts}
use Rattle.pb_run.specs.Answers.{AnswersReading}
use Rattle.pb_run.specs.Parted.{AreAllParts, AreFirstParts, AreDecided}

-- the sink can take the pieces of these parts one after another, after what was put before
abbrev pub CanTakeAll : (can_take : ℕ → Type 0) → (before : List ℕ) → List AnswerPart → Type 0
CanTakeAll can_take before [] = ⊤
CanTakeAll can_take before (part ∷ parts) =
    can_take (length (before ++ part.report)) × CanTakeAll can_take (before ++ part.report) parts

-- the shelf can hold the files of these parts, and the sink can take their pieces
pub record PartsFit (can_hold : List ℕ → ℕ → Type 0) (can_take : ℕ → Type 0)
    (parts : List AnswerPart) : Type 0 where
  pub held : CanHold can_hold (outputs_of parts)
  pub taken : CanTakeAll can_take [] parts

-- whatever parts are decided of the texts, after however many looks, the shelf can hold what is to
-- be saved, and the sink can take what is to be printed
abbrev pub CanHandOut : Reading → (texts : List (List ℕ)) → (can_hold : List ℕ → ℕ → Type 0)
    → (can_take : ℕ → Type 0) → Type 0
CanHandOut reading texts can_hold can_take =
    (looks : ℕ) (parts : List AnswerPart) → AreDecided reading texts looks parts
    → PartsFit can_hold can_take parts

-- What is answered, unless memory ran out:
-- - of words that are no command line, their refusal;
-- - of a task to solve, a plan, that there is none, or a stop, with falling weights too;
-- - of a valid certificate or a journal of the task, that it is accepted, or a stop of grounding;
-- - of a task that is to be made, what a search answers.
abbrev pub IsAnswered : Reading → (texts : List (List ℕ)) → Said → Type 0
IsAnswered (Refused fault) texts said = (said.status ≡ 64) ⊎ (said.status ≡ 71)
IsAnswered (Read (Solve solve)) texts said =
    (read : TaskParts × Option TablesValue) → solve_task solve texts ≡ Ok read
    → (said.status ≡ 0) ⊎ ((said.status ≡ 1) ⊎ ((said.status ≡ 2) ⊎ (said.status ≡ 71)))
IsAnswered (Read (Falling falling)) texts said =
    (read : TaskParts × Option TablesValue) → solve_task falling.solve texts ≡ Ok read
    → (said.status ≡ 0) ⊎ ((said.status ≡ 1) ⊎ ((said.status ≡ 2) ⊎ (said.status ≡ 71)))
IsAnswered (Read (Check check)) texts said =
    (parts : TaskParts) (certificate : List ℕ) (verdict : Verdict)
    → check_task check texts ≡ Ok (parts, certificate)
    → IsAccepted parts certificate verdict
    → (said.status ≡ 0) ⊎ (StopsTexts (Read (Check check)) texts said ⊎ (said.status ≡ 71))
IsAnswered (Read (Journal journal)) texts said =
    (parts : TaskParts) (text : List ℕ) (events : ℕ) → journal_task journal texts ≡ Ok (parts, text)
    → IsJournalOf parts text events
    → (said.status ≡ 0) ⊎ (StopsTexts (Read (Journal journal)) texts said ⊎ (said.status ≡ 71))
IsAnswered (Read (Make make)) texts said =
    (said.status ≡ 0) ⊎ ((said.status ≡ 1) ⊎ ((said.status ≡ 2) ⊎ (said.status ≡ 71)))

-- The shelf's files are known, and it can load those that the words name. Whatever is answered of
-- their texts can be handed out.
abbrev pub CanServe : Reading → Option Files → (can_load : List ℕ → Type 0)
    → (can_hold : List ℕ → ℕ → Type 0) → (can_take : ℕ → Type 0) → Type 0
CanServe reading None can_load can_hold can_take = ⊥
CanServe reading (Some told) can_load can_hold can_take =
    CanLoad can_load (files_of reading)
    × ((texts : List (List ℕ)) → loads_of told (files_of reading) ≡ Some texts
    → CanHandOut reading texts can_hold can_take)

-- these texts have an answer with so many looks, and the status is its own if its parts fit
pub record AnswersIfPartsFit (reading : Reading) (texts : List (List ℕ)) (status looks : ℕ)
    (can_hold : List ℕ → ℕ → Type 0) (can_take : ℕ → Type 0) : Type 0 where
  pub said : Said
  pub answers : AnswersReading reading texts said
  pub looks_is : looks ≡ said.looks
  pub parts : List AnswerPart
  pub parts_are : AreAllParts reading texts said parts
  pub if_they_fit : PartsFit can_hold can_take parts → status ≡ said.status

-- it broke off, and first parts of an answer don't fit
pub record PartsDoNotFit (reading : Reading) (texts : List (List ℕ)) (status : ℕ)
    (can_hold : List ℕ → ℕ → Type 0) (can_take : ℕ → Type 0) : Type 0 where
  pub broke : (status ≡ 73) ⊎ (status ≡ 74)
  pub parts : List AnswerPart
  pub parts_are : AreFirstParts reading texts parts
  pub do_not_fit : PartsFit can_hold can_take parts → ⊥

-- It is so of these texts, unless memory ran out: the status is that of an answer if its parts fit,
-- or first parts don't fit.
abbrev pub HandsOutIfPartsFit : Reading → (texts : List (List ℕ)) → (status looks : ℕ)
    → (can_hold : List ℕ → ℕ → Type 0) → (can_take : ℕ → Type 0) → Type 0
HandsOutIfPartsFit reading texts status looks can_hold can_take =
    (status ≡ 71)
    ⊎ (AnswersIfPartsFit reading texts status looks can_hold can_take
    ⊎ PartsDoNotFit reading texts status can_hold can_take)

-- What is answered of the texts of these files fits: unless memory ran out, they have one answer
-- that is handed out if the shelf can hold what it saves and the sink can take its report. So what
-- is asked of both is the length of that answer alone. Where more than one part is asked for, it
-- may break off at parts that don't fit.
abbrev pub IsHandedOutIfItFits : Reading → Files → (status looks : ℕ)
    → (can_hold : List ℕ → ℕ → Type 0) → (can_take : ℕ → Type 0) → Type 0
IsHandedOutIfItFits reading told status looks can_hold can_take =
    (status ≡ 71)
    ⊎ ((texts : List (List ℕ)) × (loads_of told (files_of reading) ≡ Some texts)
    × (AnswersIfPartsFit reading texts status looks can_hold can_take
    ⊎ PartsDoNotFit reading texts status can_hold can_take))

-- It is so if the shelf's files are known, and it can load those that the words name.
abbrev pub AnswersWhatFits : Reading → (status looks : ℕ) → Option Files
    → (can_load : List ℕ → Type 0) → (can_hold : List ℕ → ℕ → Type 0) → (can_take : ℕ → Type 0)
    → Type 0
AnswersWhatFits reading status looks None can_load can_hold can_take = ⊤
AnswersWhatFits reading status looks (Some told) can_load can_hold can_take =
    CanLoad can_load (files_of reading)
    → IsHandedOutIfItFits reading told status looks can_hold can_take

-- If the shelf's files are known and the named ones are there, there is an answer to their texts,
-- or memory ran out.
abbrev pub IsComplete : Reading → Option Files → Said → Type 0
IsComplete reading files said =
    IfSome files (λ told. (texts : List (List ℕ)) → loads_of told (files_of reading) ≡ Some texts
    → IsAnswered reading texts said)
