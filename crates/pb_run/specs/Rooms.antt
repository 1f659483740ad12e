-- What files and output in memory need so that a call is served. A `check` of a valid certificate,
-- a `journal` of a legal one, and a `make` need little room. A `solve` needs room for the rows and
-- the events that its budget allows. Those of one search are far fewer, and `fits` of
-- `AnswersIfServed` says what these need.
use Rattle.std.specs.Prelude.{◌≡◌, ◌≢◌, ℕ, ◌+◌, ◌*◌, ◌^◌, ◌<◌, ◌≤◌, Option, None, Some, IfSome, List, [], length, Ok}
use Rattle.pb_model.specs.Texts.{lines}
use Rattle.pb_machine.specs.declared.settings.Settings.{Settings}
use Rattle.pb_outside.specs.Memory.{ShelfView, SinkView, file_of, HasFile, HasRoom, CanTake}
use Rattle.pb_task.specs.declared.parts.TaskParts.{TaskParts}
use Rattle.pb_task.specs.Parts.{space_of, IsTask, action_name}
use Rattle.pb_task.specs.declared.kind.Kind.TheVariants as kind
use Rattle.pb_task.specs.Kinds.{kind_of}
use Rattle.pb_task.specs.Widths.{width_of}
use Rattle.pb_tables.specs.Tables.{TablesValue}
use Rattle.pb_table_lines.specs.Reading.{tables_reading}
use Rattle.pb_estimate.specs.Choices.{Choice}
use Rattle.pb_estimate.specs.Spelling.{spelling_of, head_of}
use Rattle.pb_yard.specs.Length.{most_events}
use Rattle.pb_journal.specs.Lengths.{most_bytes}
use Rattle.pb_check.specs.declared.fault.Verdict.{Verdict}
use Rattle.pb_check.specs.Shown.{IsAccepted}
use Rattle.pb_command.specs.Meaning.{Reading, Read, Solve, Check, Journal, Make, SolveMeaning, CheckMeaning, JournalMeaning, MakeMeaning, IsSolveInRange}
use Rattle.pb_answer.specs.Loaded.{solve_task, check_task, journal_task}
use Rattle.pb_answer.specs.Searches.{IsChoiceAsked}
use Rattle.pb_answer.specs.Claims.{rewritten_outputs}
use Rattle.pb_answer.specs.Journals.{IsJournalOf}
use Rattle.pb_run.specs.Asked.{files_of}
use Rattle.pb_run.specs.Calls.{CanHold}
use Rattle.pb_run.specs.Loads.{loads_of}
use Rattle.pb_run.specs.Served.{CanServe}
use Rattle.pb_run.specs.InMemory.{HaveFiles, HasRoomFor, HasRoomToPut}

-- Each file that this reading of the words names is there, and these are their texts. No call is to
-- fail, and the sink has room for 64 bytes.
pub record HasTextsAndLine (reading : Reading) (shelf : ShelfView) (sink : SinkView)
    (texts : List (List ℕ)) : Type 0 where
  pub none_fails : shelf.calls.listed ≡ []
  pub none_fails_to_put : sink.calls.listed ≡ []
  pub files : HaveFiles shelf (files_of reading)
  pub texts_are : loads_of (file_of shelf) (files_of reading) ≡ Some texts
  pub line : HasRoomToPut sink 64

-- The texts are those of a valid certificate and of its task. The shelf has room for what
-- `--rewrite` saves of the certificate, if that is given.
abbrev pub ChecksAreServed : Type 0
ChecksAreServed =
    (check : CheckMeaning) (shelf : ShelfView) (sink : SinkView) (texts : List (List ℕ))
    (parts : TaskParts) (certificate : List ℕ) (verdict : Verdict)
    → HasTextsAndLine (Read (Check check)) shelf sink texts
    → check_task check texts ≡ Ok (parts, certificate) → IsAccepted parts certificate verdict
    → CanHold (HasRoomFor shelf) (rewritten_outputs check parts certificate)
    → CanServe (Read (Check check)) (Some (file_of shelf)) (HasFile shelf) (HasRoom shelf)
    (CanTake sink)

-- The texts are those of a journal and of its task. No room is needed on the shelf.
abbrev pub JournalsAreServed : Type 0
JournalsAreServed =
    (journal : JournalMeaning) (shelf : ShelfView) (sink : SinkView) (texts : List (List ℕ))
    (parts : TaskParts) (text : List ℕ) (events : ℕ)
    → HasTextsAndLine (Read (Journal journal)) shelf sink texts
    → journal_task journal texts ≡ Ok (parts, text) → IsJournalOf parts text events
    → length text < 2 ^ 63
    → CanServe (Read (Journal journal)) (Some (file_of shelf)) (HasFile shelf) (HasRoom shelf)
    (CanTake sink)

-- No room is needed on the shelf.
abbrev pub MakesAreServed : Type 0
MakesAreServed =
    (make : MakeMeaning) (shelf : ShelfView) (sink : SinkView)
    → HasTextsAndLine (Read (Make make)) shelf sink []
    → CanServe (Read (Make make)) (Some (file_of shelf)) (HasFile shelf) (HasRoom shelf)
    (CanTake sink)

-- ---- the room of a search

-- How many rows a search leaves at most: that of the start, and one for each action of each
-- expansion that the budget allows.
abbrev pub most_rows : TaskParts → Settings → ℕ
most_rows parts settings = 1 + (space_of parts).actions * settings.budget

-- How many bytes its certificate has at most, if its first lines, up to the estimate, have so many.
-- A row has a state, a g of at most 19 digits and what became of it. A step of the plan has at most
-- 5 digits, and there are no more steps than rows.
abbrev pub most_of_certificate : TaskParts → Settings → (head : ℕ) → ℕ
most_of_certificate parts settings head =
    142 + head + (width_of parts + 34) * most_rows parts settings

-- how many bytes its journal has at most
abbrev pub most_of_journal : TaskParts → Settings → ℕ
most_of_journal parts settings =
    most_bytes (most_events (space_of parts).actions settings.budget settings.workers)

-- how many bytes its report has at most, if no action's name is longer than this
abbrev pub most_of_report : TaskParts → Settings → (longest : ℕ) → ℕ
most_of_report parts settings longest = 128 + (longest + 1) * most_rows parts settings

-- no action's name is longer than this
abbrev pub NamesAreWithin : TaskParts → (longest : ℕ) → Type 0
NamesAreWithin parts longest =
    (action : ℕ) → action < (space_of parts).actions
    → length (action_name parts action) ≤ longest

-- By no choice of an estimate that the words ask for do the first lines of a certificate, up to the
-- estimate, have more bytes than this. The tables of a file are given here, if the words name one.
abbrev pub HeadsAreWithin : SolveMeaning → (given : Option TablesValue) → TaskParts → (head : ℕ)
    → Type 0
HeadsAreWithin solve given parts head =
    (choice : Choice) → IsChoiceAsked solve given parts choice
    → length (lines (head_of (spelling_of parts choice))) ≤ head

-- For these lines 114 bytes are enough if tables are not asked for, or not looked for: the task is a
-- map or a board. Else 2^40 bytes are enough, whatever tables are found. With the tables of a file
-- 114 bytes are enough beside those of the file.
pub record HeadsAreShort : Type 0 where
  pub without : (solve : SolveMeaning) (parts : TaskParts) → solve.effort ≡ None
      → IsSolveInRange solve → IsTask parts → HeadsAreWithin solve None parts 114
  pub other_kinds : (solve : SolveMeaning) (parts : TaskParts) → kind_of parts ≢ kind.Strips
      → IsSolveInRange solve → IsTask parts → HeadsAreWithin solve None parts 114
  pub all : (solve : SolveMeaning) (parts : TaskParts) → IsSolveInRange solve → IsTask parts
      → HeadsAreWithin solve None parts (2 ^ 40)
  pub of_file : (solve : SolveMeaning) (parts : TaskParts) (tables : TablesValue) (text : List ℕ)
      → tables_reading (width_of parts) text ≡ Ok tables → IsTask parts
      → HeadsAreWithin solve (Some tables) parts (114 + length text)

-- There is room for whatever a search of this task can leave: for its certificate and its journal,
-- each if it has a name, and for its report. The first lines of its certificate have at most so many
-- bytes.
pub record HasSearchRoom (solve : SolveMeaning) (given : Option TablesValue) (parts : TaskParts)
    (longest head : ℕ) (shelf : ShelfView) (sink : SinkView) : Type 0 where
  pub certificate : IfSome solve.certificate
      (λ name. HeadsAreWithin solve given parts head
      × HasRoomFor shelf name (most_of_certificate parts solve.settings head))
  pub journal : IfSome solve.journal
      (λ name. HasRoomFor shelf name (most_of_journal parts solve.settings))
  pub report : HasRoomToPut sink (most_of_report parts solve.settings longest)

-- The texts are those of a task to solve. The values of the command line are in their ranges, as
-- those of each command line that is read.
abbrev pub SolvesAreServed : Type 0
SolvesAreServed =
    (solve : SolveMeaning) (shelf : ShelfView) (sink : SinkView) (texts : List (List ℕ))
    (parts : TaskParts) (given : Option TablesValue) (longest head : ℕ)
    → HasTextsAndLine (Read (Solve solve)) shelf sink texts
    → solve_task solve texts ≡ Ok (parts, given) → IsTask parts → IsSolveInRange solve
    → NamesAreWithin parts longest → HasSearchRoom solve given parts longest head shelf sink
    → CanServe (Read (Solve solve)) (Some (file_of shelf)) (HasFile shelf) (HasRoom shelf)
    (CanTake sink)
