-- What is answered of the text of a journal that is judged for a task.
use Rattle.std.specs.Prelude.{◌≡◌, ◌⊎◌, ℕ, ⊤, List, Result, Ok, Err}
use Rattle.pb_machine.specs.declared.settings.Settings.{Settings}
use Rattle.pb_task.specs.declared.parts.TaskParts.{TaskParts}
use Rattle.pb_abstract.specs.Projection.{IsFinest}
use Rattle.pb_abstract.specs.Graph.{AbstractGraph, blocks_of, IsGraphOf}
use Rattle.pb_journal.specs.declared.error.Why.{Why}
use Rattle.pb_journal.specs.declared.error.JournalError.{JournalError}
use Rattle.pb_journal.specs.declared.error.JournalError.TheVariants.{At, Memory}
use Rattle.pb_journal.specs.Faults.{fault_at}
use Rattle.pb_journal.specs.Judging.{settings_of, judged}
use Rattle.pb_journal.specs.Shown.{IsFinishedJournal, IsFirstFault}
use Rattle.pb_report.specs.Texts.{journal_report, journal_fault_text}

-- The text has a header, and the graph is the finest one of the task that has no more blocks than
-- the header wishes for. A task has one at most.
pub record IsJournalGraph (parts : TaskParts) (text : List ℕ)
    (abstraction : AbstractGraph) : Type 0 where
  pub settings : Settings
  pub header : settings_of text ≡ Ok settings
  pub graph_of : IsGraphOf parts abstraction
  pub finest : IsFinest parts settings.wish abstraction.projection

-- The text is that of a finished legal history of so many events over the task's blocks, with the
-- settings of its header.
pub record IsJournalOf (parts : TaskParts) (text : List ℕ) (events : ℕ) : Type 0 where
  pub abstraction : AbstractGraph
  pub blocks : IsJournalGraph parts text abstraction
  pub finished : IsFinishedJournal (blocks_of abstraction) text events

-- A line after the header is the first that is refused, and why. The header can be read, and over
-- the task's blocks the lines before this one spell events that may come one after another.
pub record IsEventFault (parts : TaskParts) (text : List ℕ) (line : ℕ) (why : Why) : Type 0 where
  pub abstraction : AbstractGraph
  pub blocks : IsJournalGraph parts text abstraction
  pub is_judged : judged (blocks_of abstraction) text ≡ fault_at line why
  pub first : IsFirstFault (blocks_of abstraction) text line why

-- the line is the first that is refused, in the header or after it
abbrev pub IsJournalFault : TaskParts → (text : List ℕ) → (line : ℕ) → Why → Type 0
IsJournalFault parts text line why =
    (settings_of text ≡ fault_at line why) ⊎ IsEventFault parts text line why

-- the text is that of no finished legal history
abbrev pub IsNoJournalOf : TaskParts → (text : List ℕ) → Type 0
IsNoJournalOf parts text = (events : ℕ) → IsJournalOf parts text events → ⊥

-- The text is a journal of the task, and the number of its events is printed.
abbrev pub AcceptsJournal : (says : List ℕ → Type 0) → TaskParts → (text : List ℕ) → Type 0
AcceptsJournal says parts text =
    (events : ℕ) × says (journal_report events) × IsJournalOf parts text events

-- The text is no journal of the task. Why is printed, and the first line that is refused.
abbrev pub RejectsJournal : (says : List ℕ → Type 0) → TaskParts → (text : List ℕ) → Type 0
RejectsJournal says parts text =
    (line : ℕ) × (why : Why) × says (journal_fault_text line why)
    × IsJournalFault parts text line why × IsNoJournalOf parts text

-- what judging a journal gives
abbrev pub GivesJournal : TaskParts → (text : List ℕ) → Result ℕ JournalError → Type 0
GivesJournal parts text (Ok events) = IsJournalOf parts text events
GivesJournal parts text (Err (At line why)) =
    IsJournalFault parts text line why × IsNoJournalOf parts text
GivesJournal parts text (Err Memory) = ⊤
