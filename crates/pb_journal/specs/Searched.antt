-- The journals of searches, and what is accepted of them.
use Rattle.std.specs.Prelude.{◌≡◌, ◌≢◌, ℕ, ◌≤◌, Bool, true, false, IsTrue, IsFalse, List, length, Ok}
use Rattle.std.specs.List.{AllByRecursion}
use Rattle.pb_machine.specs.declared.event.Event.{Event}
use Rattle.pb_machine.specs.declared.event.Event.TheVariants.{Hot}
use Rattle.pb_machine.specs.declared.settings.Settings.{Settings}
use Rattle.pb_machine.specs.Settings.{AreInRange, settings_with_weight}
use Rattle.pb_machine.specs.Blocks.{Blocks}
use Rattle.pb_machine.specs.History.{AreFinished}
use Rattle.pb_machine.specs.Machine.{Setup, Machine, Move, Runs, journal_of, opening_machine}
use Rattle.pb_task.specs.declared.parts.TaskParts.{TaskParts}
use Rattle.pb_task.specs.Parts.{IsTask}
use Rattle.pb_abstract.specs.Projection.{IsFinest}
use Rattle.pb_abstract.specs.Graph.{AbstractGraph, blocks_of, IsGraphOf}
use Rattle.pb_journal.specs.Texts.{event_line, journal_text}
use Rattle.pb_journal.specs.Reading.{lines_in}
use Rattle.pb_journal.specs.Judging.{settings_of, judged}
use Rattle.pb_journal.specs.Shown.{one, HasHeader, IsFinishedJournal}

-- The text of these settings and events is that of a finished legal history over the blocks. It is
-- accepted with its number of events, and its header is read: the settings, but with the weight 1
-- and no pattern database.
pub record IsAccepted (blocks : Blocks) (settings : Settings) (journal : List Event) : Type 0 where
  pub finished : IsFinishedJournal blocks (journal_text settings journal) (length journal)
  pub accepted : judged blocks (journal_text settings journal) ≡ Ok (length journal)
  pub header : settings_of (journal_text settings journal) ≡ Ok (settings_with_weight settings one)

-- The moves of a search, with its settings in range, lead from its opening to a finished machine:
-- the search has ended, and every worker has signed off.
pub record IsFinishedRun (setup : Setup) (moves : List Move) : Type 0 where
  pub range : AreInRange setup.settings
  pub machine : Machine
  pub run : Runs setup (opening_machine setup) moves machine
  pub finished : AreFinished setup.settings machine.counts

-- What is written of a finished search is accepted, over the blocks that it leased.
abbrev pub RunsAreAccepted : Type 0
RunsAreAccepted = (setup : Setup) (moves : List Move) → setup.blocks.count ≤ 4096
    → IsFinishedRun setup moves → IsAccepted setup.blocks setup.settings (journal_of moves)

-- the graph is the task's by the number of blocks that is wished for
pub record IsWishedGraph (parts : TaskParts) (wish : ℕ) (graph : AbstractGraph) : Type 0 where
  pub graph_of : IsGraphOf parts graph
  pub finest : IsFinest parts wish graph.projection

-- What is written of a finished search of a task, over its graph by the wish of the settings, is
-- accepted. It is judged over the graph of the same task by the wish of the header.
abbrev pub SearchesAreAccepted : Type 0
SearchesAreAccepted = (parts : TaskParts) (setup : Setup) (graph own : AbstractGraph)
    (moves : List Move) → IsTask parts → setup.blocks ≡ blocks_of graph
    → IsWishedGraph parts setup.settings.wish graph → IsFinishedRun setup moves
    → (header : Settings) → settings_of (journal_text setup.settings (journal_of moves)) ≡ Ok header
    → IsWishedGraph parts header.wish own
    → IsAccepted (blocks_of own) setup.settings (journal_of moves)

-- whether the event is a hot mark
abbrev pub is_hot : Event → Bool
is_hot (Hot worker block) = true
is_hot event = false

-- An accepted journal whose header says that the search was plain has no hot mark.
abbrev pub PlainJournalsHaveNoHot : Type 0
PlainJournalsHaveNoHot = (blocks : Blocks) (bytes : List ℕ) (events : ℕ)
    → judged blocks bytes ≡ Ok events → (header : Settings) → settings_of bytes ≡ Ok header
    → IsTrue header.plain → (journal : IsFinishedJournal blocks bytes events)
    → AllByRecursion (λ event. IsFalse (is_hot event)) journal.journal

-- the line is no hot mark
abbrev pub IsNoHotLine : List ℕ → Type 0
IsNoHotLine line = (worker block : ℕ) → line ≢ event_line (Hot worker block)

-- So no line of a text is a hot mark if its header says so and it is accepted.
abbrev pub PlainTextsHaveNoHot : Type 0
PlainTextsHaveNoHot = (blocks : Blocks) (bytes : List ℕ) (settings : Settings) (events : ℕ)
    → (header : HasHeader bytes settings) → IsTrue settings.plain → judged blocks bytes ≡ Ok events
    → AllByRecursion IsNoHotLine (lines_in header.rest)
