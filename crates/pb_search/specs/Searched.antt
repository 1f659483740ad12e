-- A graph at the beginning of a search, and at its end.
use Rattle.std.specs.Prelude.{◌≡◌, ◌<◌, ◌⊎◌, ℕ, IsFalse, List, Some}
use Rattle.pb_model.specs.Store.{Rows}
use Rattle.pb_machine.specs.declared.event.End.TheVariants.{Quiet, Budget}
use Rattle.pb_machine.specs.declared.settings.Settings.{Settings}
use Rattle.pb_machine.specs.Counts.{opening_counts}
use Rattle.pb_machine.specs.History.{AreFinished, events_of}
use Rattle.pb_machine.specs.Room.{no_room, KeepsWithinRoom}
use Rattle.pb_machine.specs.Machine.{Machine, opening_machine, Move, journal_of}
use Rattle.pb_task.specs.declared.parts.TaskParts.{TaskParts}
use Rattle.pb_estimate.specs.Choices.{Choice}
use Rattle.pb_abstract.specs.Graph.{AbstractGraph}
use Rattle.pb_lease.specs.Tables.{no_past}
use Rattle.pb_lease.specs.GraphValue.{GraphValue, setup_in, counts_in, IsLeaseGraph}
use Rattle.pb_lease.specs.Choices.{is_out_in}
use Rattle.pb_lease.specs.Moments.{IsMoment}
use Rattle.pb_lease.specs.Begins.{begin_machine, IsBegin, IsOfRun, FitsWord}
use Rattle.pb_yard.specs.Marking.{MarksInTurn}
use Rattle.pb_yard.specs.Order.{RunsInTime}
use Rattle.pb_search.specs.Ends.{search_of, Leads, LeadsInTime}

-- The graph is that of a search of this task by this abstract graph and this estimate, with these
-- settings. The search begins: the start alone has a row.
pub record Opens (parts : TaskParts) (abstraction : AbstractGraph) (choice : Choice)
    (settings : Settings) (graph : GraphValue) : Type 0 where
  pub task : graph.task ≡ parts
  pub graph_is : graph.table.abstraction ≡ abstraction
  pub choice_is : graph.choice ≡ choice
  pub settings_are : graph.table.settings ≡ settings
  pub past : graph.table.past ≡ no_past
  pub counts : counts_in graph ≡ opening_counts settings 0
  pub begin : IsBegin graph
  pub opening : begin_machine graph ≡ opening_machine (setup_in graph)

-- The graph is what a run that began with this graph came to, quietly or by its budget. It is of the
-- same run. It is a moment of a machine at which every worker has signed off. Moves from the machine
-- that the run began with lead there, and their events are the graph's journal. They are in order and
-- in time, and the journal keeps within the room of its leases. Each worker has its marks in turn. No
-- lease is out. With several workers a word can say the incumbent.
pub record HasRun (begin graph : GraphValue) : Type 0 where
  pub of_run : IsOfRun begin graph
  pub lawful : IsLeaseGraph graph
  pub home : IsFalse (is_out_in graph)
  pub ended : (graph.table.end ≡ Some Quiet) ⊎ (graph.table.end ≡ Some Budget)
  pub moves : List Move
  pub journal : graph.table.journal ≡ journal_of moves
  pub machine : Machine
  pub ordered : RunsInTime (setup_in begin) no_room (begin_machine begin) moves machine
  pub recorded : (worker : ℕ) → Rows
  pub moment : IsMoment graph recorded machine
  pub finished : AreFinished begin.table.settings machine.counts
  pub within : KeepsWithinRoom graph.table.journal
  pub marks : (worker : ℕ) → MarksInTurn (events_of worker graph.table.journal)
  pub fits : 1 < begin.table.settings.workers → FitsWord graph.incumbent

-- The graph is what a search of this task by this abstract graph and this estimate, with these
-- settings, came to, quietly or by its budget. It is a moment of a machine at which every worker has signed off. Moves
-- from the machine that has the start's row alone lead there, and their events are the graph's
-- journal. They are in order and in time, and the journal keeps within the room of its leases. Each
-- worker has its marks in turn. No lease is out. With several workers a word can say the incumbent.
pub record HasSearched (parts : TaskParts) (abstraction : AbstractGraph) (choice : Choice)
    (settings : Settings) (graph : GraphValue) : Type 0 where
  pub task : graph.task ≡ parts
  pub graph_is : graph.table.abstraction ≡ abstraction
  pub choice_is : graph.choice ≡ choice
  pub settings_are : graph.table.settings ≡ settings
  pub past : graph.table.past ≡ no_past
  pub lawful : IsLeaseGraph graph
  pub home : IsFalse (is_out_in graph)
  pub ended : (graph.table.end ≡ Some Quiet) ⊎ (graph.table.end ≡ Some Budget)
  pub moves : List Move
  pub journal : graph.table.journal ≡ journal_of moves
  pub machine : Machine
  pub run : Leads (search_of parts abstraction choice settings) moves machine
  pub ordered : LeadsInTime (search_of parts abstraction choice settings) moves machine
  pub recorded : (worker : ℕ) → Rows
  pub moment : IsMoment graph recorded machine
  pub finished : AreFinished settings machine.counts
  pub within : KeepsWithinRoom graph.table.journal
  pub marks : (worker : ℕ) → MarksInTurn (events_of worker graph.table.journal)
  pub fits : 1 < settings.workers → FitsWord graph.incumbent
