-- How a search by leases ends, and what it has then.
use Rattle.std.specs.Prelude.{◌≡◌, ℕ, ◌-◌, ◌^◌, ◌≤◌, Bool, true, false, IsFalse, List, length, Some}
use Rattle.std.specs.List.{list_any}
use Rattle.pb_model.specs.Weight.{Weight, IsWeight}
use Rattle.pb_model.specs.Guide.{Guide}
use Rattle.pb_model.specs.Store.{Rows, Store, IsQuiet, HasOpened, CostsAtMost}
use Rattle.pb_model.specs.Work.{Work, Comes, expansions, broken_expansions, reopenings, ReopensQuiet, opening_store}
use Rattle.pb_machine.specs.declared.event.End.{End}
use Rattle.pb_machine.specs.declared.event.End.TheVariants.{Quiet, Budget, Memory}
use Rattle.pb_machine.specs.declared.event.Event.{Event}
use Rattle.pb_machine.specs.declared.event.Event.TheVariants.{Hot}
use Rattle.pb_machine.specs.declared.settings.Settings.{Settings}
use Rattle.pb_machine.specs.Settings.{weight_of}
use Rattle.pb_machine.specs.History.{IsHistory, AreFinished, is_report, events_of}
use Rattle.pb_machine.specs.Room.{no_room, KeepsWithinRoom}
use Rattle.pb_machine.specs.Machine.{Setup, Machine, Move, Runs, journal_of, opening_machine}
use Rattle.pb_machine.specs.Lawful.{IsLawful}
use Rattle.pb_task.specs.declared.parts.TaskParts.{TaskParts}
use Rattle.pb_task.specs.Parts.{space_of}
use Rattle.pb_estimate.specs.Choices.{Choice}
use Rattle.pb_abstract.specs.Projection.{IsFinest}
use Rattle.pb_abstract.specs.Graph.{AbstractGraph, blocks_of, IsGraphOf}
use Rattle.pb_lease.specs.Leased.{guide_of, setup_of}
use Rattle.pb_lease.specs.GraphValue.{GraphValue, setup_in}
use Rattle.pb_lease.specs.Moments.{IsMoment}
use Rattle.pb_lease.specs.Begins.{begin_machine}
use Rattle.pb_lease.specs.Choices.{is_out_in}
use Rattle.pb_yard.specs.Order.{RunsInTime}
use Rattle.pb_yard.specs.Marking.{MarksInTurn}
use Rattle.pb_yard.specs.Length.{most_events}
use Rattle.pb_workers.specs.Ends.{home_store, IsBestEnd}

-- ---- the estimate

-- what a search by this choice of an estimate is guided by: the estimate of each state, and its
-- block; no search looks at the settings for an estimate
abbrev pub searched_guide : TaskParts → AbstractGraph → Choice → Guide
searched_guide parts abstraction choice = guide_of parts abstraction choice

-- ---- the rows at a quiet end

-- no g of a row at home leaves 61 bits
abbrev pub HasSmallCosts : GraphValue → Type 0
HasSmallCosts graph = CostsAtMost (home_store graph) (2 ^ 61 - 1)

-- A search of this task at the weight of these settings, by this choice of an estimate, came to a
-- quiet end with this graph. All rows are at home: they are a sound store without an Opened row. The incumbent is shown by a
-- goal's row, some plan costs no more, and no plan costs less than the incumbent divided by the
-- weight. Without an incumbent there is no plan.
pub record IsBestOf (parts : TaskParts) (choice : Choice) (settings : Settings)
    (graph : GraphValue) : Type 0 where
  pub task : graph.task ≡ parts
  pub weight : weight_of graph.table.settings ≡ weight_of settings
  pub choice_is : graph.choice ≡ choice
  pub home : IsFalse (is_out_in graph)
  pub best : IsBestEnd graph
  pub small : HasSmallCosts graph

-- ---- the search that led there

-- what is searched, and with what: the task, by these blocks and this estimate, with these
-- settings, from its start
abbrev pub search_of : TaskParts → AbstractGraph → Choice → Settings → Setup
search_of parts abstraction choice settings = setup_of parts abstraction choice settings 0

-- these moves lead from the machine that has the start's row alone to this one
abbrev pub Leads : Setup → List Move → Machine → Type 0
Leads setup moves machine = Runs setup (opening_machine setup) moves machine

-- These moves lead from the machine that has the start's row alone to this one, in order and in
-- time. Each lease is of the first choice at that moment, and with the incumbent of the whole
-- store. Its worker takes the first Opened row of its block again and again. It goes on, or comes
-- back, with a cause.
abbrev pub LeadsInTime : Setup → List Move → Machine → Type 0
LeadsInTime setup moves machine = RunsInTime setup no_room (opening_machine setup) moves machine

-- this work leads from the start's row alone, at the weight of the settings, to this store
abbrev pub ComesFromStart : TaskParts → AbstractGraph → Choice → Settings → List Work → Store
    → Type 0
ComesFromStart parts abstraction choice settings works store =
    let space = space_of parts in
    let guide = searched_guide parts abstraction choice in
    Comes space guide works (opening_store space guide (weight_of settings)) store

-- What an end says of the rows and of the number of expansions that led to them. A quiet end: no
-- row is Opened, and there were no more expansions than the budget allows. The budget's: a row is
-- Opened, and there were exactly as many.
abbrev pub HasEndedSo : End → Settings → Store → (expanded : ℕ) → Type 0
HasEndedSo Quiet settings store expanded = (expanded ≤ settings.budget) × IsQuiet store
HasEndedSo Budget settings store expanded =
    (expanded ≡ settings.budget) × ((block : ℕ) × HasOpened (store.rows block))
HasEndedSo Memory settings store expanded = ⊥

-- A run of a search by leases came to this end by these moves. It began with this machine, and
-- earlier runs on the same rows had spent so much of the budget. The moves lead to a lawful machine
-- with this end, at which every worker has signed off. So their events are a finished legal
-- history. Whatever the number of workers, the moves are in order and in time. Each lease is of the
-- first choice at its moment, with the incumbent of the whole store. Expansions, none of them
-- broken off, lead from the start's row alone to the rows of that machine, as the end says: those of
-- this run, and those of the earlier ones. The rows were opened again before each run but the
-- first, when no row was Opened. The journal isn't padded: each of its events is within the room of
-- its lease. No event reports out of memory: every worker signed off without a report, and each
-- lease came back without one.
pub record RunEnds (setup : Setup) (before : ℕ) (begin : Machine) (end : End) (moves : List Move)
    : Type 0 where
  pub machine : Machine
  pub run : Runs setup begin moves machine
  pub ordered : RunsInTime setup no_room begin moves machine
  pub lawful : IsLawful setup machine
  pub end_is : machine.counts.end ≡ Some end
  pub finished : AreFinished setup.settings machine.counts
  pub legal : IsHistory setup.blocks setup.settings before (journal_of moves) machine.counts
  pub first_weight : Weight
  pub is_weight : IsWeight first_weight
  pub works : List Work
  pub comes : Comes setup.space setup.guide works
      (opening_store setup.space setup.guide first_weight) machine.store
  pub none_broken : broken_expansions works ≡ 0
  pub reopened : reopenings works ≡ setup.reopenings
  pub between : ReopensQuiet setup.space setup.guide works
      (opening_store setup.space setup.guide first_weight)
  pub first_run : setup.reopenings ≡ 0 → first_weight ≡ weight_of setup.settings
  pub ended_so : HasEndedSo end setup.settings machine.store (expansions works)
  pub within : KeepsWithinRoom (journal_of moves)
  pub unreported : IsFalse (list_any is_report (journal_of moves))

-- The run that began with this graph came to this end by these moves.
abbrev pub EndsFrom : (begin : GraphValue) → End → List Move → Type 0
EndsFrom begin end moves =
    RunEnds (setup_in begin) begin.table.past.spent (begin_machine begin) end moves

-- A search by leases of this task, by this estimate and with these settings, came to this end by
-- these moves. They are over the finest abstract graph of the task that has no more blocks than are wished for. The run is
-- a first one: it began with the machine that has the start's row alone, at the weight of the
-- settings. There are no more events than the expansions can have brought about. Each worker marked
-- at most once a turn, with its quota used up, and took no mark away.
pub record EndsBy (parts : TaskParts) (choice : Choice) (settings : Settings) (end : End)
    (moves : List Move) : Type 0 where
  pub abstraction : AbstractGraph
  pub graph_of : IsGraphOf parts abstraction
  pub finest : IsFinest parts settings.wish abstraction.projection
  pub few : (blocks_of abstraction).count ≤ 4096
  pub run : RunEnds (search_of parts abstraction choice settings) 0
      (opening_machine (search_of parts abstraction choice settings)) end moves
  pub comes : ComesFromStart parts abstraction choice settings run.works run.machine.store
  pub short : length (journal_of moves)
      ≤ most_events (space_of parts).actions run.machine.counts.spent settings.workers
  pub marks : (worker : ℕ) → MarksInTurn (events_of worker (journal_of moves))

-- A search of this task, by this estimate and with these settings, came to the end of its budget by
-- some moves. Their events are those of the journal.
abbrev pub StopsWith : TaskParts → Choice → Settings → (journal : List Event) → Type 0
StopsWith parts choice settings journal =
    (moves : List Move) × (journal ≡ journal_of moves) × EndsBy parts choice settings Budget moves

-- A search of this task, by this estimate and with these settings, came to a quiet end by some
-- moves. Their events are those of the journal. The search left this graph. The graph's blocks are those of the search, and
-- the rows at home, with the incumbent, are all that the machine has.
pub record EndsQuietly (parts : TaskParts) (choice : Choice) (settings : Settings)
    (journal : List Event) (graph : GraphValue) : Type 0 where
  pub moves : List Move
  pub journal_is : journal ≡ journal_of moves
  pub ends : EndsBy parts choice settings Quiet moves
  pub blocks : graph.table.abstraction ≡ ends.abstraction
  pub rows : home_store graph ≡ ends.run.machine.store

-- ---- the graph that a run leaves

-- A run that began with this machine, after earlier runs had spent so much of the budget, ended and
-- left this graph: a moment of the machine that the run came to, with the run's events as its journal.
pub record IsLeftBy (setup : Setup) (before : ℕ) (begin : Machine) (graph : GraphValue) : Type 0
  where
    pub end : End
    pub end_is : graph.table.end ≡ Some end
    pub moves : List Move
    pub journal_is : graph.table.journal ≡ journal_of moves
    pub run : RunEnds setup before begin end moves
    pub recorded : (worker : ℕ) → Rows
    pub moment : IsMoment graph recorded run.machine

-- the run that began with this graph left that one
abbrev pub IsLeftByRun : (begin graph : GraphValue) → Type 0
IsLeftByRun begin graph =
    IsLeftBy (setup_in begin) begin.table.past.spent (begin_machine begin) graph

-- a search of this task, by this estimate and with these settings, from its opening, left this graph
abbrev pub IsLeftBySearch : TaskParts → Choice → Settings → (graph : GraphValue) → Type 0
IsLeftBySearch parts choice settings graph =
    let setup = search_of parts graph.table.abstraction choice settings in
    IsLeftBy setup 0 (opening_machine setup) graph

-- ---- marks

-- whether the event marks a block hot
abbrev pub is_mark : Event → Bool
is_mark (Hot worker block) = true
is_mark event = false

-- no block was marked hot
abbrev pub MarksNothing : (journal : List Event) → Type 0
MarksNothing journal = IsFalse (list_any is_mark journal)
