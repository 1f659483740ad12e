-- A search of a task by an estimate, with some settings, and what it means that it came to an end.
use Rattle.std.specs.Prelude.{◌≡◌, IsTrue, List}
use Rattle.pb_machine.specs.declared.event.End.{End}
use Rattle.pb_machine.specs.declared.event.Event.{Event}
use Rattle.pb_machine.specs.declared.settings.Settings.{Settings}
use Rattle.pb_machine.specs.Machine.{Move, journal_of}
use Rattle.pb_task.specs.declared.parts.TaskParts.{TaskParts}
use Rattle.pb_estimate.specs.Choices.{Choice}
use Rattle.pb_lease.specs.GraphValue.{GraphValue}
use Rattle.pb_search.specs.Ends.{EndsBy, IsBestOf, EndsQuietly, StopsWith, MarksNothing}

-- A search by leases of this task, by this estimate and with these settings, came to this end by
-- some moves, and the journal has their events. If the search is plain, none of them marks a block hot.
pub record SearchEnds (parts : TaskParts) (choice : Choice) (settings : Settings) (end : End)
    (journal : List Event) : Type 0 where
  pub moves : List Move
  pub events : journal ≡ journal_of moves
  pub ends : EndsBy parts choice settings end moves
  pub plain : IsTrue settings.plain → MarksNothing journal

-- A search of this task, by this estimate and with these settings, came to a quiet end with this
-- graph.
pub record LeavesQuiet (parts : TaskParts) (choice : Choice) (settings : Settings)
    (graph : GraphValue) : Type 0 where
  pub settings_are : graph.table.settings ≡ settings
  pub best : IsBestOf parts choice settings graph
  pub run : EndsQuietly parts choice settings graph.table.journal graph
  pub plain : IsTrue settings.plain → MarksNothing graph.table.journal

-- A search of this task, by this estimate and with these settings, came to the end of its budget
-- with this graph.
pub record LeavesStopped (parts : TaskParts) (choice : Choice) (settings : Settings)
    (graph : GraphValue) : Type 0 where
  pub settings_are : graph.table.settings ≡ settings
  pub run : StopsWith parts choice settings graph.table.journal
  pub plain : IsTrue settings.plain → MarksNothing graph.table.journal
