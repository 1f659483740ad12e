-- What a search by leases left, as solving asks for it.
use Rattle.std.proofs.Common.{◌≡◌, Some, List, refl, sym, subst}
use Rattle.pb_machine.specs.declared.event.End.TheVariants.{Quiet, Budget}
use Rattle.pb_task.specs.declared.parts.TaskParts.{TaskParts}
use Rattle.pb_estimate.specs.Choices.{Choice}
use Rattle.pb_abstract.specs.Graph.{home_of}
use Rattle.pb_lease.specs.GraphValue.{GraphValue}
use Rattle.pb_workers.specs.Ends.{home_store}
use Rattle.pb_search.specs.Ends.{searched_guide}
use Rattle.pb_search.specs.Searches.{SearchEnds, LeavesQuiet, LeavesStopped}
use Rattle.pb_search.proofs.Callers.{quiet_end, search_ends}
use Rattle.pb_command.specs.Meaning.{SolveMeaning}
use Rattle.pb_answer.specs.Outputs.{Output}
use Rattle.pb_answer.specs.Searches.{settings_of}
use Rattle.pb_command.specs.declared.command.Engine.TheVariants.{Leases}
use Rattle.pb_answer.specs.Engines.{engine_asked, left_by_leases}
use Rattle.pb_answer.specs.Claims.{journal_outputs, Stops}
use Rattle.pb_answer.specs.Ended.{left_with, LeavesQuietRows}
use Rattle.pb_answer.proofs.Asked.{asked}

module _ (solve : SolveMeaning) (engine : engine_asked solve ≡ Leases) (parts : TaskParts)
    (choice : Choice) (graph : GraphValue) (saved : List Output)
    (saved_is : saved ≡ journal_outputs solve.journal (settings_of solve) graph.table.journal) where
  pub quiet_rows : LeavesQuiet parts choice (settings_of solve) graph
      → LeavesQuietRows solve parts choice (home_of graph.task graph.table.abstraction) (home_store graph) saved
  quiet_rows left =
      subst (λ (p : TaskParts).
      LeavesQuietRows solve parts choice (home_of p graph.table.abstraction) (home_store graph) saved)
      (sym left.best.task)
      (record {
        end = quiet_end parts choice (settings_of solve) graph left;
        weight = left.best.weight;
        journal = Some graph.table.journal;
        leaves = asked solve Leases engine parts choice Quiet _ (
          graph.table.journal,
          search_ends parts choice (settings_of solve) graph left,
          λ i. left_with (searched_guide parts (left.run.blocks i) choice)
              (left.run.rows i) (Some graph.table.journal),
        );
        saved_is = saved_is;
      })

  pub stops : LeavesStopped parts choice (settings_of solve) graph
      → Stops (λ outputs. ◌≡◌ {A = List Output} saved outputs) solve choice parts
  stops left =
      let stop = left.run in
      let run : SearchEnds parts choice (settings_of solve) Budget graph.table.journal =
      record { moves = stop.0; events = stop.1; ends = stop.2; plain = left.plain } in (
        left_by_leases run,
        asked solve Leases engine parts choice Budget _ (graph.table.journal, run, refl),
        saved_is,
      )
