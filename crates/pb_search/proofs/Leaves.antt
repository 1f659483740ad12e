-- From the clauses of a search to what it leaves, and from that to the rows at its end.
use Rattle.std.proofs.Common.{◌≡◌, IsTrue, ◌∙◌, subst}
use Rattle.pb_machine.specs.declared.event.End.TheVariants.{Quiet, Budget}
use Rattle.pb_machine.specs.declared.settings.Settings.{Settings}
use Rattle.pb_task.specs.declared.parts.TaskParts.{TaskParts}
use Rattle.pb_task.specs.Parts.{space_of}
use Rattle.pb_estimate.specs.Choices.{Choice}
use Rattle.pb_lists.specs.Store.{IsQuietEnd}
use Rattle.pb_lease.specs.GraphValue.{GraphValue}
use Rattle.pb_lease.specs.Leased.{guide_of}
use Rattle.pb_workers.specs.Ends.{home_store}
use Rattle.pb_search.specs.Ends.{searched_guide, IsBestOf, EndsQuietly, StopsWith, MarksNothing}
use Rattle.pb_search.specs.Searches.{SearchEnds, LeavesQuiet}

module _ (parts : TaskParts) (choice : Choice) (given settings : Settings) (graph : GraphValue)
    (same : given ≡ settings) where
  pub leaves_quiet : graph.table.settings ≡ given → IsBestOf parts choice given graph
      → EndsQuietly parts choice given graph.table.journal graph
      → (IsTrue given.plain → MarksNothing graph.table.journal)
      → LeavesQuiet parts choice settings graph
  leaves_quiet settings_are best run plain = record {
    settings_are = settings_are ∙ same;
    best = subst (λ (s : Settings). IsBestOf parts choice s graph) same best;
    run = subst (λ (s : Settings). EndsQuietly parts choice s graph.table.journal graph) same run;
    plain = subst (λ (s : Settings). IsTrue s.plain → MarksNothing graph.table.journal) same plain;
  }

  pub search_stops : StopsWith parts choice given graph.table.journal
      → (IsTrue given.plain → MarksNothing graph.table.journal)
      → SearchEnds parts choice settings Budget graph.table.journal
  search_stops stops plain =
      let run = subst (λ (s : Settings). StopsWith parts choice s graph.table.journal) same stops in
      record {
        moves = run.0;
        events = run.1;
        ends = run.2;
        plain = subst (λ (s : Settings). IsTrue s.plain → MarksNothing graph.table.journal) same plain;
      }

module _ (parts : TaskParts) (choice : Choice) (settings : Settings) (graph : GraphValue)
    (left : LeavesQuiet parts choice settings graph) where
  -- the rows at home are those of a quiet end
  pub quiet_end : IsQuietEnd (space_of parts) (searched_guide parts graph.table.abstraction choice)
      (home_store graph)
  quiet_end =
      subst (λ (c : Choice).
      IsQuietEnd (space_of parts) (guide_of parts graph.table.abstraction c) (home_store graph))
      left.best.choice_is
      (subst (λ (p : TaskParts).
      IsQuietEnd (space_of p) (guide_of p graph.table.abstraction graph.choice) (home_store graph))
      left.best.task
      (record {
        sound = left.best.best.sound;
        quiet = left.best.best.quiet;
        shown = left.best.best.shown;
        holds = left.best.best.holds;
        small = left.best.small;
      }))

  -- the search itself
  abbrev pub search_ends : SearchEnds parts choice settings Quiet graph.table.journal
  search_ends = record {
    moves = left.run.moves;
    events = left.run.journal_is;
    ends = left.run.ends;
    plain = left.plain;
  }
