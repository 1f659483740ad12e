-- A yard that was closed, as the end of the run that its first graph began.
use Rattle.std.proofs.Common.{◌≡◌, ◌⊎◌, inl, inr, List, Option, Some, None, refl, sym, ap, ◌∙◌, subst}
use Rattle.pb_machine.specs.declared.event.End.{End}
use Rattle.pb_machine.specs.declared.event.End.TheVariants.{Quiet, Budget}
use Rattle.pb_machine.specs.declared.event.Event.{Event}
use Rattle.pb_machine.specs.declared.settings.Settings.{Settings}
use Rattle.pb_machine.specs.Counts.{Counts}
use Rattle.pb_machine.specs.History.{AreFinished}
use Rattle.pb_machine.specs.Room.{no_room, KeepsWithinRoom}
use Rattle.pb_machine.specs.Machine.{Setup}
use Rattle.pb_machine.specs.Lawful.{IsLawful}
use Rattle.pb_lease.specs.Leased.{setup_of}
use Rattle.pb_lease.specs.GraphValue.{GraphValue, setup_in, counts_in, IsLeaseGraph}
use Rattle.pb_lease.specs.Begins.{begin_machine}
use Rattle.pb_lease.proofs.Callers.{setup_is}
use Rattle.pb_yard.specs.declared.view.View.{View}
use Rattle.pb_yard.specs.Order.{RunsInTime}
use Rattle.pb_yard.specs.Calls.{IsClosed}
use Rattle.pb_search.specs.Ends.{EndsFrom}
use Rattle.pb_search.specs.Laws.{ClosedYardsHaveEnded}
use Rattle.pb_search.proofs.Clauses.{run_ends}

module _ (view : View) (g : GraphValue) (end : End) (begins : IsLeaseGraph view.begin) (c : IsClosed view g) (within : KeepsWithinRoom g.table.journal) (is : g.table.end ≡ Some end) where
  setup_same : setup_in g ≡ setup_in view.begin
  setup_same = λ i. setup_of (c.of_run.task i) (c.of_run.abstraction i) (c.of_run.choice i) (c.of_run.settings i) (c.of_run.past i).reopenings

  end_is : c.machine.counts.end ≡ Some end
  end_is = ap (λ (n : Counts). n.end) (c.moment (λ worker home state. None)).at.counts ∙ is

  lawful : IsLawful (setup_in view.begin) c.machine
  lawful = subst (λ (s : Setup). IsLawful s c.machine) setup_same (c.moment (λ worker home state. None)).at.lawful

  finished : AreFinished view.begin.table.settings c.machine.counts
  finished = subst (λ (n : Counts). AreFinished view.begin.table.settings n) (sym (c.moment (λ worker home state. None)).at.counts)
      (subst (λ (s : Settings). AreFinished s (counts_in g)) c.of_run.settings c.finished)

  run : RunsInTime (setup_in view.begin) no_room (begin_machine view.begin) c.moves c.machine
  run = subst (λ (s : Setup). RunsInTime s no_room (begin_machine view.begin) c.moves c.machine) setup_same c.run

  ended : (end ≡ Quiet) ⊎ (end ≡ Budget) → (c.machine.counts.end ≡ Some Quiet) ⊎ (c.machine.counts.end ≡ Some Budget)
  ended (inl quiet) = inl (end_is ∙ ap (λ (e : End). Some e) quiet)
  ended (inr budget) = inr (end_is ∙ ap (λ (e : End). Some e) budget)

  pub ends_from : (end ≡ Quiet) ⊎ (end ≡ Budget) → EndsFrom view.begin end c.moves
  ends_from which = run_ends (setup_in view.begin) (setup_is view.begin begins) begins.legal.range view.begin.table.past.spent begins.legal.enough (begin_machine view.begin) refl (c.begins.moment (λ worker home state. None)).at.lawful c.moves c.machine run lawful finished
      (subst (λ (j : List Event). KeepsWithinRoom j) (sym c.journal) within) (ended which) end end_is

pub closed_yards_have_ended : ClosedYardsHaveEnded
closed_yards_have_ended view g end begins closed within is which = (closed.moves, closed.journal, ends_from view g end begins closed within is which)
