-- A run that goes on with the rows of an earlier one, as its callers learn of it.
use Rattle.std.proofs.Common.{◌≡◌, ◌<◌, ◌⊎◌, inl, inr, false, ℕ, List, Option, None, Some, Result, IfOk, refl, sym, ap, ◌∙◌, subst}
use Rattle.std.proofs.lemmas.Result.{IfOk-weaker}
use Rattle.pb_machine.specs.declared.event.End.{End}
use Rattle.pb_machine.specs.declared.event.End.TheVariants.{Quiet, Budget}
use Rattle.pb_machine.specs.declared.event.Event.{Event}
use Rattle.pb_machine.specs.Counts.{Counts}
use Rattle.pb_machine.specs.Room.{KeepsWithinRoom}
use Rattle.pb_machine.specs.Machine.{Setup}
use Rattle.pb_machine.specs.Lawful.{IsLawful}
use Rattle.pb_machine.proofs.Callers.{costs_fit}
use Rattle.pb_lease.specs.Leased.{setup_of}
use Rattle.pb_lease.specs.GraphValue.{GraphValue, setup_in, IsLeaseGraph}
use Rattle.pb_lease.specs.Choices.{is_out_in}
use Rattle.pb_lease.specs.Begins.{begin_machine, IsOfRun, FitsWord, IsFirstMoment}
use Rattle.pb_lease.proofs.Callers.{setup_is, all_rows}
use Rattle.pb_workers.specs.Ends.{IsBestEnd}
use Rattle.pb_workers.proofs.Callers.{best_end}
use Rattle.pb_search.specs.Ends.{HasSmallCosts, IsLeftByRun}
use Rattle.pb_search.specs.Searched.{HasRun}
use Rattle.pb_search.proofs.Clauses.{left_at}

module _ (begin : GraphValue) (k : IsLeaseGraph begin) (first : IsFirstMoment begin) (g : GraphValue) (h : HasRun begin g) where
  setup_same : setup_in g ≡ setup_in begin
  setup_same = λ i. setup_of (h.of_run.task i) (h.of_run.abstraction i) (h.of_run.choice i) (h.of_run.settings i) (h.of_run.past i).reopenings

  lawful : IsLawful (setup_in begin) h.machine
  lawful = subst (λ (s : Setup). IsLawful s h.machine) setup_same h.moment.at.lawful

  ended_here : (end : End) → g.table.end ≡ Some end → h.machine.counts.end ≡ Some end
  ended_here end is = ap (λ (c : Counts). c.end) h.moment.at.counts ∙ is

  ended : (h.machine.counts.end ≡ Some Quiet) ⊎ (h.machine.counts.end ≡ Some Budget)
  ended = elim h.ended [ inl quiet ↦ inl (ended_here Quiet quiet) | inr budget ↦ inr (ended_here Budget budget) ]

  left_with : (end : End) → g.table.end ≡ Some end → IsLeftByRun begin g
  left_with = left_at (setup_in begin) (setup_is begin k) k.legal.range begin.table.past.spent k.legal.enough (begin_machine begin) refl (first.moment (λ worker home state. None)).at.lawful h.moves h.machine h.ordered lawful h.finished
      (subst (λ (j : List Event). KeepsWithinRoom j) h.journal h.within) ended g h.recorded h.moment h.journal

  pub left_by_run : IsLeftByRun begin g
  left_by_run = elim h.ended [ inl quiet ↦ left_with Quiet quiet | inr budget ↦ left_with Budget budget ]

  pub quiet_end : g.table.end ≡ Some Quiet → IsBestEnd g × HasSmallCosts g
  quiet_end quiet = (
    best_end g h.lawful h.home h.recorded h.machine h.moment quiet,
    λ block state row found.
        costs_fit (setup_in g) h.machine (setup_is g h.lawful) h.lawful.legal.range h.moment.at.lawful block state row (all_rows g h.lawful h.recorded h.machine h.moment.at h.home block state ∙ found),
  )

-- ---- what the call hands back

module _ {E : Type 0} (begin : GraphValue) (k : IsLeaseGraph begin) (first : IsFirstMoment begin) (r : Result GraphValue E) (found : IfOk r (HasRun begin)) where
  pub of_run_then : IfOk r (IsOfRun begin)
  of_run_then = IfOk-weaker r (HasRun begin) (IsOfRun begin) (λ g h. h.of_run) found

  pub ended_then : IfOk r (λ g. (g.table.end ≡ Some Quiet) ⊎ (g.table.end ≡ Some Budget))
  ended_then = IfOk-weaker r (HasRun begin) (λ g. (g.table.end ≡ Some Quiet) ⊎ (g.table.end ≡ Some Budget)) (λ g h. h.ended) found

  pub home_then : IfOk r (λ g. is_out_in g ≡ false)
  home_then = IfOk-weaker r (HasRun begin) (λ g. is_out_in g ≡ false) (λ g h. h.home) found

  pub quiet_then : IfOk r (λ g. g.table.end ≡ Some Quiet → IsBestEnd g × HasSmallCosts g)
  quiet_then = IfOk-weaker r (HasRun begin) (λ g. g.table.end ≡ Some Quiet → IsBestEnd g × HasSmallCosts g) (λ g h. quiet_end begin k first g h) found

  pub left_then : IfOk r (IsLeftByRun begin)
  left_then = IfOk-weaker r (HasRun begin) (IsLeftByRun begin) (λ g h. left_by_run begin k first g h) found

  pub fits_then : IfOk r (λ g. 1 < begin.table.settings.workers → FitsWord g.incumbent)
  fits_then = IfOk-weaker r (HasRun begin) (λ g. 1 < begin.table.settings.workers → FitsWord g.incumbent) (λ g h. h.fits) found
