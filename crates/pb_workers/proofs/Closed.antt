-- A worker that signed off.
use Rattle.std.proofs.Common.{◌≡◌, Bool, true, false, Some, None, refl, sym, ap, ◌∙◌, ◌∷◌}
use Rattle.pb_machine.specs.declared.event.End.TheVariants.{Memory}
use Rattle.pb_machine.specs.declared.event.Event.TheVariants.{Off}
use Rattle.pb_machine.specs.Counts.{Counts, counts_after, is_any_out}
use Rattle.pb_lease.specs.Tables.{blocks, rooms}
use Rattle.pb_lease.specs.Events.{ending}
use Rattle.pb_lease.specs.GraphValue.{GraphValue, counts_in}
use Rattle.pb_lease.specs.Choices.{is_out_in}
use Rattle.pb_lease.specs.Steps.{IsSignedOff, KeepsLeases}
use Rattle.pb_yard.proofs.Callers.{ending_rooms, off_timely}
use Rattle.pb_workers.specs.Runs.{IsSameSearch, RunsOn}
use Rattle.pb_machine.specs.History.{events_of}
use Rattle.pb_yard.specs.Marking.{no_turn}
use Rattle.pb_workers.specs.Turns.{HasTurn}
use Rattle.pb_workers.proofs.Turns.{ending_none, one_more, journal_more}
use Rattle.pb_workers.proofs.Going.{keeping_runs}
use Rattle.pb_workers.proofs.Returned.{ending_same, ended_by_memory}

module _ (old : GraphValue) (memory : Bool) (new : GraphValue) (s : IsSignedOff old 0 memory new) where
  abbrev Gone : Counts
  Gone = counts_after (blocks old.table) old.table.settings (counts_in old) (Off 0 memory)

  pub closed_same : IsSameSearch old new
  closed_same = record { task = ap (λ (v : GraphValue). v.task) s.rest; abstraction = s.events.abstraction; choice = ap (λ (v : GraphValue). v.choice) s.rest; settings = s.events.settings; past = s.events.past }

  closed_leases : (counts_in new).leases ≡ (counts_in old).leases
  closed_leases = ap (λ (c : Counts). c.leases) s.events.counts ∙ ending_same (λ c. c.leases) (blocks old.table) old.table.settings Gone memory old.table.end (λ c. refl)

  pub closed_home : is_out_in old ≡ false → is_out_in new ≡ false
  closed_home home = (λ i. is_any_out (s.events.settings i).workers (closed_leases i)) ∙ home

  pub closed_signed : (counts_in new).signed_off 0 ≡ true
  closed_signed = ap (λ (c : Counts). c.signed_off 0) s.events.counts ∙ ending_same (λ c. c.signed_off 0) (blocks old.table) old.table.settings Gone memory old.table.end (λ c. refl)

  pub closed_runs : (memory ≡ true → old.table.end ≡ None) → KeepsLeases old (Off 0 memory ∷ ending memory old.table.end) new → RunsOn old new
  closed_runs free keeps = keeping_runs old (Off 0 memory ∷ ending memory old.table.end) new (off_timely old 0 memory free) (ending_rooms (rooms old.table) memory old.table.end ∙ sym s.room) keeps (ap (λ (v : GraphValue). v.incumbent) s.rest) s.events.journal

  pub closed_turn : HasTurn old 0 no_turn → HasTurn new 0 no_turn
  closed_turn before = journal_more old.table.journal new.table.journal 0 (Off 0 memory ∷ ending memory old.table.end) s.events.journal
      ∙ one_more (events_of 0 old.table.journal) 0 no_turn before (Off 0 memory) (ending memory old.table.end) refl (ending_none 0 memory old.table.end)

pub closed_end : (old new : GraphValue) → IsSignedOff old 0 false new → new.table.end ≡ old.table.end
closed_end old new s = ap (λ (c : Counts). c.end) s.events.counts

pub closed_by_memory : (old new : GraphValue) → IsSignedOff old 0 true new → old.table.end ≡ None → new.table.end ≡ Some Memory
closed_by_memory old new s none = ap (λ (c : Counts). c.end) s.events.counts ∙ ended_by_memory (blocks old.table) old.table.settings (Gone old true new s) old.table.end none
