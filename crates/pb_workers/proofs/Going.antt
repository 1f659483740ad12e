-- Runs of a graph, one after another.
use Rattle.std.proofs.Common.{◌≡◌, ℕ, false, List, [], ◌++◌, refl, sym, ap, ◌∙◌, subst}
use Rattle.std.proofs.lemmas.List.{append_assoc, append-nil}
use Rattle.pb_model.specs.Store.{Rows}
use Rattle.pb_machine.specs.declared.event.Event.{Event}
use Rattle.pb_machine.specs.Counts.{Counts, is_any_out}
use Rattle.pb_machine.specs.Room.{rooms_after}
use Rattle.pb_machine.specs.Machine.{Setup, Machine, journal_of}
use Rattle.pb_machine.proofs.Callers.{runs_go_on, all_is_home}
use Rattle.pb_bundles.specs.Homes.{home_rows}
use Rattle.pb_lease.specs.Leased.{setup_of}
use Rattle.pb_lease.specs.Tables.{rooms}
use Rattle.pb_lease.specs.GraphValue.{GraphValue, setup_in}
use Rattle.pb_lease.specs.Choices.{is_out_in}
use Rattle.pb_lease.specs.Moments.{IsMoment, FollowsInOrder, moves_of}
use Rattle.pb_lease.specs.Steps.{KeepsLeases}
use Rattle.pb_lease.proofs.Callers.{keeps_in_order}
use Rattle.pb_yard.specs.Order.{RunsInTime}
use Rattle.pb_yard.proofs.Callers.{AreTimely, events_of_moves, in_time_on, rooms_on}
use Rattle.pb_workers.specs.Runs.{IsSameSearch, RunsTo, RunsOn}
use Rattle.pb_workers.specs.Serving.{searched_in}

-- ---- the same search

pub same_self : (g : GraphValue) → IsSameSearch g g
same_self g = record { task = refl; abstraction = refl; choice = refl; settings = refl; past = refl }

pub same_then : (old mid new : GraphValue) → IsSameSearch old mid → IsSameSearch mid new → IsSameSearch old new
same_then old mid new first second = record { task = second.task ∙ first.task; abstraction = second.abstraction ∙ first.abstraction; choice = second.choice ∙ first.choice; settings = second.settings ∙ first.settings; past = second.past ∙ first.past }

pub setup_is_same : (old new : GraphValue) → IsSameSearch old new → setup_in new ≡ setup_in old
setup_is_same old new same = λ i. setup_of (same.task i) (same.abstraction i) (same.choice i) (same.settings i) (same.past i).reopenings

pub same_searched : (old new : GraphValue) → IsSameSearch old new → searched_in new ≡ searched_in old
same_searched old new same = λ i. record { task = same.task i; abstraction = same.abstraction i; choice = same.choice i }

-- ---- runs

-- nothing happened
pub run_none : (g : GraphValue) (recorded : (worker : ℕ) → Rows) (machine : Machine) → IsMoment g recorded machine → RunsTo g machine g recorded machine
run_none g recorded machine m = record { moves = []; run = (machine.store.incumbent, (refl, refl)); events = sym (append-nil g.table.journal); room = refl; moment = m }

-- what follows by events is a run
pub run_one : (old : GraphValue) (machine : Machine) (events : List Event) (new : GraphValue) (recorded : (worker : ℕ) → Rows) (next : Machine)
    → FollowsInOrder old machine events new recorded next → RunsInTime (setup_in old) (rooms old.table) machine (moves_of events) next → rooms_after (rooms old.table) (moves_of events) ≡ rooms new.table → new.table.journal ≡ old.table.journal ++ events
    → RunsTo old machine new recorded next
run_one old machine events new recorded next f in_time room journal = record {
  moves = moves_of events;
  run = in_time;
  events = journal ∙ ap (λ es. old.table.journal ++ es) (sym (events_of_moves events));
  room = room;
  moment = f.moment;
}

-- a run goes on
pub run_then : (old mid new : GraphValue) (machine next last : Machine) (recorded after : (worker : ℕ) → Rows) → IsSameSearch old mid
    → RunsTo old machine mid recorded next → RunsTo mid next new after last → RunsTo old machine new after last
run_then old mid new machine next last recorded after same first second =
    let both = runs_go_on (setup_in old) first.moves second.moves machine next last in
    record {
      moves = first.moves ++ second.moves;
      run = in_time_on (setup_in old) (rooms old.table) first.moves second.moves machine next last first.run
          (subst (λ (r : ℕ → ℕ). RunsInTime (setup_in old) r next second.moves last) (sym first.room)
          (subst (λ (s : Setup). RunsInTime s (rooms mid.table) next second.moves last) (setup_is_same old mid same) second.run));
      events = second.events ∙ ap (λ j. j ++ journal_of second.moves) first.events
          ∙ append_assoc old.table.journal (journal_of first.moves) (journal_of second.moves) ∙ ap (λ j. old.table.journal ++ j) (sym both.2);
      room = rooms_on (rooms old.table) first.moves second.moves ∙ ap (λ (r : ℕ → ℕ). rooms_after r second.moves) first.room ∙ second.room;
      moment = second.moment;
    }

-- ---- with no lease out

-- it doesn't matter what was recorded
pub moment_home : (g : GraphValue) (recorded other : (worker : ℕ) → Rows) (machine : Machine) → is_out_in g ≡ false → IsMoment g recorded machine → IsMoment g other machine
moment_home g recorded other machine home m =
    let out = ap (λ (c : Counts). is_any_out g.table.settings.workers c.leases) m.at.counts ∙ home in
    record {
      at = record {
        lawful = m.at.lawful;
        counts = m.at.counts;
        whole = (all_is_home (setup_in g) machine.counts machine.store (home_rows g.homes) other m.at.lawful.counts out).1
            ((all_is_home (setup_in g) machine.counts machine.store (home_rows g.homes) recorded m.at.lawful.counts out).0 m.at.whole);
        keys = m.at.keys;
        incumbent = m.at.incumbent;
      };
      incumbent = m.incumbent;
      untold = m.untold;
    }

pub run_home : (old : GraphValue) (machine : Machine) (new : GraphValue) (recorded other : (worker : ℕ) → Rows) (next : Machine) → is_out_in new ≡ false
    → RunsTo old machine new recorded next → RunsTo old machine new other next
run_home old machine new recorded other next home r = record { moves = r.moves; run = r.run; events = r.events; room = r.room; moment = moment_home new recorded other next home r.moment }

-- events that keep the leases are a run
pub keeping_runs : (old : GraphValue) (events : List Event) (new : GraphValue) → AreTimely old events → rooms_after (rooms old.table) (moves_of events) ≡ rooms new.table → KeepsLeases old events new → new.incumbent ≡ old.incumbent → new.table.journal ≡ old.table.journal ++ events → RunsOn old new
keeping_runs old events new timely room keeps same journal recorded machine m =
    let next = keeps_in_order old events new keeps same recorded machine m in
    (next.0, run_one old machine events new recorded next.0 next.1 (timely machine machine.store.incumbent next.0 m.at.counts next.1.moves) room journal)

pub on_none : (g : GraphValue) → RunsOn g g
on_none g recorded machine m = (machine, run_none g recorded machine m)

pub on_then : (old mid new : GraphValue) → IsSameSearch old mid → RunsOn old mid → RunsOn mid new → RunsOn old new
on_then old mid new same first second recorded machine m =
    let one = first recorded machine m in
    let two = second recorded one.0 one.1.moment in
    (two.0, run_then old mid new machine one.0 two.0 recorded recorded same one.1 two.1)
