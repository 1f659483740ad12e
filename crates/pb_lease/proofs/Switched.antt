-- A worker that goes on to another block: the graph between the return of its lease and its next lease, and the move from one moment to the next.
use Rattle.std.proofs.Common.{◌≡◌, ℕ, ◌+◌, ◌-◌, ◌<◌, ◌≤◌, true, false, cond, ◌==◌, is_some, [], ◌∷◌, ◌++◌, length, slice_set, Option, None, refl, sym, ap, ◌∙◌, subst, append_assoc, true≢false}
use Rattle.std.specs.Option.{option_or}
use Rattle.pb_model.specs.Store.{Store}
use Rattle.pb_model.proofs.Callers.{by_cases, equal_self}
use Rattle.pb_machine.specs.declared.event.Event.TheVariants.{Lease, Release}
use Rattle.pb_machine.specs.declared.event.Grant.{Grant}
use Rattle.pb_machine.specs.Tables.{with_entry}
use Rattle.pb_machine.specs.Counts.{Counts, counts_after, quota_of}
use Rattle.pb_machine.specs.Choice.{IsFirstChoice, counts_with_lease_home}
use Rattle.pb_machine.specs.Machine.{Setup, Machine, Move, Moves, Runs, event_move}
use Rattle.pb_machine.specs.Turns.{IsInOrder, RunsInOrder, CameBackInTurns}
use Rattle.pb_machine.proofs.Callers.{counts_same, entry_here, entry_else}
use Rattle.pb_lists.specs.Bundle.{Content}
use Rattle.pb_bundles.specs.Parts.{content_in}
use Rattle.pb_bundles.specs.Homes.{HomeTable, content_at}
use Rattle.pb_bundles.specs.Moves.{put_back}
use Rattle.pb_bundles.proofs.Callers.{by_found, put_back_at, put_back_length}
use Rattle.pb_lease.specs.declared.seat.Seat.{Seat}
use Rattle.pb_lease.specs.Tables.{Table, blocks, counts_of, seat_of, rooms}
use Rattle.pb_lease.specs.Leasing.{can_be_leased}
use Rattle.pb_lease.specs.Events.{Adds}
use Rattle.pb_lease.specs.LeaseValue.{LeaseValue}
use Rattle.pb_lease.specs.Leased.{grant_of}
use Rattle.pb_lease.specs.GraphValue.{GraphValue, setup_in, counts_in, IsLeaseGraph, IsOfGraph}
use Rattle.pb_lease.specs.Steps.{IsReleased, IsSwitched, SwitchesNext, GoesOver}
use Rattle.pb_lease.proofs.SeatLists.{seat_set, seat_kept, seated}
use Rattle.pb_lease.proofs.SwitchKept.{outlives}
use Rattle.pb_lease.proofs.GraphBasics.{lawful_in}
use Rattle.pb_lease.proofs.GraphKept.{released_kept, places_vacant}
use Rattle.pb_lease.proofs.MomentSteps.{IsLent, lent_next}
use Rattle.pb_lease.proofs.MomentReturns.{release_is_legal, released_next, released_store, chosen_any_by_rows}

entry_twice : {A : Type 0} (table : ℕ → A) (at : ℕ) (value : A) → with_entry (with_entry table at value) at value ≡ with_entry table at value
entry_twice table at value = λ i other. by_cases (other == at)
    (λ e. entry_here (with_entry table at value) at other value e ∙ sym (entry_here table at other value e))
    (λ e. entry_else (with_entry table at value) at other value e) i

module _ (old : GraphValue) (k : IsLeaseGraph old) (lease : LeaseValue) (of : IsOfGraph old lease) (few : lease.used ≤ lease.quota) (block quota : ℕ) (after : Table)
    (adds : Adds old.table after (Release lease.worker lease.used false ∷ Lease lease.worker block quota ∷ [])) where
  there : lease.worker < length old.table.seats
  there = seated old.table.seats lease.worker (grant_of lease) of.leased

  abbrev Home : Seat
  Home = record { grant = None; room = 0; signed_off = (seat_of old.table.seats lease.worker).signed_off }

  -- the tables after the return, before the next lease
  abbrev pub mid_table : Table
  mid_table = record {
    abstraction = old.table.abstraction;
    settings = old.table.settings;
    past = old.table.past;
    seats = slice_set old.table.seats lease.worker Home;
    hot = after.hot;
    spent = old.table.spent + lease.used;
    left = old.table.left + (lease.quota - lease.used);
    end = old.table.end;
    journal = old.table.journal ++ Release lease.worker lease.used false ∷ [];
  }

  abbrev home : Counts
  home = counts_after (blocks old.table) old.table.settings (counts_in old) (Release lease.worker lease.used false)

  pub mid_counts : counts_of mid_table ≡ home
  mid_counts = counts_same (counts_of mid_table) home
      (seat_set old.table.seats lease.worker Home there (λ (s : Seat). s.grant))
      (λ other. ap (λ (c : Counts). c.hot other) adds.counts)
      (seat_kept old.table.seats lease.worker Home there (λ (s : Seat). s.signed_off) refl) refl
      (ap (λ (o : Option Grant). old.table.left + (quota_of o - lease.used)) (sym of.leased)) refl refl

  pub first_adds : Adds old.table mid_table (Release lease.worker lease.used false ∷ [])
  first_adds = record { counts = mid_counts; journal = refl; abstraction = refl; settings = refl; past = refl }

  pub second_adds : Adds mid_table after (Lease lease.worker block quota ∷ [])
  second_adds = record {
    counts = adds.counts ∙ ap (λ (c : Counts). counts_after (blocks old.table) old.table.settings c (Lease lease.worker block quota)) (sym mid_counts);
    journal = adds.journal ∙ sym (append_assoc old.table.journal (Release lease.worker lease.used false ∷ []) (Lease lease.worker block quota ∷ []));
    abstraction = adds.abstraction;
    settings = adds.settings;
    past = adds.past;
  }

  pub mid_room : rooms mid_table ≡ with_entry (rooms old.table) lease.worker 0
  mid_room = λ i w. seat_set old.table.seats lease.worker Home there (λ (s : Seat). s.room) w i

  pub mid_vacant : (counts_of mid_table).leases lease.worker ≡ None
  mid_vacant = ap (λ (c : Counts). c.leases lease.worker) mid_counts ∙ entry_here (counts_in old).leases lease.worker lease.worker None (equal_self lease.worker)

  pub mid_stays : (counts_of mid_table).signed_off lease.worker ≡ false
  mid_stays = ap (λ (c : Counts). c.signed_off lease.worker) mid_counts ∙ by_cases ((counts_in old).signed_off lease.worker)
      (λ e. absurd (true≢false (ap is_some (sym of.leased ∙ ((lawful_in old k).off lease.worker e).1))))
      (λ e. e)

  pub mid_inside : lease.worker < old.table.settings.workers
  mid_inside = ((lawful_in old k).known lease.worker (grant_of lease) of.leased).0

  pub mid_can : can_be_leased (blocks old.table) old.table.settings (counts_with_lease_home (counts_in old) lease.worker lease.used) block ≡ true → can_be_leased (blocks old.table) old.table.settings (counts_of mid_table) block ≡ true
  mid_can test = subst (λ (c : Counts). can_be_leased (blocks old.table) old.table.settings c block ≡ true) (sym mid_counts) (outlives (blocks old.table) old.table.settings (counts_in old) lease.worker lease.used block false test)

  -- the graph then
  abbrev pub mid_graph : HomeTable → Option ℕ → GraphValue
  mid_graph homes incumbent = record { task = old.task; choice = old.choice; table = mid_table; homes = homes; incumbent = incumbent }

  pub mid_kept : (homes : HomeTable) (incumbent : Option ℕ) → length homes.bundles ≡ length old.homes.bundles → length homes.keys ≡ length old.homes.keys
      → ((b : ℕ) → content_at homes b ≡ option_or (content_in lease.parts b) (content_at old.homes b)) → IsLeaseGraph (mid_graph homes incumbent)
  mid_kept homes incumbent = released_kept old k lease of false mid_table homes incumbent first_adds (release_is_legal old k lease of few false)

-- ---- from one moment to the next

one_move : (setup : Setup) (old new : Machine) (move : Move) → Runs setup old (move ∷ []) new → Moves setup old move new
one_move setup old new move runs = subst (λ (m : Machine). Moves setup old move m) (sym runs.2) runs.1

one_ordered : (setup : Setup) (old new : Machine) (move : Move) → RunsInOrder setup old (move ∷ []) new → IsInOrder setup old move new
one_ordered setup old new move runs = subst (λ (m : Machine). IsInOrder setup old move m) (sym runs.3) runs.2

module _ (old : GraphValue) (k : IsLeaseGraph old) (lease : LeaseValue) (of : IsOfGraph old lease) (few : lease.used ≤ lease.quota) (lent : LeaseValue) (new : GraphValue) where
  abbrev Next : LeaseValue
  Next = record lent { worker = lease.worker }

  module _ (n : IsSwitched old lease Next new) (over : GoesOver old lease new lent.block) where
    abbrev Homes : HomeTable
    Homes = record { bundles = put_back lease.parts old.homes.bundles; keys = new.homes.keys }

    abbrev Mid : GraphValue
    Mid = mid_graph old k lease of few lent.block lent.quota new.table n.events Homes new.incumbent

    parts_known : (b : ℕ) → content_at Homes b ≡ option_or (content_in lease.parts b) (content_at old.homes b)
    parts_known b = put_back_at lease.parts old.homes.bundles b (by_found (λ p. p < length old.homes.bundles) lease.parts (λ p there. (places_vacant old k lease of p there).0))

    released : IsReleased old lease false Mid
    released = record {
      home = parts_known;
      noted = n.noted;
      events = first_adds old k lease of few lent.block lent.quota new.table n.events;
      room = mid_room old k lease of few lent.block lent.quota new.table n.events;
      task = refl;
      choice = refl;
      incumbent = n.incumbent;
    }

    mid_is : IsLeaseGraph Mid
    mid_is = mid_kept old k lease of few lent.block lent.quota new.table n.events Homes new.incumbent (put_back_length lease.parts old.homes.bundles) n.noted.count parts_known

    is_lent : IsLent Mid Next new
    is_lent = record {
      may = mid_can old k lease of few lent.block lent.quota new.table n.events over.0.0.0;
      opened = over.0.0.1;
      quota = n.quota;
      used = n.used;
      lent_incumbent = n.lent_incumbent ∙ sym n.incumbent;
      of_graph = n.of_graph;
      moved = λ b. n.moved b ∙ ap (λ (o : Option Content). cond ((blocks old.table).scope lent.block b) o None) (sym (parts_known b));
      left = λ b. n.left b ∙ ap (λ (o : Option Content). cond ((blocks old.table).scope lent.block b) None o) (sym (parts_known b));
      keys = refl;
      events = second_adds old k lease of few lent.block lent.quota new.table n.events;
      task = n.task;
      choice = n.choice;
      incumbent = refl;
    }

    switches : SwitchesNext old lease Next new
    switches recorded machine m out shows known =
        let setup = setup_in old in
        let first = released_next old k lease of few false Mid released recorded machine m out shows known in
        let home : Machine = first.0 in
        let second = lent_next Mid mid_is Next new is_lent (mid_inside old k lease of few lent.block lent.quota new.table n.events) (mid_vacant old k lease of few lent.block lent.quota new.table n.events)
        (mid_stays old k lease of few lent.block lent.quota new.table n.events) recorded home first.1.moment in
        let last : Machine = second.0 in
        let store = second.4 in
        let comes = one_move setup machine home (event_move (Release lease.worker lease.used false)) first.1.moves in (
          last,
          record { setup = second.1.setup ∙ first.1.setup; moves = (last, (home, comes, second.6), refl); moment = second.1.moment },
          second.2,
          second.3,
          ap (λ (s : Store). s.incumbent) store ∙ first.2,
          second.5 ∙ ap (λ (told : ℕ → Option ℕ). with_entry told lease.worker None) first.3 ∙ entry_twice machine.told lease.worker None,
          λ turns.
              let came : CameBackInTurns setup machine lease.worker lease.used 0 home.store = one_ordered setup machine home (event_move (Release lease.worker lease.used false)) (first.4 turns) in
              let chosen = (chosen_any_by_rows old k lease of few new n.noted recorded machine m lent.block).0 over.0 in
              let same = released_store old k lease of few false Mid released recorded machine m out shows known in (
                last,
                (home, comes, second.6),
                (
                  subst (λ (s : Store). CameBackInTurns setup machine lease.worker lease.used 0 s) (sym store) came,
                  subst (λ (s : Store). IsFirstChoice setup.blocks setup.settings (counts_with_lease_home machine.counts lease.worker lease.used) s lent.block) (sym (store ∙ same)) chosen,
                ),
                refl,
              ),
          second.7,
        )

module _ (old : GraphValue) (k : IsLeaseGraph old) (lease : LeaseValue) (of : IsOfGraph old lease) (few : lease.used ≤ lease.quota) (next : LeaseValue) (new : GraphValue) where
  pub switched_next : IsSwitched old lease next new → GoesOver old lease new next.block → SwitchesNext old lease next new
  switched_next n over =
      let same : record next { worker = lease.worker } ≡ next = ap (λ w. record next { worker = w }) (sym n.worker_is) in
      subst (λ (l : LeaseValue). SwitchesNext old lease l new) same (switches old k lease of few next new (subst (λ (l : LeaseValue). IsSwitched old lease l new) (sym same) n) over)
