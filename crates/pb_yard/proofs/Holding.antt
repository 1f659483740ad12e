-- A call that holds the graph keeps the rule of the yard: the one lemma for all calls.
use Rattle.std.proofs.Common.{◌≡◌, ◌≢◌, ℕ, ◌==◌, Bool, true, false, ◌&&◌, List, [], ◌++◌, map, set, Option, Some, None, refl, sym, ap, ◌∙◌, subst, true≢false}
use Rattle.std.proofs.lemmas.Bool.{not-false}
use mathlib.Core.Option.{some}
use lib.ListN.{get_elem?}
use Rattle.pb_turn.proofs.Callers.{each_set, put_there, map_set}
use Rattle.pb_model.specs.Store.{Rows, AtMost}
use Rattle.pb_model.proofs.Callers.{and_true, by_cases, equal, equal_self, equal_swap}
use Rattle.pb_task.specs.Parts.{greatest_cost}
use Rattle.pb_machine.specs.declared.event.Event.{Event}
use Rattle.pb_machine.specs.declared.event.Grant.{Grant}
use Rattle.pb_machine.specs.declared.settings.Settings.{Settings}
use Rattle.pb_machine.specs.Settings.{AreInRange}
use Rattle.pb_machine.specs.Tables.{with_entry}
use Rattle.pb_machine.specs.Counts.{Counts}
use Rattle.pb_machine.specs.Room.{no_room, rooms_after}
use Rattle.pb_machine.specs.Views as of_machine
use Rattle.pb_machine.specs.Views.{AreTrueOf, AreBy, view_after}
use Rattle.pb_machine.specs.Machine.{Setup, IsSetup, Machine, Move, journal_of, AreOfOthers}
use Rattle.pb_machine.proofs.Callers.{entry_here, entry_else, holding_keeps_views, runs_go_on, known_stays, others_are_left}
use Rattle.pb_lease.specs.Tables.{rooms}
use Rattle.pb_lease.specs.LeaseValue.{LeaseValue}
use Rattle.pb_lease.specs.GraphValue.{GraphValue, setup_in}
use Rattle.pb_lease.specs.Moments.{FollowsBy}
use Rattle.pb_lease.specs.Begins.{begin_machine}
use Rattle.pb_yard.specs.declared.view.View.{View}
use Rattle.pb_yard.specs.Views.{view_then, has_left, keeps_order}
use Rattle.pb_yard.specs.Order.{RunsSettled}
use Rattle.pb_yard.specs.Rule.{rows_of, grant_in, journal_view, IsLent, IsKnownTo, IsViewOf, IsRecent, HasNoPass, HasLeaver, IsYard}
use Rattle.pb_yard.proofs.InTime.{rooms_on, settled_fewer, settled_on}
use Rattle.pb_yard.proofs.Parts.{GoesOnAs, setup_same, run_same, search_same, still_of_graph, moment_where_leased, at_journal, workers_differ, no_pass_before, unread_recent, recent_stays, leaver_same}

-- From the graph x at a moment of the rule these moves, with these events, of one pass's worker, or of nobody, lead to
-- y. The moves are in order and in time for any workers, but for this one if it isn't in order.
pub record IsStep (x y : GraphValue) (machine next : Machine) (settled last : Option ℕ) (worker : ℕ) (in_order : Bool) (events : List Event) (made : List Move) (lent_to : ℕ → Option LeaseValue) (lent : Option LeaseValue) (told : Option ℕ) : Type 0 where
  pub recorded : ℕ → Rows
  pub follows : FollowsBy x machine made y recorded next
  pub later : Option ℕ
  pub in_time : (keeps : ℕ → Bool) → (keeps worker ≡ true → in_order ≡ true) → RunsSettled (setup_in x) keeps (rooms x.table) machine settled made next later
  pub rooms_then : rooms_after (rooms x.table) made ≡ rooms y.table
  pub events_are : journal_of made ≡ events
  pub still : events ≡ [] → later ≡ settled
  pub theirs : (other : ℕ) → (other == worker) ≡ false → AreOfOthers other made
  pub same : GoesOnAs x y
  pub added : y.table.journal ≡ x.table.journal ++ events
  pub by : AreBy worker events
  pub records : (other : ℕ) (grant : Grant) → next.counts.leases other ≡ Some grant → rows_of (with_entry lent_to worker lent other) ≡ recorded other
  pub leases : next.counts.leases worker ≡ grant_in lent
  pub lent_is : (lease : LeaseValue) → lent ≡ Some lease → IsLent y next worker lease
  pub copy : (lease : LeaseValue) → lent ≡ Some lease → AtMost last lease.incumbent
  pub told_is : next.told worker ≡ told

module _ (x y : GraphValue) (shared later : Option ℕ) (views : List View) (seat : ℕ) (v : View) (events : List Event) (made : List Move) (lent : Option LeaseValue) (told : Option ℕ)
    (h : IsYard x shared views) (at : get_elem? views seat ≡ some v) (live : v.journal.is_live ≡ true)
    (next : Machine) (s : IsStep x y h.machine next h.settled v.last v.journal.own.worker (keeps_order v v.journal.own.worker) events made h.lent lent told) (shared_is : next.store.incumbent ≡ later) where
  abbrev Own : ℕ
  Own = v.journal.own.worker

  abbrev New : View
  New = view_then x.table.journal events lent told v

  abbrev Lent : ℕ → Option LeaseValue
  Lent = with_entry h.lent Own lent

  here : get_elem? (set views seat New) seat ≡ some New
  here = put_there views seat v New at

  setup : setup_in y ≡ setup_in x
  setup = setup_same x y s.same

  left : (other : ℕ) → (other == Own) ≡ false
      → (next.counts.leases other ≡ h.machine.counts.leases other) × (next.given other ≡ h.machine.given other) × (next.told other ≡ h.machine.told other)
  left other else = others_are_left (setup_in x) made h.machine next other s.follows.moves (s.theirs other else)

  -- who keeps the order after the step
  abbrev Keeps : ℕ → Bool
  Keeps = with_entry h.keeps Own (h.keeps Own && keeps_order v Own)

  keeps_own : Keeps Own ≡ (h.keeps Own && keeps_order v Own)
  keeps_own = entry_here h.keeps Own Own (h.keeps Own && keeps_order v Own) (equal_self Own)

  kept_before : (worker : ℕ) → Keeps worker ≡ true → h.keeps worker ≡ true
  kept_before worker keeps = by_cases (worker == Own)
      (λ e. ap h.keeps (equal worker Own e) ∙ (and_true (h.keeps Own) (keeps_order v Own) (sym (entry_here h.keeps Own worker (h.keeps Own && keeps_order v Own) e) ∙ keeps)).0)
      (λ e. sym (entry_else h.keeps Own worker (h.keeps Own && keeps_order v Own) e) ∙ keeps)

  run : RunsSettled (setup_in x) Keeps no_room (begin_machine h.begin) h.begin.incumbent (h.moves ++ made) next s.later
  run = settled_on (setup_in x) Keeps no_room h.moves made (begin_machine h.begin) h.machine next h.begin.incumbent h.settled s.later
      (settled_fewer (setup_in x) h.keeps Keeps kept_before no_room h.moves (begin_machine h.begin) h.begin.incumbent h.machine h.settled h.run)
      (subst (λ (r : ℕ → ℕ). RunsSettled (setup_in x) Keeps r h.machine h.settled made next s.later) (sym h.rooms_are)
      (s.in_time Keeps (λ keeps. (and_true (h.keeps Own) (keeps_order v Own) (sym keeps_own ∙ keeps)).1)))

  -- a worker that doesn't keep it left it, as some view says
  leavers : (worker : ℕ) → Keeps worker ≡ false → HasLeaver worker (set views seat New)
  leavers worker none = by_cases (worker == Own)
      (λ e. subst (λ w. HasLeaver w (set views seat New)) (sym (equal worker Own e)) (own (h.keeps Own) refl (keeps_order v Own) refl (sym keeps_own ∙ ap Keeps (sym (equal worker Own e)) ∙ none)))
      (λ e. before worker (sym (entry_else h.keeps Own worker (h.keeps Own && keeps_order v Own) e) ∙ none))
    where
      before : (worker : ℕ) → h.keeps worker ≡ false → HasLeaver worker (set views seat New)
      before worker none = leaver_same views seat v New at live refl worker (h.leavers worker none)

      own : (kept : Bool) → h.keeps Own ≡ kept → (order : Bool) → keeps_order v Own ≡ order → (h.keeps Own && keeps_order v Own) ≡ false → HasLeaver Own (set views seat New)
      own false kept order is none = before Own kept
      own true kept false is none = (seat, New, here, live, not-false (has_left v Own) is)
      own true kept true is none = absurd (true≢false (sym (ap (λ r. r && keeps_order v Own) kept ∙ is) ∙ none))

  journal : journal_of (h.moves ++ made) ≡ y.table.journal
  journal = (runs_go_on (setup_in x) h.moves made (begin_machine h.begin) h.machine next).2
      ∙ ap (λ l. l ++ journal_of made) h.journal ∙ ap (λ l. x.table.journal ++ l) s.events_are ∙ sym s.added

  leases : (other : ℕ) → next.counts.leases other ≡ grant_in (Lent other)
  leases other = by_cases (other == Own)
      (λ e. ap next.counts.leases (equal other Own e) ∙ s.leases ∙ ap grant_in (sym (entry_here h.lent Own other lent e)))
      (λ e. (left other e).0 ∙ h.leases other ∙ ap grant_in (sym (entry_else h.lent Own other lent e)))

  lent_else : (other : ℕ) (lease : LeaseValue) → (other == Own) ≡ false → IsLent x h.machine other lease → IsLent y next other lease
  lent_else other lease e is = record {
    worker_is = is.worker_is;
    of_graph = still_of_graph x y s.same lease
        (ap (λ (c : Counts). c.leases lease.worker) (sym s.follows.moment.counts) ∙ (left lease.worker (ap (λ k. k == Own) is.worker_is ∙ e)).0 ∙ ap (λ (c : Counts). c.leases lease.worker) h.moment.counts) is.of_graph;
    unused = is.unused;
    given = (left other e).1 ∙ is.given;
  }

  lent_is : (other : ℕ) (lease : LeaseValue) → Lent other ≡ Some lease → IsLent y next other lease
  lent_is other lease is = by_cases (other == Own)
      (λ e. subst (λ k. IsLent y next k lease) (sym (equal other Own e)) (s.lent_is lease (sym (entry_here h.lent Own other lent e) ∙ is)))
      (λ e. lent_else other lease e (h.lent_is other lease (sym (entry_else h.lent Own other lent e) ∙ is)))

  journals : AreTrueOf y.table.settings.workers y.table.journal (map journal_view (set views seat New))
  journals = subst (λ (l : List of_machine.View). AreTrueOf y.table.settings.workers y.table.journal l) (sym (map_set journal_view views seat New))
      (subst (λ (j : List Event). AreTrueOf y.table.settings.workers j (set (map journal_view views) seat (view_after x.table.journal events v.journal))) (sym s.added)
      (subst (λ (t : Settings). AreTrueOf t.workers (x.table.journal ++ events) (set (map journal_view views) seat (view_after x.table.journal events v.journal))) (sym s.same.settings)
      (holding_keeps_views x.table.settings.workers x.table.journal events (map journal_view views) seat v.journal h.journals
      (at_journal x.table.settings.workers x.table.journal views h.journals seat v at) live s.by)))

  known : (u : View) → IsKnownTo h.machine u → IsKnownTo next u
  known u is = record {
    read = λ incumbent has other. known_stays (setup_in x) made h.machine next s.follows.moves other incumbent (is.read incumbent has other);
    last = known_stays (setup_in x) made h.machine next s.follows.moves u.journal.own.worker u.last is.last;
  }

  mine : IsViewOf y next Lent New
  mine = let k = known v (h.each seat v at live).known in record {
    lent = entry_here h.lent Own Own lent (equal_self Own);
    told = s.told_is;
    search = let q = search_same x y s.same v (h.each seat v at live).search in record { task = q.task; abstraction = q.abstraction; choice = q.choice; settings = q.settings };
    known = record { read = k.read; last = k.last };
    copy = s.copy;
  }

  theirs : (other : ℕ) (u : View) → other ≢ seat → get_elem? views other ≡ some u → u.journal.is_live ≡ true → IsViewOf y next Lent u
  theirs other u apart there up =
      let e = workers_differ x.table.settings.workers x.table.journal views h.journals seat other v u at live there up apart in
      let is = h.each other u there up in
      record {
        lent = entry_else h.lent Own u.journal.own.worker lent e ∙ is.lent;
        told = (left u.journal.own.worker e).2 ∙ is.told;
        search = search_same x y s.same u is.search;
        known = known u is.known;
        copy = is.copy;
      }

  others : (other : ℕ) → HasNoPass other (set views seat New) → Lent other ≡ None
  others other none =
      entry_else h.lent Own other lent (equal_swap other Own ∙ none seat New here live) ∙ h.others other (no_pass_before other views seat v New at live live refl here none)

  held : IsYard y later (set views seat New)
  held = record {
    is_setup = subst (λ (t : Setup). IsSetup t greatest_cost) (sym setup) h.is_setup;
    in_range = subst AreInRange (sym s.same.settings) h.in_range;
    begin = h.begin;
    begins = h.begins;
    of_run = run_same x y s.same h.begin h.of_run;
    moves = h.moves ++ made;
    machine = next;
    lent = Lent;
    settled = s.later;
    keeps = Keeps;
    run = subst (λ (t : Setup). RunsSettled t Keeps no_room (begin_machine h.begin) h.begin.incumbent (h.moves ++ made) next s.later) (sym setup) run;
    leavers = leavers;
    journal = journal;
    rooms_are = rooms_on no_room h.moves made ∙ ap (λ (r : ℕ → ℕ). rooms_after r made) h.rooms_are ∙ s.rooms_then;
    moment = moment_where_leased y s.recorded (λ other. rows_of (Lent other)) next s.records s.follows.moment;
    shared_is = shared_is;
    leases = leases;
    lent_is = lent_is;
    journals = journals;
    each = each_set (λ j u. u.journal.is_live ≡ true → IsViewOf y next Lent u) views seat New (λ _. mine) theirs;
    recent = each_set (λ j u. u.journal.is_live ≡ true → IsRecent y s.later u) views seat New (λ _. unread_recent y s.later New refl)
        (λ other u apart there up. recent_stays x y events h.settled s.later u s.added s.still (h.recent other u there up));
    began = each_set (λ j u. u.journal.is_live ≡ true → u.begin ≡ h.begin) views seat New (λ _. h.began seat v at live) (λ other u apart there up. h.began other u there up);
    others = others;
  }

  pub holding_keeps : (after : IsYard y later (set views seat New)) × RunsSettled (setup_in x) (keeps_order v) (rooms x.table) h.machine h.settled made after.machine after.settled
  unfolding held
  holding_keeps = (held, s.in_time (keeps_order v) (λ keeps. keeps))
