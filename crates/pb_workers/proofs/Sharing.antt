-- A worker that shares a yard: what its pass knows after each of its calls.
use Rattle.std.proofs.Common.{◌≡◌, ℕ, ◌<◌, Bool, true, false, is_some, IfSome, IfNone, List, [], Option, Some, None, refl, sym, ap, ◌∙◌, arith, subst}
use Rattle.std.specs.List.{list_any}
use Rattle.std.proofs.lemmas.Bool.{or_from}
use Rattle.std.proofs.lemmas.List.Folds.{list_any-append}
use Rattle.pb_model.specs.Work.{Work}
use Rattle.pb_model.proofs.Callers.{at_most_self}
use Rattle.pb_machine.specs.declared.event.End.{End}
use Rattle.pb_machine.specs.declared.event.Event.{Event}
use Rattle.pb_machine.specs.declared.event.Event.TheVariants.{Hot}
use Rattle.pb_machine.specs.History.{events_of, is_off, end_in}
use Rattle.pb_machine.specs.Views as of_machine
use Rattle.pb_machine.specs.Machine.{lent_store}
use Rattle.pb_machine.specs.Turns.{AreLeaseTurns}
use Rattle.pb_machine.proofs.Callers.{ends_are_told, lease_work_stays}
use Rattle.pb_task.specs.declared.parts.TaskParts.{TaskParts}
use Rattle.pb_task.specs.Parts.{space_of}
use Rattle.pb_abstract.specs.Graph.{AbstractGraph, blocks_of, IsGraphOf}
use Rattle.pb_lease.specs.declared.answer.LeaseReply.TheVariants.{Leased, NotYet, Over, Memory}
use Rattle.pb_lease.specs.declared.answer.LeaseReply.{LeaseReply}
use Rattle.pb_lease.specs.declared.answer.Renewed.TheVariants.{Kept, Given}
use Rattle.pb_lease.specs.declared.answer.SwitchReply.TheVariants.{Switched}
use Rattle.pb_lease.specs.Tables.{blocks}
use Rattle.pb_lease.specs.LeaseValue.{LeaseValue, leased_store, IsSameLease}
use Rattle.pb_lease.specs.Leased.{guide_of, HasScope}
use Rattle.pb_lease.specs.GraphValue.{GraphValue, setup_in, counts_in}
use Rattle.pb_expand.specs.Turned.{IsAtWork}
use Rattle.pb_expand.specs.Watching.{IsOfSearch, IsWatched}
use Rattle.pb_yard.specs.declared.view.View.{View}
use Rattle.pb_yard.specs.declared.yard.Yard.{Yard}
use Rattle.pb_yard.specs.Views.{view_then}
use Rattle.pb_yard.specs.Rule.{rows_of, was_read, grant_in, IsViewOf}
use Rattle.pb_yard.specs.Replies.{LeasesAs, lease_events, lent_by, told_by, ReleasesAs, release_events, RenewsAs, renewal_events, RivalsAs, MarksAs, mark_events}
use Rattle.pb_yard.specs.Returning.{IsLeaseOf, IsBrought}
use Rattle.pb_yard.specs.Marking.{turn_with, turn_of}
use Rattle.pb_yard.specs.Passes.{view_of, worker_of, KeepsPass}
use Rattle.pb_yard.specs.Calls.{Holds, HasRead, ReadsAndHolds, Looks, Leases, Renews, Switches, Releases, AsksRival, Marks, IsActive}
use Rattle.pb_yard.proofs.Callers.{history, leased, begins, own_none_off, end_none_off, ending_none_off, ended_end, switched_active}
use Rattle.pb_workers.specs.declared.yard_watch.YardWatch.{YardWatch}
use Rattle.pb_workers.specs.Serving.{searched_by}
use Rattle.pb_workers.specs.Shared.{IsSameHolder, IsIdle, IsLeased, MarksRivalTold}
use Rattle.pb_workers.specs.Sharing.{IsSameWorker, HasLease, HasWork, HasNone, IsToldRivalIn}
use Rattle.pb_workers.specs.Turns.{HasTurnIn, IsBetweenTurns}
use Rattle.pb_workers.proofs.Turns.{end_none}
use Rattle.pb_workers.proofs.SharedTurns.{leased_turn, unleased_turn}
use Rattle.pb_workers.specs.Watching.{watch_view, IsWatchOf, KeepsLease, IsSameWatch}

-- ---- which events sign off

abbrev HasNoOff : List Event → Type 0
HasNoOff events = list_any is_off events ≡ false

-- ---- the same holder

pub holder_self : (v : View) → IsSameHolder v v
holder_self v = record { worker = refl; taken_in = refl; made = refl; task = refl; abstraction = refl; choice = refl; settings = refl; begin = refl; left_order = refl }

pub holder_then : (old mid new : View) → IsSameHolder old mid → IsSameHolder mid new → IsSameHolder old new
holder_then old mid new one two = record {
  worker = two.worker ∙ one.worker;
  taken_in = two.taken_in ∙ one.taken_in;
  made = two.made ∙ one.made;
  task = two.task ∙ one.task;
  abstraction = two.abstraction ∙ one.abstraction;
  choice = two.choice ∙ one.choice;
  settings = two.settings ∙ one.settings;
  begin = two.begin ∙ one.begin;
  left_order = two.left_order ∙ one.left_order;
}

-- ---- a pass that held the graph

module _ (step : GraphValue → GraphValue → Type 0) (list : GraphValue → List Event) (old : View) (lent : Option LeaseValue) (told : Option ℕ) (new : View) (h : Holds step list old lent told new) where
  pub holder : IsSameHolder old new
  holder = subst (λ (v : View). IsSameHolder old v) (sym h.view) record { worker = refl; taken_in = refl; made = refl; task = refl; abstraction = refl; choice = refl; settings = refl; begin = refl; left_order = refl }

  lent_is : new.lent ≡ lent
  lent_is = ap (λ (v : View). v.lent) h.view

  told_is : new.told ≡ told
  told_is = ap (λ (v : View). v.told) h.view

  still_active : IsActive old → HasNoOff (list h.found) → IsActive new
  still_active stays none = subst (λ (v : View). IsActive v) (sym h.view)
      (list_any-append is_off old.journal.own.events (events_of old.journal.own.worker (list h.found))
      ∙ or_from (list_any is_off old.journal.own.events) (list_any is_off (events_of old.journal.own.worker (list h.found))) stays (own_none_off old.journal.own.worker (list h.found) none))

  module _ (task : TaskParts) (abstraction : AbstractGraph) where
    idle_then : IsIdle task abstraction old → lent ≡ None → HasNoOff (list h.found) → IsIdle task abstraction new
    idle_then i free none = record { of_task = i.of_task; task_is = holder.task ∙ i.task_is; graph_is = holder.abstraction ∙ i.graph_is; vacant = lent_is ∙ free; stays = still_active i.stays none }

-- ---- a pass that read the incumbent under the turn

module _ (old between : View) (r : HasRead old between) where
  pub read_holder : IsSameHolder old between
  read_holder = subst (λ (v : View). IsSameHolder old v) (sym r.view) record { worker = refl; taken_in = refl; made = refl; task = refl; abstraction = refl; choice = refl; settings = refl; begin = refl; left_order = refl }

  read_active : IsActive old → IsActive between
  read_active stays = subst (λ (v : View). IsActive v) (sym r.view) stays

  read_idle : (task : TaskParts) (abstraction : AbstractGraph) → IsIdle task abstraction old → IsIdle task abstraction between
  read_idle task abstraction i = subst (λ (v : View). IsIdle task abstraction v) (sym r.view) record { of_task = i.of_task; task_is = i.task_is; graph_is = i.graph_is; vacant = i.vacant; stays = i.stays }

pub reader_holds : (step : GraphValue → GraphValue → Type 0) (list : GraphValue → List Event) (old : View) (lent : Option LeaseValue) (told : Option ℕ) (new : View) → ReadsAndHolds step list old lent told new → IsSameHolder old new
reader_holds step list old lent told new (between, r, h) = holder_then old between new (read_holder old between r) (holder step list between lent told new h)

-- ---- a lease that is asked for

module _ (task : TaskParts) (abstraction : AbstractGraph) (worker : ℕ) (old new : View) (first : IsIdle task abstraction old) where
  pub leased_then : (lease : LeaseValue) → Leases worker old (Leased lease) new → IsLeased task abstraction new lease
  leased_then lease (between, r, h) =
      let i = read_idle old between r task abstraction first in
      let same = holder (LeasesAs worker (Leased lease)) (lease_events worker (Leased lease)) between (Some lease) None new h in
      record {
        of_task = i.of_task;
        task_is = same.task ∙ i.task_is;
        graph_is = same.abstraction ∙ i.graph_is;
        lent = ap (λ (v : View). v.lent) h.view;
        untold = ap (λ (v : View). v.told) h.view;
        stays = still_active (LeasesAs worker (Leased lease)) (lease_events worker (Leased lease)) between (Some lease) None new h i.stays refl;
        yard = h.left;
        at = h.after;
      }

  pub wait_then : (list : GraphValue → List Event) (step : GraphValue → GraphValue → Type 0) → ReadsAndHolds step list old old.lent old.told new → ((g : GraphValue) → HasNoOff (list g)) → IsIdle task abstraction new
  wait_then list step (between, r, h) none = idle_then step list between old.lent old.told new h task abstraction (read_idle old between r task abstraction first) first.vacant (none h.found)

  -- the search is over, as the journal that the pass has seen tells
  pub over_then : (end : End) → Leases worker old (Over end) new → IsIdle task abstraction new × (is_some (end_in new.journal.seen) ≡ true)
  over_then end (between, r, h) = (
    idle_then (LeasesAs worker (Over end)) (lease_events worker (Over end)) between old.lent old.told new h task abstraction (read_idle old between r task abstraction first) first.vacant (end_none_off h.found.table.end end),
    ap (λ (v : View). is_some (end_in v.journal.seen)) h.view ∙ ap (λ j. is_some (end_in j)) (sym h.added)
        ∙ ap is_some (sym (ends_are_told (blocks h.left.table) h.left.table.settings h.left.table.past.spent h.left.table.journal (counts_in h.left) (history h.left h.after.shared h.after.views h.after.yard)))
        ∙ ap is_some (ended_end h.found h.left end h.step_is.0 h.step_is.1),
  )

-- ---- work on a lease

module _ (task : TaskParts) (abstraction : AbstractGraph) (view : View) (live : view.journal.is_live ≡ true) (lease : LeaseValue) (l : IsLeased task abstraction view lease) where
  of_view : IsViewOf l.yard l.at.yard.machine l.at.yard.lent view
  of_view = l.at.yard.each l.at.seat view l.at.mine live

  lent_to : l.at.yard.lent view.journal.own.worker ≡ Some lease
  lent_to = of_view.lent ∙ l.lent

  worker_is : lease.worker ≡ view.journal.own.worker
  worker_is = (l.at.yard.lent_is view.journal.own.worker lease lent_to).worker_is

  unused : lease.used ≡ 0
  unused = (l.at.yard.lent_is view.journal.own.worker lease lent_to).unused

  -- the search goes by the lease's choice
  pub choice_is : view.choice ≡ lease.choice
  choice_is = of_view.search.choice ∙ sym (l.at.yard.lent_is view.journal.own.worker lease lent_to).of_graph.choice

  pub at_work : IsAtWork task abstraction lease.choice lease
  at_work =
      let y = l.at.yard in
      let is = y.lent_is view.journal.own.worker lease lent_to in
      subst (λ (a : AbstractGraph). IsAtWork task a lease.choice lease) (sym of_view.search.abstraction ∙ l.graph_is) (subst (λ (p : TaskParts). IsAtWork p l.yard.table.abstraction lease.choice lease) (sym of_view.search.task ∙ l.task_is)
      (subst (λ h. IsAtWork l.yard.task l.yard.table.abstraction h lease) (sym is.of_graph.choice) (record {
        settings = l.yard.table.settings;
        reopenings = l.yard.table.past.reopenings;
        machine = y.machine;
        is_setup = y.is_setup;
        in_range = y.in_range;
        lawful = y.moment.lawful;
        leased = ap y.machine.counts.leases worker_is ∙ leased l.yard l.at.shared l.at.views y view.journal.own.worker lease lent_to;
        known = was_read view;
        work = record {
          works = [];
          on = tt;
          comes = begins l.yard l.at.shared l.at.views y view.journal.own.worker lease lent_to ∙ ap (λ w. lent_store (setup_in l.yard) lease.block y.machine.store (y.machine.given w)) (sym worker_is);
          used_is = sym unused;
          few_broken = omega arith;
          stops = tt;
        };
        scope = is.of_graph.scope;
        choice_is = is.of_graph.choice;
      })))

  told_none : (cost : ℕ) → view.told ≡ Some cost → {A : Type 0} → A
  told_none cost is = let bad : ◌≡◌ {A = Option ℕ} None (Some cost) = sym l.untold ∙ is in absurd cc

  -- nothing has been done
  pub watched : IsWatched (space_of task) (guide_of task abstraction lease.choice) (watch_view view) 0 lease
  watched = record {
    from = record {
      lent = lease;
      lent_is = l.lent;
      same = record { worker = refl; block = refl; quota = refl; weight = refl; choice = refl; fits = refl; places = refl; incumbent = at_most_self lease.incumbent };
      work = record { works = []; on = tt; comes = refl; used_is = sym unused; few_broken = omega arith; stops = tt };
      turns = tt;
    };
    copy = of_view.copy lease l.lent;
    shown = λ cost is. told_none cost is;
  }

  -- the watch is of the same search
  pub of_search : IsOfSearch task abstraction lease.choice (watch_view view)
  of_search = record { task_is = l.task_is; graph_is = l.graph_is; choice_is = choice_is }

  -- after work on the lease under a watch
  module _ (new : View) (still : KeepsLease view new) (worked : LeaseValue) (same : IsSameLease lease worked) where
    pub work_holder : IsSameHolder view new
    work_holder = record {
      worker = ap (λ (j : of_machine.View). j.own.worker) still.journal;
      taken_in = ap (λ (j : of_machine.View). j.taken_in) still.journal;
      made = ap (λ (j : of_machine.View). j.made) still.journal;
      task = still.task;
      abstraction = still.abstraction;
      choice = still.choice;
      settings = still.settings;
      begin = still.begin;
      left_order = still.left_order;
    }

    pub work_active : IsActive new
    work_active = ap (λ (j : of_machine.View). list_any is_off j.own.events) still.journal ∙ l.stays

    pub work_task : new.task ≡ task
    work_task = still.task ∙ l.task_is

    pub work_graph : new.abstraction ≡ abstraction
    work_graph = still.abstraction ∙ l.graph_is

    work_choice : new.choice ≡ lease.choice
    work_choice = still.choice ∙ choice_is

    pub lease_of : IsLeaseOf new worked
    lease_of = (
      same.worker ∙ worker_is ∙ sym (ap (λ (j : of_machine.View). j.own.worker) still.journal),
      ap grant_in (still.lent ∙ l.lent) ∙ (λ i. Some (record { block = sym same.block i; quota = sym same.quota i })),
    )

    module _ (broken : ℕ) (w : IsWatched (space_of task) (guide_of task abstraction lease.choice) (watch_view new) broken worked) (scope : HasScope abstraction worked) where
      of_new : IsWatched (space_of new.task) (guide_of new.task new.abstraction new.choice) (watch_view new) broken worked
      of_new = subst (λ (p : TaskParts). IsWatched (space_of p) (guide_of p new.abstraction new.choice) (watch_view new) broken worked) (sym work_task)
          (subst (λ (a : AbstractGraph). IsWatched (space_of task) (guide_of task a new.choice) (watch_view new) broken worked) (sym work_graph)
          (subst (λ h. IsWatched (space_of task) (guide_of task abstraction h) (watch_view new) broken worked) (sym work_choice) w))

      pub brought : IsBrought new broken worked
      brought = record {
        lent = of_new.from.lent;
        lent_is = of_new.from.lent_is;
        same = of_new.from.same;
        weights = scope.weights;
        work = of_new.from.work;
        turns = λ order. of_new.from.turns;
        copy = of_new.copy;
        told = of_new.shown;
      }

-- ---- marks

-- the pass had a lease that is brought, and still has it after a look
module _ (old : View) (most_broken : ℕ) (lease : LeaseValue) (b : IsBrought old most_broken lease) where
  read_too : (journal events : List Event) (incumbent : Option ℕ) → was_read old incumbent ≡ true → was_read (view_then journal events old.lent old.told old) incumbent ≡ true
  read_too journal events None is = is
  read_too journal events (Some cost) is = is

  pub still_brought : (step : GraphValue → GraphValue → Type 0) (list : GraphValue → List Event) (new : View) → Looks step list old new → IsBrought new most_broken lease
  still_brought step list new h =
      let stays = lease_work_stays (space_of old.task) (guide_of old.task old.abstraction old.choice) b.lent.block lease.used most_broken most_broken (was_read old)
      (was_read (view_then h.found.table.journal (list h.found) old.lent old.told old)) (leased_store b.lent) (leased_store lease) b.work (omega arith)
      (read_too h.found.table.journal (list h.found)) in
      subst (λ (v : View). IsBrought v most_broken lease) (sym h.view) record {
        lent = b.lent;
        lent_is = b.lent_is;
        same = b.same;
        weights = b.weights;
        work = stays.0;
        turns = λ order. subst (λ (works : List Work). AreLeaseTurns (space_of old.task) (guide_of old.task old.abstraction old.choice) works (leased_store b.lent)) (sym stays.1) (b.turns order);
        copy = b.copy;
        told = b.told;
      }

pub rival_known : (lease : LeaseValue) (old new : View) (rival : ℕ) → old.journal.is_live ≡ true → AsksRival lease old (Some rival) new → rival < (blocks_of new.abstraction).count
rival_known lease old new rival live h =
    let y = h.before.yard in
    let known : rival < (blocks_of h.found.table.abstraction).count = (h.step_is.1 (λ worker. rows_of (y.lent worker)) y.machine y.moment).0.known in
    subst (λ (a : AbstractGraph). rival < (blocks_of a).count)
    (sym (y.each h.before.seat old h.before.mine live).search.abstraction ∙ sym (ap (λ (v : View). v.abstraction) h.view)) known

mark_no_off : (event : Event) (done : Bool) → is_off event ≡ false → HasNoOff (mark_events event done)
mark_no_off event true none = or_from (is_off event) false none refl
mark_no_off event false none = refl

pub look_stays : (lease : LeaseValue) (rival : Option ℕ) (old new : View) → AsksRival lease old rival new → IsActive old → IsActive new
look_stays lease rival old new h stays = still_active (RivalsAs lease rival) (λ found. []) old old.lent old.told new h stays refl

pub mark_stays : (worker block : ℕ) (done : Bool) (old new : View) → Marks worker block old done new → IsActive old → IsActive new
mark_stays worker block done old new h stays =
    still_active (MarksAs worker block done) (λ found. mark_events (Hot worker block) done) old old.lent old.told new h stays (mark_no_off (Hot worker block) done refl)

-- ---- a lease that goes on, or comes back

module _ (task : TaskParts) (abstraction : AbstractGraph) (old new : View) (of_task : IsGraphOf task abstraction) (task_is : old.task ≡ task) (graph_is : old.abstraction ≡ abstraction) (stays : IsActive old) (worked : LeaseValue) where
  pub kept_then : (kept : LeaseValue) → Renews worked old (Kept kept) new → IsLeased task abstraction new kept
  kept_then kept (between, r, h) =
      let list : GraphValue → List Event = λ found. renewal_events worked (Kept kept) in
      let same = reader_holds (RenewsAs worked (Kept kept)) list old (Some kept) None new (between, r, h) in
      record {
        of_task = of_task;
        task_is = same.task ∙ task_is;
        graph_is = same.abstraction ∙ graph_is;
        lent = ap (λ (v : View). v.lent) h.view;
        untold = ap (λ (v : View). v.told) h.view;
        stays = still_active (RenewsAs worked (Kept kept)) list between (Some kept) None new h (read_active old between r stays) refl;
        yard = h.left;
        at = h.after;
      }

  gone : (step : GraphValue → GraphValue → Type 0) (list : GraphValue → List Event) → ReadsAndHolds step list old None None new → ((g : GraphValue) → HasNoOff (list g)) → IsIdle task abstraction new
  gone step list (between, r, h) none =
      let same = reader_holds step list old None None new (between, r, h) in
      record {
        of_task = of_task;
        task_is = same.task ∙ task_is;
        graph_is = same.abstraction ∙ graph_is;
        vacant = ap (λ (v : View). v.lent) h.view;
        stays = still_active step list between None None new h (read_active old between r stays) (none h.found);
      }

  pub given_then : Renews worked old Given new → IsIdle task abstraction new
  given_then h = gone (RenewsAs worked Given) (λ found. renewal_events worked Given) h (λ g. refl)

  pub released_then : (memory : Bool) → Releases worked memory old new → IsIdle task abstraction new
  released_then memory h = gone (ReleasesAs worked memory) (release_events worked memory) h (λ g. ending_none_off memory g.table.end)

-- ---- a worker that goes on with another block

module _ (task : TaskParts) (abstraction : AbstractGraph) (old new : View) (of_task : IsGraphOf task abstraction) (task_is : old.task ≡ task) (graph_is : old.abstraction ≡ abstraction) (stays : IsActive old) (worked next : LeaseValue)
    (switches : Switches worked old (Switched next) new) where
  pub switched_holder : IsSameHolder old new
  switched_holder = holder_then old switches.0 new (read_holder old switches.0 switches.1) (subst (λ (v : View). IsSameHolder switches.0 v) (sym switches.2.view)
      record { worker = refl; taken_in = refl; made = refl; task = refl; abstraction = refl; choice = refl; settings = refl; begin = refl; left_order = refl })

  pub switched_then : IsLeased task abstraction new next
  switched_then = record {
    of_task = of_task;
    task_is = switched_holder.task ∙ task_is;
    graph_is = switched_holder.abstraction ∙ graph_is;
    lent = ap (λ (v : View). v.lent) switches.2.view;
    untold = ap (λ (v : View). v.told) switches.2.view;
    stays = switched_active worked old new next switches stays;
    yard = switches.2.left;
    at = switches.2.after;
  }

-- ---- the same task and the same blocks

module _ (task same_task : TaskParts) (abstraction same_graph : AbstractGraph) (task_is : same_task ≡ task) (graph_is : same_graph ≡ abstraction) where
  pub leased_with : (view : View) (lease : LeaseValue) → IsLeased task abstraction view lease → IsLeased same_task same_graph view lease
  leased_with view lease l = subst (λ (p : TaskParts). IsLeased p same_graph view lease) (sym task_is) (subst (λ (a : AbstractGraph). IsLeased task a view lease) (sym graph_is) l)

  pub idle_with : (view : View) → IsIdle task abstraction view → IsIdle same_task same_graph view
  idle_with view i = subst (λ (p : TaskParts). IsIdle p same_graph view) (sym task_is) (subst (λ (a : AbstractGraph). IsIdle task a view) (sym graph_is) i)

-- ---- the same search

pub holder_searched : (old new : View) → IsSameHolder old new → searched_by new ≡ searched_by old
holder_searched old new same = λ i. record { task = same.task i; abstraction = same.abstraction i; choice = same.choice i }

pub kept_searched : (old new : View) → KeepsLease old new → searched_by new ≡ searched_by old
kept_searched old new kept = λ i. record { task = kept.task i; abstraction = kept.abstraction i; choice = kept.choice i }

pub leased_for : (view : View) (lease : LeaseValue) (task : TaskParts) (abstraction : AbstractGraph) → view.task ≡ task → view.abstraction ≡ abstraction → IsLeased view.task view.abstraction view lease → IsLeased task abstraction view lease
leased_for view lease task abstraction task_is graph_is l = leased_with view.task task view.abstraction abstraction (sym task_is) (sym graph_is) view lease l

-- ---- the same worker since an earlier moment

pub worker_self : (watch : YardWatch) → IsSameWorker watch watch
worker_self watch = record { yard = refl; pass = ((((refl, refl, refl, refl), refl)), refl); holder = holder_self (view_of watch.pass) }

module _ (begin old new : YardWatch) (since : IsSameWorker begin old) (own : IsWatchOf old) (yard : new.yard.now ≡ old.yard.now) (keeps : KeepsPass old.pass new.pass) (same : IsSameHolder (view_of old.pass) (view_of new.pass)) where
  since_then : IsSameWorker begin new
  since_then =
      let p = since.pass.0.0 in
      let q = keeps.0.0 in
      record {
        yard = yard ∙ since.yard;
        pass = (((q.0 ∙ p.0, q.1 ∙ p.1, q.2 ∙ p.2, q.3 ∙ p.3), keeps.0.1 ∙ since.pass.0.1), keeps.1 ∙ since.pass.1);
        holder = holder_then (view_of begin.pass) (view_of old.pass) (view_of new.pass) since.holder same;
      }

  own_then : IsWatchOf new
  own_then = keeps.0.0.0 ∙ own ∙ ap (λ (y : Yard). y.lock.table.shared.table_id) (sym yard)

  pub lease_since : (lease : LeaseValue) → IsLeased (view_of old.pass).task (view_of old.pass).abstraction (view_of new.pass) lease → (IsBetweenTurns (view_of begin.pass) → HasTurnIn (view_of new.pass) (turn_with lease.quota)) → HasLease begin new lease
  lease_since lease l turn = record {
    turn = turn;
    own = own_then;
    since = since_then;
    leased = leased_with (view_of old.pass).task (view_of new.pass).task (view_of old.pass).abstraction (view_of new.pass).abstraction same.task same.abstraction (view_of new.pass) lease l;
  }

  pub none_since : IsIdle (view_of old.pass).task (view_of old.pass).abstraction (view_of new.pass) → (IsBetweenTurns (view_of begin.pass) → IsBetweenTurns (view_of new.pass)) → HasNone begin new
  none_since idle turn = record {
    turn = turn;
    own = own_then;
    since = since_then;
    idle = idle_with (view_of old.pass).task (view_of new.pass).task (view_of old.pass).abstraction (view_of new.pass).abstraction same.task same.abstraction (view_of new.pass) idle;
  }

-- a lease that was asked for
module _ (begin old new : YardWatch) (none_yet : HasNone begin old) (yard : new.yard.now ≡ old.yard.now) (keeps : KeepsPass old.pass new.pass) (worker : ℕ) (is_own : worker ≡ (view_of old.pass).journal.own.worker) where
  -- without a lease the worker stays between turns
  asked_turn : (reply : LeaseReply) → ((g : GraphValue) (w : ℕ) → events_of w (lease_events worker reply g) ≡ []) → Leases worker (view_of old.pass) reply (view_of new.pass) → IsBetweenTurns (view_of begin.pass) → IsBetweenTurns (view_of new.pass)
  asked_turn reply none asks before = let v = view_of old.pass in
      unleased_turn worker v (view_of new.pass) is_own (none_yet.turn before) (lease_events worker reply) (LeasesAs worker reply) (lent_by reply v.lent) (told_by reply v.told) asks (λ g. none g v.journal.own.worker)

  pub asked_holder : (reply : LeaseReply) → Leases worker (view_of old.pass) reply (view_of new.pass) → IsSameHolder (view_of old.pass) (view_of new.pass)
  asked_holder reply asks =
      let v = view_of old.pass in
      reader_holds (LeasesAs worker reply) (lease_events worker reply) v (lent_by reply v.lent) (told_by reply v.told) (view_of new.pass) asks

  pub lease_asked : (lease : LeaseValue) → Leases worker (view_of old.pass) (Leased lease) (view_of new.pass) → HasLease begin new lease
  lease_asked lease asks =
      let v = view_of old.pass in
      lease_since begin old new none_yet.since none_yet.own yard keeps (asked_holder (Leased lease) asks) lease (leased_then v.task v.abstraction worker v (view_of new.pass) none_yet.idle lease asks)
      (λ before. leased_turn worker v (view_of new.pass) is_own (none_yet.turn before) lease asks)

  pub wait_asked : Leases worker (view_of old.pass) NotYet (view_of new.pass) → HasNone begin new
  wait_asked asks =
      let v = view_of old.pass in
      none_since begin old new none_yet.since none_yet.own yard keeps (asked_holder NotYet asks) (wait_then v.task v.abstraction worker v (view_of new.pass) none_yet.idle (lease_events worker NotYet) (LeasesAs worker NotYet) asks (λ g. refl)) (asked_turn NotYet (λ g w. refl) asks)

  pub memory_asked : Leases worker (view_of old.pass) Memory (view_of new.pass) → HasNone begin new
  memory_asked asks =
      let v = view_of old.pass in
      none_since begin old new none_yet.since none_yet.own yard keeps (asked_holder Memory asks) (wait_then v.task v.abstraction worker v (view_of new.pass) none_yet.idle (lease_events worker Memory) (LeasesAs worker Memory) asks (λ g. refl)) (asked_turn Memory (λ g w. refl) asks)

  pub over_asked : (end : End) → Leases worker (view_of old.pass) (Over end) (view_of new.pass) → HasNone begin new × (is_some (end_in (view_of new.pass).journal.seen) ≡ true)
  over_asked end asks =
      let v = view_of old.pass in
      let over = over_then v.task v.abstraction worker v (view_of new.pass) none_yet.idle end asks in
      (none_since begin old new none_yet.since none_yet.own yard keeps (asked_holder (Over end) asks) over.0 (asked_turn (Over end) (λ g w. end_none w g.table.end end) asks), over.1)

-- work on a lease
module _ (begin old new : YardWatch) (lease : LeaseValue) (h : HasLease begin old lease) (task : TaskParts) (abstraction : AbstractGraph) (task_is : (view_of old.pass).task ≡ task) (graph_is : (view_of old.pass).abstraction ≡ abstraction) where
  pub work_since : IsWatchOf new → IsSameWatch old new → (worked : LeaseValue) → IsSameLease lease worked → (broken : ℕ)
      → IsWatched (space_of task) (guide_of task abstraction lease.choice) (watch_view (view_of new.pass)) broken worked → HasScope abstraction worked → HasWork begin new worked broken
  work_since own stays worked same broken w scope =
      let v = view_of old.pass in
      let u = view_of new.pass in
      let l = leased_for v lease task abstraction task_is graph_is h.leased in
      record {
        own = own;
        since = since_then begin old new h.since h.own stays.yard stays.pass (work_holder task abstraction v old.pass.is_live lease l u stays.lease worked same);
        of_task = subst (λ (p : TaskParts). IsGraphOf p u.abstraction) (sym stays.lease.task) (subst (λ (a : AbstractGraph). IsGraphOf v.task a) (sym stays.lease.abstraction) h.leased.of_task);
        stays = work_active task abstraction v old.pass.is_live lease l u stays.lease worked same;
        lease_of = lease_of task abstraction v old.pass.is_live lease l u stays.lease worked same;
        brought = brought task abstraction v old.pass.is_live lease l u stays.lease worked same broken w scope;
      }

  -- work is no event
  pub work_turn : IsSameWatch old new → (worked : LeaseValue) → IsSameLease lease worked → IsBetweenTurns (view_of begin.pass) → HasTurnIn (view_of new.pass) (turn_with worked.quota)
  work_turn stays worked same before =
      ap (λ (j : of_machine.View). turn_of j.own.events) stays.lease.journal ∙ h.turn before ∙ ap (λ q. Some (turn_with q)) (sym same.quota)

-- a look, or a try that found the turn held
module _ (begin old new : YardWatch) (lease : LeaseValue) (broken : ℕ) (h : HasWork begin old lease broken) (yard : new.yard.now ≡ old.yard.now) (keeps : KeepsPass old.pass new.pass) where
  pub look_since : (step : GraphValue → GraphValue → Type 0) (list : GraphValue → List Event) → Looks step list (view_of old.pass) (view_of new.pass) → IsActive (view_of new.pass) → HasWork begin new lease broken
  look_since step list looks stays =
      let v = view_of old.pass in
      let u = view_of new.pass in
      let same = holder step list v v.lent v.told u looks in
      record {
        own = own_then begin old new h.since h.own yard keeps same;
        since = since_then begin old new h.since h.own yard keeps same;
        of_task = subst (λ (p : TaskParts). IsGraphOf p u.abstraction) (sym same.task) (subst (λ (a : AbstractGraph). IsGraphOf v.task a) (sym same.abstraction) h.of_task);
        stays = stays;
        lease_of = (h.lease_of.0 ∙ sym same.worker, ap grant_in (lent_is step list v v.lent v.told u looks) ∙ h.lease_of.1);
        brought = still_brought v broken lease h.brought step list u looks;
      }

  pub busy_since : view_of new.pass ≡ view_of old.pass → HasWork begin new lease broken
  busy_since is =
      let v = view_of old.pass in
      let same : IsSameHolder v (view_of new.pass) = subst (λ (x : View). IsSameHolder v x) (sym is) (holder_self v) in
      record {
        own = own_then begin old new h.since h.own yard keeps same;
        since = since_then begin old new h.since h.own yard keeps same;
        of_task = subst (λ (x : View). IsGraphOf x.task x.abstraction) (sym is) h.of_task;
        stays = subst (λ (x : View). IsActive x) (sym is) h.stays;
        lease_of = subst (λ (x : View). IsLeaseOf x lease) (sym is) h.lease_of;
        brought = subst (λ (x : View). IsBrought x broken lease) (sym is) h.brought;
      }

-- ---- the rival that a pass was told

pub told_some_in : (lease : LeaseValue) (old new : YardWatch) → worker_of new.pass ≡ worker_of old.pass → (o : Option ℕ) → AsksRival lease (view_of old.pass) o (view_of new.pass) → IfSome o (λ rival. IsToldRivalIn old lease rival new)
told_some_in lease old new worker None asks = tt
told_some_in lease old new worker (Some rival) asks = record { asked = asks; known = rival_known lease (view_of old.pass) (view_of new.pass) rival old.pass.is_live asks; worker = worker }

pub told_none_in : (worker : ℕ) (lease : LeaseValue) (old new : View) (o : Option ℕ) → AsksRival lease old o new → IfNone o (MarksRivalTold worker lease old new)
told_none_in worker lease old new None asks = (new, None, asks, refl)
told_none_in worker lease old new (Some rival) asks = tt
