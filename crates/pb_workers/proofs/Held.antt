-- The turns of a worker that has a lease of a graph that it searches alone.
use Rattle.std.proofs.Common.{◌≡◌, refl, ℕ, ◌+◌, ◌-◌, ◌<◌, ◌≤◌, ◌⊎◌, Bool, true, false, is_some, [], ◌∷◌, ◌++◌, Option, Some, sym, ap, ◌∙◌, arith, subst, inl, inr, nat_lt}
use Rattle.pb_model.specs.Store.{Rows, HasOpened}
use Rattle.pb_model.proofs.Callers.{by_cases, below, not_below, equal_self}
use Rattle.pb_machine.specs.declared.event.Event.TheVariants.{Renew, Release}
use Rattle.pb_machine.specs.declared.event.Grant.{Grant}
use Rattle.pb_machine.specs.Tables.{with_entry, one_if, count_below}
use Rattle.pb_machine.specs.Counts.{Counts, quota_of}
use Rattle.pb_machine.specs.History.{events_of}
use Rattle.pb_machine.specs.Machine.{Machine}
use Rattle.pb_machine.proofs.Callers.{entry_here}
use Rattle.pb_task.specs.declared.parts.TaskParts.{TaskParts}
use Rattle.pb_abstract.specs.Graph.{AbstractGraph, blocks_of}
use Rattle.pb_bundles.specs.Parts.{away_rows}
use Rattle.pb_bundles.specs.Homes.{HomeTable, key_at}
use Rattle.pb_lease.specs.Tables.{rooms}
use Rattle.pb_lease.specs.Events.{ending}
use Rattle.pb_lease.specs.LeaseValue.{LeaseValue, leased_store, IsSameLease}
use Rattle.pb_lease.specs.Leased.{grant_of, FitsScopes, HasScope, IsOutInTurns}
use Rattle.pb_lease.specs.GraphValue.{GraphValue, setup_in, counts_in, IsLeaseGraph, IsOfGraph}
use Rattle.pb_lease.specs.Moments.{IsMoment}
use Rattle.pb_lease.specs.Steps.{IsReleased, ReleasesNext, IsRenewed, RenewsNext, GoesOn, renewed_quota}
use Rattle.pb_lease.proofs.Callers.{setup_is, releases_in_order, renews_in_order}
use Rattle.pb_expand.specs.Turned.{IsAtWork}
use Rattle.pb_yard.specs.Order.{CannotGoOn}
use Rattle.pb_yard.specs.Marking.{no_turn, turn_with}
use Rattle.pb_yard.proofs.Callers.{in_time_one, in_time_events, ending_grants_none, ending_rooms, still_first, cannot_go_on, MayReturn}
use Rattle.pb_workers.specs.Runs.{IsSameSearch, RunsTo}
use Rattle.pb_workers.specs.Holding.{Works, IsHeld, RunsOut, RunsHome, left_with, opened_blocks, IsNearer, IsMarkedAtMost, IsWorkOf, GoesOnTo, IsToReturn, IsBack}
use Rattle.pb_workers.proofs.Going.{same_then, run_one, run_then}
use Rattle.pb_workers.proofs.GoingOn.{out_then, home_then, on_less, nearer_then}
use Rattle.pb_workers.specs.Turns.{HasTurn}
use Rattle.pb_workers.proofs.Turns.{own, ending_none, one_more, journal_more}
use Rattle.pb_workers.proofs.Turns.{renewed as turn_renewed, returned as turn_returned}
use Rattle.pb_workers.proofs.Marked.{marked_same, marked_homes, marked_leases, marked_signed, marked_left, marked_end, marked_runs}
use Rattle.pb_workers.proofs.Returned.{returned_same, returned_signed, returned_vacant, returned_left, returned_end, none_opened_then, fewer_opened}

module _ (g : GraphValue) (lease : LeaseValue) (held : IsHeld g lease) where
  pub at_work : (task : TaskParts) (abstraction : AbstractGraph) → g.task ≡ task → g.table.abstraction ≡ abstraction → IsLeaseGraph g → IsAtWork task abstraction lease.choice lease
  at_work task abstraction task_is graph_is k = subst (λ (a : AbstractGraph). IsAtWork task a lease.choice lease) graph_is (subst (λ (p : TaskParts). IsAtWork p g.table.abstraction lease.choice lease) task_is (subst (λ h. IsAtWork g.task g.table.abstraction h lease) (sym held.of_graph.choice) (record {
    settings = g.table.settings;
    reopenings = g.table.past.reopenings;
    machine = held.machine;
    is_setup = setup_is g k;
    in_range = k.legal.range;
    lawful = held.moment.at.lawful;
    leased = held.out.0.leased;
    known = held.machine.known lease.worker;
    work = held.out.0.work;
    scope = held.of_graph.scope;
    choice_is = held.of_graph.choice;
  })))

  -- what a worker for the graph's task, by its blocks, made of the lease
  pub work_of : (task : TaskParts) (abstraction : AbstractGraph) → g.task ≡ task → g.table.abstraction ≡ abstraction → (worked : LeaseValue) (broken : ℕ) → Works task abstraction lease.choice lease worked broken → worked.used ≤ worked.quota
      → IsSameLease lease worked → HasScope abstraction worked → IsWorkOf g lease worked broken
  work_of task abstraction task_is graph_is worked broken works within same scope = record {
    works = subst (λ (p : TaskParts). Works p g.table.abstraction lease.choice lease worked broken) (sym task_is) (subst (λ (a : AbstractGraph). Works task a lease.choice lease worked broken) (sym graph_is) works);
    within = within;
    same = same;
    scope = subst (λ (a : AbstractGraph). HasScope a worked) (sym graph_is) scope;
  }

  some_quota : 0 < lease.quota
  some_quota = (held.moment.at.lawful.counts.quota lease.worker (grant_of lease) held.out.0.leased).0

  module _ (worked : LeaseValue) (broken : ℕ) (w : IsWorkOf g lease worked broken) where
    pub worked_of_graph : IsOfGraph g worked
    worked_of_graph = record {
      leased = ap (counts_in g).leases w.same.worker ∙ held.of_graph.leased ∙ (λ i. Some (record { block = sym w.same.block i; quota = sym w.same.quota i }));
      weight = w.same.weight ∙ held.of_graph.weight;
      choice = w.same.choice ∙ held.of_graph.choice;
      fits = subst (λ n. FitsScopes g.table.abstraction n) (sym w.same.fits) held.of_graph.fits;
      scope = w.scope;
    }

    worked_out : (machine : Machine) → IsOutInTurns (setup_in g) machine 0 lease → IsOutInTurns (setup_in g) machine broken worked
    worked_out machine out =
        let here = subst (λ h. Works g.task g.table.abstraction h lease worked broken) held.of_graph.choice w.works in
        let after = here g.table.settings g.table.past.reopenings machine out.0 in
        (after.0, after.1 out.1)

    -- ---- after at most one mark

    module _ (marked : GraphValue) (mark : IsMarkedAtMost g worked.worker marked) where
      pub marked_of_graph : IsOfGraph marked worked
      marked_of_graph = record {
        leased = (λ i. marked_leases g worked.worker marked mark i worked.worker) ∙ worked_of_graph.leased;
        weight = worked_of_graph.weight ∙ (λ i. record { num = (sym (marked_same g worked.worker marked mark).settings i).num; den = (sym (marked_same g worked.worker marked mark).settings i).den });
        choice = worked_of_graph.choice ∙ sym (marked_same g worked.worker marked mark).choice;
        fits = subst (λ (a : AbstractGraph). FitsScopes a worked.fits) (sym (marked_same g worked.worker marked mark).abstraction) worked_of_graph.fits;
        scope = subst (λ (a : AbstractGraph). HasScope a worked) (sym (marked_same g worked.worker marked mark).abstraction) worked_of_graph.scope;
      }

      -- a run leads on to the marked graph, at which the lease is still out
      abbrev Along : (recorded : (worker : ℕ) → Rows) → Machine → Type 0
      Along recorded machine = (next : Machine) × RunsTo g machine marked recorded next × IsOutInTurns (setup_in marked) next broken worked

      along : (recorded : (worker : ℕ) → Rows) (machine : Machine) → IsMoment g recorded machine → IsOutInTurns (setup_in g) machine 0 lease → Along recorded machine
      along recorded machine m out =
          let a = marked_runs g worked.worker marked mark recorded machine m in
          (a.0, a.1, a.2 worked broken (worked_out machine out))

-- ---- a lease that comes back

module _ (g : GraphValue) (lease : LeaseValue) (held : IsHeld g lease) (worked : LeaseValue) where
  -- for want of memory
  module _ (w : IsWorkOf g lease worked 1) (marked : GraphValue) (mark : IsMarkedAtMost g worked.worker marked) (new : GraphValue) (r : IsReleased marked worked true new) where
    broken_home : ReleasesNext marked worked true new → RunsHome g lease new
    broken_home next recorded machine m out =
        let a = along g lease held worked 1 w marked mark recorded machine m out in
        let step = releases_in_order marked worked new r.incumbent recorded a.0 a.1.moment true next a.2 in (
          recorded,
          step.0,
          run_then g marked new machine a.0 step.0 recorded recorded (marked_same g worked.worker marked mark) a.1
              (run_one marked a.0 (Release worked.worker worked.used true ∷ ending true marked.table.end) new recorded step.0 step.1
              (in_time_events (setup_in marked) (rooms marked.table) (Release worked.worker worked.used true ∷ ending true marked.table.end) a.0 step.0 (ending_grants_none true marked.table.end) step.1.moves) (ending_rooms (with_entry (rooms marked.table) worked.worker 0) true marked.table.end ∙ sym r.room) r.events.journal),
        )

    nearer_memory : IsNearer g lease new
    nearer_memory = inl (ap is_some (returned_end marked worked new r (marked_end g worked.worker marked mark ∙ held.no_end)))

  -- with no row of its block left Opened, or with its quota used up, where it can't go on
  module _ (w : IsWorkOf g lease worked 0) (marked : GraphValue) (mark : IsMarkedAtMost g worked.worker marked) (k : IsLeaseGraph marked) (new : GraphValue) (cause : MayReturn marked new worked false)
      (r : IsReleased marked worked false new) where
    of_graph : IsOfGraph marked worked
    of_graph = marked_of_graph g lease held worked 0 w marked mark

    done_home : ReleasesNext marked worked false new → RunsHome g lease new
    done_home next recorded machine m out =
        let a = along g lease held worked 0 w marked mark recorded machine m out in
        let step = releases_in_order marked worked new r.incumbent recorded a.0 a.1.moment false next a.2 in
        let why : (HasOpened (step.0.store.rows worked.block) → ⊥)
        ⊎ ((worked.used ≡ worked.quota) × CannotGoOn (setup_in marked) (rooms marked.table) a.0 worked.worker worked.used worked.block step.0) =
        elim cause [
          | inl none ↦ inl (none_opened_then marked k worked of_graph new r recorded a.0 a.1.moment a.2 none recorded step.0 step.1.moment)
          | inr spent ↦ inr (spent.0, cannot_go_on marked worked new r.noted spent.1 recorded recorded a.0 step.0 a.1.moment.at step.1.moment.at spent.2)
        ] in (
          recorded,
          step.0,
          run_then g marked new machine a.0 step.0 recorded recorded (marked_same g worked.worker marked mark) a.1
              (run_one marked a.0 (Release worked.worker worked.used false ∷ []) new recorded step.0 step.1
              (in_time_one (setup_in marked) (rooms marked.table) (Release worked.worker worked.used false) a.0 step.0 tt (grant_of worked, a.2.0.leased, why) step.1.moves) (sym r.room) r.events.journal),
        )

    left : new.table.left ≡ marked.table.left + (worked.quota - worked.used)
    left = returned_left marked worked false new r of_graph.leased

    nearer_spent : worked.used ≡ worked.quota → IsNearer g lease new
    nearer_spent spent =
        let now = left in
        let before = marked_left g worked.worker marked mark in
        let some = some_quota g lease held in
        let quota = w.same.quota in
        inr (inl (omega (arith, now, before, spent, some, quota)))

    opened : is_some (key_at marked.homes worked.block) ≡ true
    opened = subst (λ (h : HomeTable). is_some (key_at h worked.block) ≡ true) (sym (marked_homes g worked.worker marked mark)) (subst (λ b. is_some (key_at g.homes b) ≡ true) (sym w.same.block) held.opened)

    same_opened : opened_blocks marked ≡ opened_blocks g
    same_opened = λ i. count_below (blocks_of ((marked_same g worked.worker marked mark).abstraction i)).count (λ block. is_some (key_at (marked_homes g worked.worker marked mark i) block))

    nearer_empty : (HasOpened ((leased_store worked).rows worked.block) → ⊥) → IsNearer g lease new
    nearer_empty none =
        let now = left in
        let before = marked_left g worked.worker marked mark in
        let quota = w.same.quota in
        let within = w.within in
        by_cases (nat_lt 0 worked.used)
        (λ e. inr (inl (let some = below 0 worked.used e in omega (arith, some, now, before, within, quota))))
        (λ e. let unused : worked.used ≡ 0 = (let low = not_below 0 worked.used e in omega (arith, low)) in
        let a = along g lease held worked 0 w marked mark held.recorded held.machine held.moment held.out in
        let fewer = fewer_opened marked k worked of_graph new r held.recorded a.0 a.1.moment a.2 unused opened none in
        let same = same_opened in
        inr (inr (omega (arith, unused, now, before, quota), omega (arith, fewer, same))))

    nearer_done : IsNearer g lease new
    nearer_done = elim cause [ inl none ↦ nearer_empty none | inr spent ↦ nearer_spent spent.0 ]

-- a run from where the lease was given
module _ (begin : GraphValue) (given : LeaseValue) (marked : GraphValue) (worked : LeaseValue) (k : IsLeaseGraph marked) (new : GraphValue) where
  turned : (memory : Bool) (t : IsToReturn begin given marked worked (one_if memory)) (r : IsReleased marked worked memory new) → HasTurn begin given.worker (turn_with given.quota) → HasTurn new given.worker no_turn
  turned memory t r before =
      let was = t.turn before in
      journal_more marked.table.journal new.table.journal given.worker (Release worked.worker worked.used memory ∷ ending memory marked.table.end) r.events.journal
      ∙ one_more (events_of given.worker marked.table.journal) given.worker was.0 was.1 (Release worked.worker worked.used memory) (ending memory marked.table.end)
      (own worked.worker given.worker (t.work.same.worker ∙ t.on.worker)) (ending_none given.worker memory marked.table.end)
      ∙ turn_returned was.0 worked.worker worked.used memory was.2

  back_with : (memory : Bool) (t : IsToReturn begin given marked worked (one_if memory)) (r : IsReleased marked worked memory new) → RunsHome t.first t.held new → IsNearer t.first t.held new → IsBack begin given new
  back_with memory t r home nearer = record {
    home = home_then begin t.first new given t.held t.on.same t.on.runs home;
    vacant = ap (counts_in new).leases (sym (t.work.same.worker ∙ t.on.worker)) ∙ returned_vacant marked worked memory new r;
    nearer = nearer_then begin t.first new given t.held t.on.on nearer;
    same = same_then begin t.first new t.on.same (same_then t.first marked new (marked_same t.first worked.worker marked t.mark) (returned_same marked worked memory new r));
    signed_off = returned_signed marked worked memory new r ∙ marked_signed t.first worked.worker marked t.mark ∙ t.on.signed_off;
    turn = turned memory t r;
  }

  pub back : (memory : Bool) → IsToReturn begin given marked worked (one_if memory) → MayReturn marked new worked memory → IsReleased marked worked memory new → ReleasesNext marked worked memory new → IsBack begin given new
  back true t cause r next =
      back_with true t r (broken_home t.first t.held t.on.held worked t.work marked t.mark new r next) (nearer_memory t.first t.held t.on.held worked t.work marked t.mark new r)
  back false t cause r next =
      back_with false t r (done_home t.first t.held t.on.held worked t.work marked t.mark k new cause r next) (nearer_done t.first t.held t.on.held worked t.work marked t.mark k new cause r)

-- ---- a lease that goes on

module _ (g : GraphValue) (lease : LeaseValue) (held : IsHeld g lease) (worked : LeaseValue) (w : IsWorkOf g lease worked 0) (marked : GraphValue) (mark : IsMarkedAtMost g worked.worker marked) (new : GraphValue) (kept : LeaseValue)
    (n : IsRenewed marked worked kept new) (goes : GoesOn marked worked new) where
  kept_same : IsSameSearch g new
  kept_same = same_then g marked new (marked_same g worked.worker marked mark) (record { task = n.task; abstraction = n.events.abstraction; choice = n.choice; settings = n.events.settings; past = n.events.past })

  kept_signed : (counts_in new).signed_off ≡ (counts_in g).signed_off
  kept_signed = ap (λ (c : Counts). c.signed_off) n.events.counts ∙ marked_signed g worked.worker marked mark

  kept_by : kept.worker ≡ worked.worker
  kept_by = ap (λ (l : LeaseValue). l.worker) n.kept_is

  kept_quota : kept.quota ≡ renewed_quota marked worked
  kept_quota = ap (λ (l : LeaseValue). l.quota) n.kept_is

  kept_less : worked.used ≡ worked.quota → left_with new kept < left_with g lease
  kept_less spent =
      let left : new.table.left ≡ (marked.table.left + (worked.quota - worked.used)) - renewed_quota marked worked =
      ap (λ (c : Counts). c.left) n.events.counts
      ∙ ap (λ (o : Option Grant). (marked.table.left + (quota_of o - worked.used)) - renewed_quota marked worked) (marked_of_graph g lease held worked 0 w marked mark).leased in
      let low : renewed_quota marked worked ≤ marked.table.left + (worked.quota - worked.used) = grind arith in
      let before = marked_left g worked.worker marked mark in
      let some = some_quota g lease held in
      let quota = kept_quota in
      let same = w.same.quota in
      omega (arith, left, low, before, spent, some, quota, same)

  given_whole : (machine : Machine) → machine.store.incumbent ≡ new.incumbent → machine.given kept.worker ≡ kept.incumbent → machine.given worked.worker ≡ machine.store.incumbent
  given_whole machine whole given = ap machine.given (sym kept_by) ∙ given ∙ ap (λ (l : LeaseValue). l.incumbent) n.kept_is ∙ sym n.incumbent ∙ sym whole

  module _ (k : IsLeaseGraph marked) (spent : worked.used ≡ worked.quota) (next : RenewsNext marked worked kept new) where
    kept_out : RunsOut g lease new kept
    kept_out recorded machine m out =
        let a = along g lease held worked 0 w marked mark recorded machine m out in
        let step = renews_in_order marked worked new n.incumbent recorded a.0 a.1.moment kept next a.2 in
        let after = with_entry recorded worked.worker (away_rows kept.parts) in (
          after,
          step.0,
          run_then g marked new machine a.0 step.0 recorded after (marked_same g worked.worker marked mark) a.1
              (run_one marked a.0 (Renew worked.worker worked.used kept.quota ∷ []) new after step.0 step.1
              (in_time_one (setup_in marked) (rooms marked.table) (Renew worked.worker worked.used kept.quota) a.0 step.0 (given_whole step.0 step.1.moment.incumbent step.2)
              (grant_of worked, a.2.0.leased, spent, still_first marked worked new n.noted k.key_places recorded after a.0 step.0 a.1.moment.at step.1.moment.at goes.0) step.1.moves)
              (sym n.room)
              (n.events.journal ∙ ap (λ q. marked.table.journal ++ Renew worked.worker worked.used q ∷ []) (sym kept_quota))),
          step.3,
        )

    kept_held : IsHeld new kept
    kept_held =
        let runs = kept_out held.recorded held.machine held.moment held.out in
        record {
          of_graph = n.of_graph;
          no_end = ap (λ (c : Counts). c.end) n.events.counts ∙ marked_end g worked.worker marked mark ∙ held.no_end;
          opened = subst (λ b. is_some (key_at new.homes b) ≡ true) (sym (ap (λ (l : LeaseValue). l.block) n.kept_is)) goes.0.0.1;
          recorded = runs.0;
          machine = runs.1;
          moment = runs.2.moment;
          out = runs.3;
        }

-- fewer turns are left with a lease that went on
pub kept_room : (marked : GraphValue) (worked : LeaseValue) (new : GraphValue) (kept : LeaseValue) → IsRenewed marked worked kept new → GoesOn marked worked new → rooms new.table kept.worker < rooms marked.table worked.worker
kept_room marked worked new kept n goes =
    let at : rooms new.table kept.worker ≡ rooms marked.table worked.worker - 1 =
    ap (rooms new.table) (ap (λ (l : LeaseValue). l.worker) n.kept_is) ∙ (λ i. n.room i worked.worker) ∙ entry_here (rooms marked.table) worked.worker worked.worker (rooms marked.table worked.worker - 1) (equal_self worked.worker) in
    let some = goes.1 in
    omega (arith, at, some)

pub kept_on : (begin : GraphValue) (given : LeaseValue) (marked : GraphValue) (worked : LeaseValue) → IsLeaseGraph marked → IsToReturn begin given marked worked 0 → worked.used ≡ worked.quota
    → (new : GraphValue) (kept : LeaseValue) → IsRenewed marked worked kept new → GoesOn marked worked new → RenewsNext marked worked kept new → GoesOnTo begin given new kept
kept_on begin given marked worked k t spent new kept n goes next = record {
  held = kept_held t.first t.held t.on.held worked t.work marked t.mark new kept n goes k spent next;
  worker = kept_by t.first t.held t.on.held worked t.work marked t.mark new kept n goes ∙ t.work.same.worker ∙ t.on.worker;
  same = same_then begin t.first new t.on.same (kept_same t.first t.held t.on.held worked t.work marked t.mark new kept n goes);
  signed_off = kept_signed t.first t.held t.on.held worked t.work marked t.mark new kept n goes ∙ t.on.signed_off;
  runs = out_then begin t.first new given t.held kept t.on.same t.on.runs (kept_out t.first t.held t.on.held worked t.work marked t.mark new kept n goes k spent next);
  on = on_less begin t.first new given t.held kept t.on.on (kept_less t.first t.held t.on.held worked t.work marked t.mark new kept n goes spent);
  turn = λ before.
      let was = t.turn before in
      journal_more marked.table.journal new.table.journal given.worker (Renew worked.worker worked.used (renewed_quota marked worked) ∷ []) n.events.journal
      ∙ one_more (events_of given.worker marked.table.journal) given.worker was.0 was.1 (Renew worked.worker worked.used (renewed_quota marked worked)) [] (own worked.worker given.worker (t.work.same.worker ∙ t.on.worker)) refl
      ∙ turn_renewed was.0 worked.worker worked.used (renewed_quota marked worked) 0 was.2
      ∙ ap (λ q. Some (turn_with q)) (sym (kept_quota t.first t.held t.on.held worked t.work marked t.mark new kept n goes));
}
