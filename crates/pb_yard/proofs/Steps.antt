-- What each call of a graph does is a step of the rule.
use Rattle.std.proofs.Common.{◌≡◌, ℕ, ◌==◌, ◌⊎◌, inl, inr, length, Bool, true, false, cond, List, [], ◌∷◌, ◌++◌, Option, Some, None, refl, sym, ap, ◌∙◌, subst, true≢false}
use Rattle.std.proofs.lemmas.Option.{none-some, same_Some}
use mathlib.Core.Option.{some}
use lib.ListN.{get_elem?}
use Rattle.pb_model.specs.Store.{Rows, Store, HasGoalWithin, HasOpened, lesser, AtMost}
use Rattle.pb_model.proofs.Callers.{at_most_self, at_most_trans, lesser_same, by_cases, equal, equal_self, equal_swap}
use Rattle.pb_task.specs.declared.parts.TaskParts.{TaskParts}
use Rattle.pb_task.specs.Parts.{space_of}
use Rattle.pb_machine.specs.declared.event.End.{End}
use Rattle.pb_machine.specs.declared.event.Event.{Event}
use Rattle.pb_machine.specs.declared.event.Event.TheVariants.{Lease, Renew, Release, Off}
use Rattle.pb_machine.specs.Tables.{with_entry, one_if}
use Rattle.pb_machine.specs.Counts.{Counts, counts_after}
use Rattle.pb_machine.specs.History.{is_event_of, events_of}
use Rattle.pb_machine.specs.Room.{rooms_after}
use Rattle.pb_machine.specs.Views.{AreBy}
use Rattle.pb_machine.specs.Machine.{Machine, IsWorked, KeepsRows, Move, event_move}
use Rattle.pb_machine.specs.Turns.{AreLeaseTurns, RunsInOrder}
use Rattle.pb_machine.proofs.Callers.{known_more, entry_here, entry_else}
use Rattle.pb_abstract.specs.Graph.{AbstractGraph}
use Rattle.pb_bundles.specs.Parts.{away_rows}
use Rattle.pb_bundles.specs.Moves.{NotesKeys}
use Rattle.pb_estimate.specs.Choices.{Choice}
use Rattle.pb_lease.specs.Tables.{blocks, rooms}
use Rattle.pb_lease.specs.Events.{Adds, ending}
use Rattle.pb_lease.specs.LeaseValue.{LeaseValue, leased_store}
use Rattle.pb_lease.specs.Leased.{guide_of, grant_of, FitsScopes, IsOut, IsInTurns}
use Rattle.pb_lease.specs.GraphValue.{GraphValue, setup_in, counts_in, IsOfGraph}
use Rattle.pb_lease.specs.Moments.{IsMomentAt, Follows, moves_of, ShowsTold, IsKnownThen}
use Rattle.pb_lease.specs.Steps.{IsLeased, LeasesNext, end_events, KeepsLeases, IsReleased, ReleasesNext, IsRenewed, RenewsNext, GoesOn, GoesOver, switch_of, switch_events, IsSwitched, SwitchesNext}
use Rattle.pb_lease.proofs.Callers.{ending_leases, events_leave_others, worked_leases_are_out, same_places}
use Rattle.pb_yard.specs.declared.view.View.{View}
use Rattle.pb_yard.specs.Order.{HasCause, HasStopped, IsOvertaken, RunsSettled, all_keep}
use Rattle.pb_yard.specs.Views.{keeps_order, KeepsOrder}
use Rattle.pb_yard.specs.Replies.{reported}
use Rattle.pb_yard.specs.Rule.{rows_of, grant_in, was_read, IsLent, IsViewOf, IsYard}
use Rattle.pb_yard.specs.Returning.{IsBrought}
use Rattle.pb_yard.proofs.InTime.{GrantsNone, ending_grants_none, ending_rooms, events_of_moves, settled_one, settled_switch, settled_events, settled_report, settled_same, settled_any, settled_free, free_release, some_events}
use Rattle.pb_yard.proofs.Causes.{none_left, first_with_home, still_first, cannot_go_on, overtaken}
use Rattle.pb_yard.proofs.Parts.{GoesOnAs, still_of_graph}
use Rattle.pb_yard.proofs.Meaning.{known_above}
use Rattle.pb_yard.proofs.Holding.{IsStep}

-- ---- small facts

pub rows_entry : (lent : ℕ → Option LeaseValue) (own : ℕ) (o : Option LeaseValue) (other : ℕ) → rows_of (with_entry lent own o other) ≡ with_entry (λ w. rows_of (lent w)) own (rows_of o) other
rows_entry lent own o other = by_cases (other == own)
    (λ e. ap rows_of (entry_here lent own other o e) ∙ sym (entry_here (λ w. rows_of (lent w)) own other (rows_of o) e))
    (λ e. ap rows_of (entry_else lent own other o e) ∙ sym (entry_else (λ w. rows_of (lent w)) own other (rows_of o) e))

-- the table with what it has at a number is the same
pub entry_same : (lent : ℕ → Option LeaseValue) (own : ℕ) (o : Option LeaseValue) (other : ℕ) → lent own ≡ o → with_entry lent own o other ≡ lent other
entry_same lent own o other is = by_cases (other == own) (λ e. entry_here lent own other o e ∙ sym is ∙ ap lent (sym (equal other own e))) (λ e. entry_else lent own other o e)

-- an event of this worker is nobody else's, and ends that follow are nobody's
pub first_by : (own : ℕ) (event : Event) (events : List Event) → ((other : ℕ) → is_event_of other event ≡ (own == other)) → AreBy own events → AreBy own (event ∷ events)
first_by own event events is rest other else =
    ap (λ r. cond r (event ∷ events_of other events) (events_of other events)) (is other ∙ equal_swap own other ∙ else) ∙ rest other else

pub end_by : (own : ℕ) (standing : Option End) (end : End) → AreBy own (end_events standing end)
end_by own None end other else = refl
end_by own (Some e) end other else = refl

pub ending_by : (own : ℕ) (memory : Bool) (end : Option End) → AreBy own (ending memory end)
ending_by own true None other else = refl
ending_by own true (Some e) other else = refl
ending_by own false end other else = refl

same_adds : (x y : GraphValue) (events : List Event) → Adds x.table y.table events → y.task ≡ x.task → y.choice ≡ x.choice → GoesOnAs x y
same_adds x y events adds task choice = record { task = task; abstraction = adds.abstraction; choice = choice; settings = adds.settings; past = adds.past }

pub same_rest : (x y : GraphValue) (events : List Event) → Adds x.table y.table events → y ≡ record x { table = y.table } → GoesOnAs x y
same_rest x y events adds rest = same_adds x y events adds (ap (λ (g : GraphValue). g.task) rest) (ap (λ (g : GraphValue). g.choice) rest)

-- from any machine with the graph's counts, a run by these events is one in time
abbrev pub AreTimely : GraphValue → List Event → Type 0
AreTimely x events = (machine : Machine) (settled : Option ℕ) (next : Machine) → machine.counts ≡ counts_in x → RunsInOrder (setup_in x) machine (moves_of events) next
    → (later : Option ℕ) × RunsSettled (setup_in x) all_keep (rooms x.table) machine settled (moves_of events) next later

pub plain_timely : (x : GraphValue) (events : List Event) → GrantsNone events → AreTimely x events
plain_timely x events none machine settled next counts runs = settled_events (setup_in x) (rooms x.table) events machine settled next none runs

-- a sign-off has a report only if no end stands
pub off_timely : (x : GraphValue) (worker : ℕ) (report : Bool) → (report ≡ true → x.table.end ≡ None) → AreTimely x (Off worker report ∷ ending report x.table.end)
off_timely x worker false none = plain_timely x (Off worker false ∷ ending false x.table.end) (ending_grants_none false x.table.end)
off_timely x worker true none = λ machine settled next counts runs.
    settled_report (setup_in x) (rooms x.table) worker (ending true x.table.end) machine settled next (ap (λ (c : Counts). c.end) counts ∙ none refl) (ending_grants_none true x.table.end) runs

pub report_free : (memory : Bool) (end : Option End) → reported memory end ≡ true → end ≡ None
report_free true None e = refl
report_free true (Some end) e = absurd cc
report_free false end e = absurd cc

-- Why a lease comes back: its worker is out of memory, no row of its block is Opened, or its quota is used up and it can't go on.
abbrev pub MayReturn : (x y : GraphValue) → LeaseValue → (memory : Bool) → Type 0
MayReturn x y lease true = Unit {0}
MayReturn x y lease false = HasCause lease false
    ⊎ ((lease.used ≡ lease.quota) × (length x.homes.keys ≡ (blocks x.table).count) × (GoesOn x lease y → ⊥))

pub may_cause : (x y : GraphValue) (lease : LeaseValue) (memory : Bool) → HasCause lease memory → MayReturn x y lease memory
may_cause x y lease true cause = tt
may_cause x y lease false none = inl none

-- ---- a step from a yard

module _ (x y : GraphValue) (shared : Option ℕ) (views : List View) (seat : ℕ) (v : View) (h : IsYard x shared views) (at : get_elem? views seat ≡ some v) (live : v.journal.is_live ≡ true) where
  abbrev Own : ℕ
  Own = v.journal.own.worker

  mine : IsViewOf x h.machine h.lent v
  mine = h.each seat v at live

  abbrev Recorded : ℕ → Rows
  Recorded = λ w. rows_of (h.lent w)

  -- a step by these events and moves, and the incumbent that the machine has then
  abbrev pub StepsBy : List Event → List Move → Option LeaseValue → Option ℕ → Option ℕ → Type 0
  StepsBy events made lent told incumbent = (next : Machine) × IsStep x y h.machine next h.settled v.last Own (keeps_order v Own) events made h.lent lent told × (next.store.incumbent ≡ incumbent)

  -- a step by events alone
  abbrev pub Steps : List Event → Option LeaseValue → Option ℕ → Option ℕ → Type 0
  Steps events lent told incumbent = StepsBy events (moves_of events) lent told incumbent

  -- what leaves all leases as they are
  pub keeps_step : (events : List Event) → AreTimely x events → rooms_after (rooms x.table) (moves_of events) ≡ rooms y.table → KeepsLeases x events y → GoesOnAs x y → y.table.journal ≡ x.table.journal ++ events → AreBy Own events → Steps events v.lent v.told shared
  keeps_step events timely room keeps same added by = (
    next,
    record {
      recorded = Recorded;
      follows = k.1;
      later = (timely h.machine h.settled next h.moment.counts k.4).0;
      in_time = λ keeps less. settled_any (setup_in x) keeps (rooms x.table) (moves_of events) h.machine h.settled next (timely h.machine h.settled next h.moment.counts k.4).0 (timely h.machine h.settled next h.moment.counts k.4).1;
      rooms_then = room;
      events_are = events_of_moves (events);
      still = settled_same (setup_in x) all_keep (rooms x.table) (events) h.machine h.settled next (timely h.machine h.settled next h.moment.counts k.4).0 (timely h.machine h.settled next h.moment.counts k.4).1;
      theirs = λ other else. events_leave_others Own other (events) by else;
      same = same;
      added = added;
      by = by;
      records = λ other grant leased. ap rows_of (entry_same h.lent Own v.lent other mine.lent);
      leases = leases Own ∙ h.leases Own ∙ ap grant_in mine.lent;
      lent_is = λ lease is. lent_is lease (h.lent_is Own lease (mine.lent ∙ is));
      copy = mine.copy;
      told_is = (λ i. k.2.2 i Own) ∙ mine.told;
    },
    ap (λ (s : Store). s.incumbent) k.2.0 ∙ h.shared_is,
  )
    where
      k : (next : Machine) × Follows x h.machine events y Recorded next × KeepsRows h.machine next × (next.counts.leases ≡ h.machine.counts.leases)
          × RunsInOrder (setup_in x) h.machine (moves_of events) next
      k = keeps Recorded h.machine h.moment

      next : Machine
      next = k.0

      leases : (other : ℕ) → next.counts.leases other ≡ h.machine.counts.leases other
      leases other = λ i. k.3 i other

      lent_is : (lease : LeaseValue) → IsLent x h.machine Own lease → IsLent y next Own lease
      lent_is lease is = record {
        worker_is = is.worker_is;
        of_graph = still_of_graph x y same lease
            (ap (λ (c : Counts). c.leases lease.worker) (sym k.1.moment.counts) ∙ leases lease.worker ∙ ap (λ (c : Counts). c.leases lease.worker) h.moment.counts) is.of_graph;
        unused = is.unused;
        given = (λ i. k.2.1 i Own) ∙ is.given;
      }

  -- ---- what the pass has read, while it holds the graph: the graph's incumbent

  module _ (is_last : x.incumbent ≡ v.last) (read_at : v.read_at ≡ Some (length x.table.journal)) where
    last_settled : AtMost x.incumbent h.settled
    last_settled = subst (λ o. AtMost o h.settled) (sym is_last) ((h.recent seat v at live).fresh read_at)

  shared_last : AtMost shared v.last
  shared_last = known_above x shared views h Own v.last mine.known.last

  -- ---- a lease

  module _ (lease : LeaseValue) (is_last : x.incumbent ≡ v.last) (read_at : v.read_at ≡ Some (length x.table.journal)) (l : IsLeased x Own lease y) (n : LeasesNext x lease y) where
    leased_next : (next : Machine) × Follows x h.machine (Lease Own lease.block lease.quota ∷ []) y (with_entry Recorded Own (away_rows lease.parts)) next
        × (next.given Own ≡ lease.incumbent) × (next.counts.leases Own ≡ Some (grant_of lease)) × (next.store ≡ h.machine.store) × (next.told ≡ with_entry h.machine.told Own None)
        × RunsInOrder (setup_in x) h.machine (moves_of (Lease Own lease.block lease.quota ∷ [])) next
    leased_next = let t = n Recorded h.machine h.moment in (
      t.0,
      subst (λ w. Follows x h.machine (Lease w lease.block lease.quota ∷ []) y (with_entry Recorded w (away_rows lease.parts)) t.0) l.worker_is t.1,
      subst (λ w. t.0.given w ≡ lease.incumbent) l.worker_is t.2,
      subst (λ w. t.0.counts.leases w ≡ Some (grant_of lease)) l.worker_is t.3.0.leased,
      t.4,
      subst (λ w. t.0.told ≡ with_entry h.machine.told w None) l.worker_is t.5,
      subst (λ w. RunsInOrder (setup_in x) h.machine (moves_of (Lease w lease.block lease.quota ∷ [])) t.0) l.worker_is t.6,
    )

    -- the lease has at most the incumbent of the last event
    gives_whole : AtMost (leased_next.0.given Own) h.settled
    gives_whole = subst (λ o. AtMost o h.settled) (sym (leased_next.2 ∙ l.lent_incumbent)) (last_settled is_last read_at)

    pub lease_step : Steps (Lease Own lease.block lease.quota ∷ []) (Some lease) None shared
    lease_step = let t = leased_next in (
      t.0,
      record {
        recorded = with_entry Recorded Own (away_rows lease.parts);
        follows = t.1;
        later = t.0.store.incumbent;
        in_time = λ keeps less. settled_any (setup_in x) keeps (rooms x.table) (moves_of (Lease Own lease.block lease.quota ∷ [])) h.machine h.settled t.0 t.0.store.incumbent
            (settled_one (setup_in x) (rooms x.table) (Lease Own lease.block lease.quota) h.machine h.settled t.0 gives_whole tt t.6);
        rooms_then = sym l.room;
        events_are = refl;
        still = λ none. absurd (some_events (Lease Own lease.block lease.quota) [] none);
        theirs = λ other else. events_leave_others Own other (Lease Own lease.block lease.quota ∷ []) (first_by Own (Lease Own lease.block lease.quota) [] (λ other. refl) (λ other else. refl)) else;
        same = same_adds x y (Lease Own lease.block lease.quota ∷ []) l.events l.task l.choice;
        added = l.events.journal;
        by = first_by Own (Lease Own lease.block lease.quota) [] (λ other. refl) (λ other else. refl);
        records = λ other grant leased. rows_entry h.lent Own (Some lease) other;
        leases = t.3;
        lent_is = λ other is. subst (λ (k : LeaseValue). IsLent y t.0 Own k) (same_Some lease other is)
            record { worker_is = l.worker_is; of_graph = l.of_graph; unused = l.used; given = t.2 };
        copy = λ other is. subst (λ (k : LeaseValue). AtMost v.last k.incumbent) (same_Some lease other is) (subst (λ o. AtMost v.last o) (sym (l.lent_incumbent ∙ is_last)) (at_most_self v.last));
        told_is = (λ i. t.5 i Own) ∙ entry_here h.machine.told Own Own None (equal_self Own);
      },
      ap (λ (s : Store). s.incumbent) t.4 ∙ h.shared_is,
    )

  -- ---- a lease that comes back, or goes on

  module _ (most_broken : ℕ) (lease : LeaseValue) (b : IsBrought v most_broken lease) where
    lent_own : h.lent Own ≡ Some b.lent
    lent_own = mine.lent ∙ b.lent_is

    is_lent : IsLent x h.machine Own b.lent
    is_lent = h.lent_is Own b.lent lent_own

    pub is_own : lease.worker ≡ Own
    is_own = b.same.worker ∙ is_lent.worker_is

    -- it worked, in turns if its worker keeps the order
    abbrev WorkedBy : TaskParts → AbstractGraph → Choice → Type 0
    WorkedBy t a h = (w : IsWorked (space_of t) (guide_of t a h) b.lent.block lease.used most_broken (was_read v) (leased_store b.lent) (leased_store lease))
        × (KeepsOrder v → AreLeaseTurns (space_of t) (guide_of t a h) w.works (leased_store b.lent))

    worked : WorkedBy x.task x.table.abstraction x.choice
    worked = subst (λ (t : TaskParts). WorkedBy t x.table.abstraction x.choice) mine.search.task
        (subst (λ (a : AbstractGraph). WorkedBy v.task a x.choice) mine.search.abstraction (subst (λ (h : Choice). WorkedBy v.task v.abstraction h) mine.search.choice (b.work, b.turns)))

    out : (there : IsOut (setup_in x) h.machine most_broken lease) × (KeepsOrder v → IsInTurns (setup_in x) h.machine most_broken lease there)
    out = let there = worked_leases_are_out x Recorded h.machine h.moment b.lent lease most_broken (was_read v) is_lent.of_graph b.same
        (ap (λ k. rows_of (h.lent k)) is_lent.worker_is ∙ ap rows_of lent_own) (ap h.machine.given is_lent.worker_is ∙ is_lent.given)
        (λ incumbent has. mine.known.read incumbent has b.lent.worker) worked.0 in
        (there.0, λ order. there.1 (worked.1 order))

    shows : ShowsTold x h.machine lease
    shows cost told =
        let t = b.told cost (sym mine.told ∙ ap h.machine.told (sym is_own) ∙ told) in
        subst (λ (p : TaskParts). HasGoalWithin (space_of p) (guide_of p x.table.abstraction x.choice) (leased_store lease) cost) mine.search.task
        (subst (λ (a : AbstractGraph). HasGoalWithin (space_of v.task) (guide_of v.task a x.choice) (leased_store lease) cost) mine.search.abstraction
        (subst (λ (h : Choice). HasGoalWithin (space_of v.task) (guide_of v.task v.abstraction h) (leased_store lease) cost) mine.search.choice t))

    -- the lease brings no lesser incumbent than the shared one
    brought : lesser h.machine.store.incumbent lease.incumbent ≡ shared
    brought = ap (λ o. lesser o lease.incumbent) h.shared_is ∙ lesser_same shared lease.incumbent (at_most_trans shared v.last lease.incumbent shared_last b.copy)

    -- nor than the graph's
    pub stays_bound : x.incumbent ≡ v.last → lesser x.incumbent lease.incumbent ≡ x.incumbent
    stays_bound is_last = lesser_same x.incumbent lease.incumbent (subst (λ o. AtMost o lease.incumbent) (sym is_last) b.copy)

    known_then : x.incumbent ≡ v.last → y.incumbent ≡ lesser x.incumbent lease.incumbent → IsKnownThen h.machine lease y.incumbent
    known_then is_last incumbent worker =
        known_more (h.machine.known worker) (lesser h.machine.store.incumbent lease.incumbent) y.incumbent
        (subst (λ o. h.machine.known worker o ≡ true) (sym (incumbent ∙ stays_bound is_last)) (h.moment.incumbent worker))

    pub brought_of_graph : IsOfGraph x lease
    brought_of_graph = record {
      leased = ap (counts_in x).leases b.same.worker ∙ is_lent.of_graph.leased ∙ (λ i. Some (record { block = sym b.same.block i; quota = sym b.same.quota i }));
      weight = b.same.weight ∙ is_lent.of_graph.weight;
      choice = b.same.choice ∙ is_lent.of_graph.choice;
      fits = subst (λ n. FitsScopes x.table.abstraction n) (sym b.same.fits) is_lent.of_graph.fits;
      scope = record {
        blocks = λ block. same_places b.lent.parts lease.parts block b.same.places ∙ is_lent.of_graph.scope.blocks block ∙ ap (λ own. (blocks x.table).scope own block) (sym b.same.block);
        weights = b.weights;
      };
    }

  -- a worker that left the order keeps it in no run
  left_not : (worker : ℕ) (keeps : ℕ → Bool) → worker ≡ Own → (keeps Own ≡ true → keeps_order v Own ≡ true) → keeps_order v Own ≡ false → keeps worker ≡ false
  left_not worker keeps own less left = by_cases (keeps worker) (λ e. absurd (true≢false (sym (less (ap keeps (sym own) ∙ e)) ∙ left))) (λ e. e)

  module _ (lease : LeaseValue) (memory : Bool) (cause : KeepsOrder v → MayReturn x y lease memory) (b : IsBrought v (one_if memory) lease) (is_last : x.incumbent ≡ v.last) (r : IsReleased x lease memory y) (n : ReleasesNext x lease memory y) where
    abbrev Returns : Bool → Machine → Type 0
    Returns memory next = RunsInOrder (setup_in x) h.machine (moves_of (Release lease.worker lease.used memory ∷ ending memory x.table.end)) next
        → (later : Option ℕ) × RunsSettled (setup_in x) all_keep (rooms x.table) h.machine h.settled (moves_of (Release lease.worker lease.used memory ∷ ending memory x.table.end)) next later

    returns_in_time : (next : Machine) → IsMomentAt y Recorded next → KeepsOrder v → Returns memory next
    returns_in_time next m order = go memory (cause order) (r.noted) (out (one_if memory) lease b).0.leased
      where
        go : (memory : Bool) → MayReturn x y lease memory → NotesKeys lease.parts x.homes.keys y.homes.keys → h.machine.counts.leases lease.worker ≡ Some (grant_of lease) → Returns memory next
        go true why noted leased runs = settled_events (setup_in x) (rooms x.table) (Release lease.worker lease.used true ∷ ending true x.table.end) h.machine h.settled next (ending_grants_none true x.table.end) runs
        go false (inr why) noted leased runs = (
          next.store.incumbent,
          settled_one (setup_in x) (rooms x.table) (Release lease.worker lease.used false) h.machine h.settled next tt
              (grant_of lease, leased, inr (why.0, cannot_go_on x lease y noted why.1 Recorded Recorded h.machine next h.moment m why.2)) runs,
        )
        go false (inl none) noted leased runs = (
          next.store.incumbent,
          settled_one (setup_in x) (rooms x.table) (Release lease.worker lease.used false) h.machine h.settled next tt
              (grant_of lease, leased, inl (none_left x lease y noted h.is_setup (brought_of_graph (one_if memory) lease b) Recorded h.machine h.moment none Recorded next m)) runs,
        )

    -- for any workers, but for this one if it left the order
    abbrev ReturnsFor : Machine → Type 0
    ReturnsFor next = (later : Option ℕ) × ((keeps : ℕ → Bool) → (keeps Own ≡ true → keeps_order v Own ≡ true)
        → RunsSettled (setup_in x) keeps (rooms x.table) h.machine h.settled (moves_of (Release lease.worker lease.used memory ∷ ending memory x.table.end)) next later)

    returns_for : (next : Machine) → Follows x h.machine (Release lease.worker lease.used memory ∷ ending memory x.table.end) y Recorded next
        → (KeepsOrder v → RunsInOrder (setup_in x) h.machine (moves_of (Release lease.worker lease.used memory ∷ ending memory x.table.end)) next) → ReturnsFor next
    returns_for next follows runs = by_cases (keeps_order v Own)
        (λ order.
        let timely = returns_in_time next follows.moment order (runs order) in
        (timely.0, λ keeps less. settled_any (setup_in x) keeps (rooms x.table) (moves_of (Release lease.worker lease.used memory ∷ ending memory x.table.end)) h.machine h.settled next timely.0 timely.1))
        (λ left.
        let free = free_release (setup_in x) (rooms x.table) lease.worker lease.used memory x.table.end h.machine h.settled next follows.moves in
        (free.0, λ keeps less. free.1 keeps (left_not lease.worker keeps (is_own (one_if memory) lease b) less left)))

    pub release_step : Steps (Release lease.worker lease.used memory ∷ ending memory x.table.end) None None shared
    release_step =
        let t = n Recorded h.machine h.moment (out (one_if memory) lease b).0 (shows (one_if memory) lease b) (known_then (one_if memory) lease b is_last r.incumbent) in
        let own : lease.worker ≡ Own = is_own (one_if memory) lease b in
        let gone : t.0.counts.leases Own ≡ None =
        ap t.0.counts.leases (sym own) ∙ ap (λ (c : Counts). c.leases lease.worker) t.1.moment.counts ∙ ap (λ (c : Counts). c.leases lease.worker) r.events.counts
        ∙ (λ i. ending_leases (blocks x.table) x.table.settings (counts_after (blocks x.table) x.table.settings (counts_in x) (Release lease.worker lease.used memory)) memory x.table.end i lease.worker)
        ∙ entry_here (counts_in x).leases lease.worker lease.worker None (equal_self lease.worker) in (
          t.0,
          record {
            recorded = Recorded;
            follows = t.1;
            later = (returns_for t.0 t.1 (λ order. t.4 ((out (one_if memory) lease b).1 order))).0;
            in_time = (returns_for t.0 t.1 (λ order. t.4 ((out (one_if memory) lease b).1 order))).1;
            rooms_then = ending_rooms (with_entry (rooms x.table) lease.worker 0) memory x.table.end ∙ sym r.room;
            events_are = events_of_moves (Release lease.worker lease.used memory ∷ ending memory x.table.end);
            still = λ none. absurd (some_events (Release lease.worker lease.used memory) (ending memory x.table.end) none);
            theirs = λ other else. events_leave_others Own other (Release lease.worker lease.used memory ∷ ending memory x.table.end) (first_by Own (Release lease.worker lease.used memory) (ending memory x.table.end) (λ other. ap (λ w. w == other) own) (ending_by Own memory x.table.end)) else;
            same = same_adds x y (Release lease.worker lease.used memory ∷ ending memory x.table.end) r.events r.task r.choice;
            added = r.events.journal;
            by = first_by Own (Release lease.worker lease.used memory) (ending memory x.table.end) (λ other. ap (λ w. w == other) own) (ending_by Own memory x.table.end);
            records = λ other grant leased. by_cases (other == Own)
                (λ e. absurd (none-some grant (sym gone ∙ ap t.0.counts.leases (sym (equal other Own e)) ∙ leased)))
                (λ e. ap rows_of (entry_else h.lent Own other None e));
            leases = gone;
            lent_is = λ other is. absurd (none-some other is);
            copy = λ other is. absurd (none-some other is);
            told_is = (λ i. t.3 i Own) ∙ ap (λ w. with_entry h.machine.told w None Own) own ∙ entry_here h.machine.told Own Own None (equal_self Own);
          },
          t.2 ∙ brought (one_if memory) lease b,
        )

  module _ (lease kept : LeaseValue) (spent : KeepsOrder v → lease.used ≡ lease.quota) (places : length x.homes.keys ≡ (blocks x.table).count) (b : IsBrought v 0 lease) (is_last : x.incumbent ≡ v.last)
      (read_at : v.read_at ≡ Some (length x.table.journal))
      (r : IsRenewed x lease kept y) (goes : GoesOn x lease y) (n : RenewsNext x lease kept y) where
    pub renew_step : Steps (Renew lease.worker lease.used kept.quota ∷ []) (Some kept) None shared
    renew_step =
        let t = n Recorded h.machine h.moment (out 0 lease b).0 (shows 0 lease b) (known_then 0 lease b is_last r.incumbent) in
        let own : lease.worker ≡ Own = is_own 0 lease b in
        let after = with_entry Recorded lease.worker (away_rows kept.parts) in
        let kept_incumbent : kept.incumbent ≡ x.incumbent = ap (λ (k : LeaseValue). k.incumbent) r.kept_is ∙ stays_bound 0 lease b is_last in
        let whole : AtMost (t.0.given lease.worker) h.settled =
        subst (λ o. AtMost o h.settled) (sym (ap t.0.given (ap (λ (k : LeaseValue). k.worker) (sym r.kept_is)) ∙ t.2 ∙ kept_incumbent)) (last_settled is_last read_at) in
        let first = still_first x lease y r.noted places Recorded after h.machine t.0 h.moment t.1.moment goes.0 in
        let kept_own : kept.worker ≡ Own = ap (λ (k : LeaseValue). k.worker) r.kept_is ∙ own in
        let same : y.table.journal ≡ x.table.journal ++ Renew lease.worker lease.used kept.quota ∷ [] =
        r.events.journal ∙ ap (λ (k : LeaseValue). x.table.journal ++ Renew lease.worker lease.used k.quota ∷ []) (sym r.kept_is) in (
          t.0,
          record {
            recorded = with_entry Recorded lease.worker (away_rows kept.parts);
            follows = t.1;
            later = t.0.store.incumbent;
            in_time = λ keeps less. by_cases (keeps_order v Own)
                (λ order. settled_any (setup_in x) keeps (rooms x.table) (moves_of (Renew lease.worker lease.used kept.quota ∷ [])) h.machine h.settled t.0 t.0.store.incumbent
                (settled_one (setup_in x) (rooms x.table) (Renew lease.worker lease.used kept.quota) h.machine h.settled t.0 whole
                (grant_of lease, (out 0 lease b).0.leased, spent order, first) (t.6 ((out 0 lease b).1 order))))
                (λ left. settled_free (setup_in x) keeps (rooms x.table) (event_move (Renew lease.worker lease.used kept.quota)) h.machine h.settled t.0 (left_not lease.worker keeps own less left) tt whole
                (grant_of lease, (out 0 lease b).0.leased, first) t.1.moves);
            rooms_then = sym r.room;
            events_are = refl;
            still = λ none. absurd (some_events (Renew lease.worker lease.used kept.quota) [] none);
            theirs = λ other else. events_leave_others Own other (Renew lease.worker lease.used kept.quota ∷ []) (first_by Own (Renew lease.worker lease.used kept.quota) [] (λ other. ap (λ w. w == other) own) (λ other else. refl)) else;
            same = record { task = r.task; abstraction = r.events.abstraction; choice = r.choice; settings = r.events.settings; past = r.events.past };
            added = same;
            by = first_by Own (Renew lease.worker lease.used kept.quota) [] (λ other. ap (λ w. w == other) own) (λ other else. refl);
            records = λ other grant leased. rows_entry h.lent Own (Some kept) other ∙ (λ i. with_entry Recorded (sym own i) (away_rows kept.parts) other);
            leases = ap t.0.counts.leases (sym kept_own) ∙ t.3.0.leased;
            lent_is = λ other is. subst (λ (k : LeaseValue). IsLent y t.0 Own k) (same_Some kept other is)
                record { worker_is = kept_own; of_graph = r.of_graph; unused = ap (λ (k : LeaseValue). k.used) r.kept_is; given = ap t.0.given (sym kept_own) ∙ t.2 };
            copy = λ other is. subst (λ (k : LeaseValue). AtMost v.last k.incumbent) (same_Some kept other is) (subst (λ o. AtMost v.last o) (sym (kept_incumbent ∙ is_last)) (at_most_self v.last));
            told_is = (λ i. t.5 i Own) ∙ ap (λ w. with_entry h.machine.told w None Own) own ∙ entry_here h.machine.told Own Own None (equal_self Own);
          },
          t.4 ∙ brought 0 lease b,
        )

  module _ (lease next : LeaseValue) (cause : KeepsOrder v → HasStopped lease) (places : length x.homes.keys ≡ (blocks x.table).count) (b : IsBrought v 0 lease) (is_last : x.incumbent ≡ v.last) (read_at : v.read_at ≡ Some (length x.table.journal))
      (over : GoesOver x lease y next.block) (r : IsSwitched x lease next y) (n : SwitchesNext x lease next y) where
    switched_of_graph : IsOfGraph x lease
    switched_of_graph = brought_of_graph 0 lease b

    -- why the lease comes back
    why : (after : Machine) (recorded : (worker : ℕ) → Rows) → IsMomentAt y recorded after → KeepsOrder v → (HasOpened (after.store.rows lease.block) → ⊥) ⊎ ((lease.used ≡ lease.quota) × IsOvertaken (setup_in x) h.machine lease.worker lease.used lease.block after)
    why after recorded m order = go (cause order)
      where
        go : HasStopped lease → (HasOpened (after.store.rows lease.block) → ⊥) ⊎ ((lease.used ≡ lease.quota) × IsOvertaken (setup_in x) h.machine lease.worker lease.used lease.block after)
        go (inl used) = inr (used, overtaken x lease y r.noted places Recorded recorded h.machine after h.moment m next.block over)
        go (inr none) = inl (none_left x lease y r.noted h.is_setup switched_of_graph Recorded h.machine h.moment none recorded after m)

    pub switch_step : StepsBy (switch_events lease next) (switch_of lease next ∷ []) (Some next) None shared
    switch_step =
        let t = n Recorded h.machine h.moment (out 0 lease b).0 (shows 0 lease b) (known_then 0 lease b is_last r.incumbent) in
        let own : lease.worker ≡ Own = is_own 0 lease b in
        let after = with_entry Recorded lease.worker (away_rows next.parts) in
        let next_incumbent : next.incumbent ≡ x.incumbent = r.lent_incumbent ∙ stays_bound 0 lease b is_last in
        let whole : AtMost (t.0.given lease.worker) h.settled =
        subst (λ o. AtMost o h.settled) (sym (ap t.0.given (sym r.worker_is) ∙ t.2 ∙ next_incumbent)) (last_settled is_last read_at) in
        let next_own : next.worker ≡ Own = r.worker_is ∙ own in (
          t.0,
          record {
            recorded = after;
            follows = t.1;
            later = t.0.store.incumbent;
            in_time = λ keeps less. by_cases (keeps_order v Own)
                (λ order. settled_any (setup_in x) keeps (rooms x.table) (switch_of lease next ∷ []) h.machine h.settled t.0 t.0.store.incumbent
                (settled_switch (setup_in x) (rooms x.table) lease.worker lease.used next.block next.quota h.machine h.settled t.0 whole
                (grant_of lease, (out 0 lease b).0.leased, why t.0 after t.1.moment order, over.2) (t.6 ((out 0 lease b).1 order))))
                (λ left. settled_free (setup_in x) keeps (rooms x.table) (switch_of lease next) h.machine h.settled t.0 (left_not lease.worker keeps own less left)
                (first_with_home x lease y r.noted places Recorded after h.machine t.0 h.moment t.1.moment next.block over.0) whole over.2 t.1.moves);
            rooms_then = sym r.room;
            events_are = refl;
            still = λ none. absurd (some_events (Release lease.worker lease.used false) (Lease lease.worker next.block next.quota ∷ []) none);
            theirs = λ other else. (ap (λ w. w == other) own ∙ equal_swap Own other ∙ else, tt);
            same = record { task = r.task; abstraction = r.events.abstraction; choice = r.choice; settings = r.events.settings; past = r.events.past };
            added = r.events.journal;
            by = first_by Own (Release lease.worker lease.used false) (Lease lease.worker next.block next.quota ∷ []) (λ other. ap (λ w. w == other) own)
                (first_by Own (Lease lease.worker next.block next.quota) [] (λ other. ap (λ w. w == other) own) (λ other else. refl));
            records = λ other grant leased. rows_entry h.lent Own (Some next) other ∙ (λ i. with_entry Recorded (sym own i) (away_rows next.parts) other);
            leases = ap t.0.counts.leases (sym next_own) ∙ t.3.0.leased;
            lent_is = λ other is. subst (λ (k : LeaseValue). IsLent y t.0 Own k) (same_Some next other is)
                record { worker_is = next_own; of_graph = r.of_graph; unused = r.used; given = ap t.0.given (sym next_own) ∙ t.2 };
            copy = λ other is. subst (λ (k : LeaseValue). AtMost v.last k.incumbent) (same_Some next other is) (subst (λ o. AtMost v.last o) (sym (next_incumbent ∙ is_last)) (at_most_self v.last));
            told_is = (λ i. t.5 i Own) ∙ ap (λ w. with_entry h.machine.told w None Own) own ∙ entry_here h.machine.told Own Own None (equal_self Own);
          },
          t.4 ∙ brought 0 lease b,
        )
