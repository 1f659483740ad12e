-- Leases of a worker that searches alone, and how near the search is to its end.
use Rattle.std.proofs.Common.{◌≡◌, ℕ, ◌+◌, ◌-◌, ◌*◌, ◌<◌, ◌≤◌, min, Bool, true, false, if◌then◌else◌, ◌||◌, is_some, List, [], ◌∷◌, ◌++◌, Option, Some, None, refl, sym, ap, ◌∙◌, arith, subst, true≢false, get_or, inl, inr}
use Rattle.pb_model.specs.declared.key.Key.{Key}
use Rattle.pb_model.proofs.Callers.{none_found}
use Rattle.pb_machine.specs.declared.event.End.{End}
use Rattle.pb_machine.specs.declared.event.Event.TheVariants.{Lease}
use Rattle.pb_machine.specs.Tables.{with_entry, any_below, count_below, one_if}
use Rattle.pb_machine.specs.Counts.{Counts}
use Rattle.pb_machine.proofs.Callers.{any_none, one_small, sum_small}
use Rattle.pb_abstract.specs.Graph.{AbstractGraph, blocks_of}
use Rattle.pb_bundles.specs.Parts.{away_rows}
use Rattle.pb_bundles.specs.Homes.{key_at}
use Rattle.pb_lease.specs.Tables.{blocks, rooms}
use Rattle.pb_lease.specs.Events.{counts_along}
use Rattle.pb_lease.specs.LeaseValue.{LeaseValue}
use Rattle.pb_lease.specs.GraphValue.{GraphValue, setup_in, counts_in}
use Rattle.pb_lease.specs.Choices.{is_out_in, IsOver}
use Rattle.pb_lease.specs.Steps.{IsLeased, LeasesNext, IsEnded, KeepsLeases, end_events}
use Rattle.pb_lease.proofs.Callers.{passes_from, leases_in_order}
use Rattle.pb_yard.proofs.Callers.{in_time_one, end_grants_none, end_rooms, plain_timely}
use Rattle.pb_workers.specs.Runs.{IsSameSearch, IsAnyMoment, RunsOn}
use Rattle.pb_workers.specs.Holding.{IsHeld, RunsHome, left_with, opened_blocks, IsNearer, GoesOnTo}
use Rattle.pb_machine.specs.History.{events_of}
use Rattle.pb_yard.specs.Marking.{no_turn, turn_with}
use Rattle.pb_workers.specs.Turns.{HasTurn}
use Rattle.pb_workers.proofs.Turns.{end_none, one_more, none_more, journal_more}
use Rattle.pb_workers.proofs.Going.{run_one, run_then, run_home, on_then, keeping_runs}
use Rattle.pb_workers.proofs.GoingOn.{goes_from}

-- ---- one worker

module _ (g : GraphValue) (alone : g.table.settings.workers ≡ 1) where
  pub alone_vacant : is_out_in g ≡ false → (counts_in g).leases 0 ≡ None
  alone_vacant home = none_found ((counts_in g).leases 0) (any_none g.table.settings.workers 0 (λ worker. is_some ((counts_in g).leases worker)) home (omega (arith, alone)))

  pub alone_home : (counts_in g).leases 0 ≡ None → is_out_in g ≡ false
  alone_home vacant = subst (λ n. any_below n (λ worker. is_some ((counts_in g).leases worker)) ≡ false) (sym alone) (ap (λ o. is_some o || false) vacant)

-- ---- a lease

module _ (old : GraphValue) (worker : ℕ) (lease : LeaseValue) (new : GraphValue) (l : IsLeased old worker lease new) where
  pub leased_same : IsSameSearch old new
  leased_same = record { task = l.task; abstraction = l.events.abstraction; choice = l.choice; settings = l.events.settings; past = l.events.past }

  pub none_ended : old.table.end ≡ None
  none_ended = (passes_from (blocks old.table) old.table.settings (counts_in old) lease.block l.first.0.0).3

  pub leased_signed : (counts_in new).signed_off ≡ (counts_in old).signed_off
  leased_signed = ap (λ (c : Counts). c.signed_off) l.events.counts

  pub leased_left : left_with new lease ≡ old.table.left
  leased_left =
      let left : new.table.left ≡ old.table.left - lease.quota = ap (λ (c : Counts). c.left) l.events.counts in
      let quota : lease.quota ≡ min old.table.settings.lot old.table.left = l.quota in
      let low : lease.quota ≤ old.table.left = grind arith in
      omega (arith, left, low)

  pub leased_opened : opened_blocks new ≡ opened_blocks old
  leased_opened = λ i. count_below (blocks_of (l.events.abstraction i)).count (λ block. is_some (get_or (l.keys i) block None))

  leased_held : LeasesNext old lease new → IsAnyMoment old → IsHeld new lease
  leased_held next any =
      let step = leases_in_order old lease new next l.incumbent any.0 any.1 any.2 in
      record {
        of_graph = l.of_graph;
        no_end = ap (λ (c : Counts). c.end) l.events.counts ∙ none_ended;
        opened = ap (λ (keys : List (Option Key)). is_some (get_or keys lease.block None)) l.keys ∙ l.first.0.1;
        recorded = with_entry any.0 lease.worker (away_rows lease.parts);
        machine = step.0;
        moment = step.1.moment;
        out = step.3;
      }

  pub leased_on : LeasesNext old lease new → IsAnyMoment old → GoesOnTo new lease new lease
  leased_on next any = goes_from new lease (leased_held next any)

-- a lease that was given begins a turn, and its return ends it
pub leased_turn : (old mid new : GraphValue) (lease : LeaseValue) → IsLeased old 0 lease mid → (HasTurn mid lease.worker (turn_with lease.quota) → HasTurn new lease.worker no_turn) → HasTurn old 0 no_turn → HasTurn new 0 no_turn
leased_turn old mid new lease l goes before =
    subst (λ w. HasTurn new w no_turn) l.worker_is (goes (subst (λ w. HasTurn mid w (turn_with lease.quota)) (sym l.worker_is)
    (journal_more old.table.journal mid.table.journal 0 (Lease 0 lease.block lease.quota ∷ []) l.events.journal
    ∙ one_more (events_of 0 old.table.journal) 0 no_turn before (Lease 0 lease.block lease.quota) [] refl refl)))

-- a lease that came back: it is the same search, and a run from before the lease
pub leased_runs : (first old mid new : GraphValue) (worker : ℕ) (lease : LeaseValue) → IsLeased old worker lease mid → LeasesNext old lease mid → RunsHome mid lease new → IsSameSearch first old
    → is_out_in new ≡ false → RunsOn first old → RunsOn first new
leased_runs first old mid new worker lease l next back same home before recorded machine m =
    let a = before recorded machine m in
    let b = leases_in_order old lease mid next l.incumbent recorded a.0 a.1.moment in
    let after = with_entry recorded lease.worker (away_rows lease.parts) in
    let c = back after b.0 b.1.moment b.3 in
    let leased = run_one old a.0 (Lease lease.worker lease.block lease.quota ∷ []) mid after b.0 b.1
    (in_time_one (setup_in old) (rooms old.table) (Lease lease.worker lease.block lease.quota) a.0 b.0 (b.2 ∙ l.lent_incumbent ∙ sym l.incumbent ∙ sym b.1.moment.incumbent) tt b.1.moves)
    (subst (λ w. with_entry (rooms old.table) w 63 ≡ rooms mid.table) (sym l.worker_is) (sym l.room))
    (subst (λ w. mid.table.journal ≡ old.table.journal ++ Lease w lease.block lease.quota ∷ []) (sym l.worker_is) l.events.journal) in (
      c.1,
      run_then first old new machine a.0 c.1 recorded recorded same a.1
          (run_home old a.0 new c.0 recorded c.1 home (run_then old mid new a.0 b.0 c.1 after c.0 (leased_same old worker lease mid l) leased c.2)),
    )

-- ---- how near the end is

-- nothing once an end stands; before that, by what is left of the budget, and then by how many blocks have an Opened row
abbrev pub distance : GraphValue → ℕ
distance g = if is_some g.table.end then 0 else 1 + (g.table.left * (1 + (blocks g.table).count) + opened_blocks g)

opened_fit : (g : GraphValue) → opened_blocks g ≤ (blocks g.table).count
opened_fit g = sum_small (blocks g.table).count (λ block. one_if (is_some (key_at g.homes block))) (λ block. one_small (is_some (key_at g.homes block)))

less_left : (left other n x y : ℕ) → left < other → x < n → left * n + x < other * n + y
less_left left other n x y less fits = let more : (left + 1) * n ≤ other * n = grind arith in grind arith

-- the end comes nearer with each lease
pub comes_nearer : (old mid new : GraphValue) (worker : ℕ) (lease : LeaseValue) → IsLeased old worker lease mid → IsSameSearch mid new → IsNearer mid lease new → distance new < distance old
comes_nearer old mid new worker lease l same near =
    subst (λ b. distance new < (if b then 0 else 1 + (old.table.left * (1 + (blocks old.table).count) + opened_blocks old))) (sym (ap is_some (none_ended old worker lease mid l))) (go (is_some new.table.end) refl near)
  where
    count_is : (blocks new.table).count ≡ (blocks old.table).count
    count_is = ap (λ (a : AbstractGraph). (blocks_of a).count) (same.abstraction ∙ l.events.abstraction)

    go : (b : Bool) → is_some new.table.end ≡ b → IsNearer mid lease new
        → (if b then 0 else 1 + (new.table.left * (1 + (blocks new.table).count) + opened_blocks new)) < 1 + (old.table.left * (1 + (blocks old.table).count) + opened_blocks old)
    go true e h = omega arith
    go false e (inl ended) = absurd (true≢false (sym ended ∙ e))
    go false e (inr (inl less)) =
        let left = leased_left old worker lease mid l in
        let lower : new.table.left < old.table.left = omega (arith, less, left) in
        let fits = opened_fit new in
        let sums = less_left new.table.left old.table.left (1 + (blocks new.table).count) (opened_blocks new) (opened_blocks old) lower (omega (arith, fits)) in
        subst (λ n. 1 + (new.table.left * (1 + (blocks new.table).count) + opened_blocks new) < 1 + (old.table.left * (1 + n) + opened_blocks old)) count_is (omega (arith, sums))
    go false e (inr (inr equal)) =
        let left : new.table.left ≡ old.table.left = equal.0 ∙ leased_left old worker lease mid l in
        let fewer = equal.1 in
        let opened = leased_opened old worker lease mid l in
        let product : new.table.left * (1 + (blocks new.table).count) ≡ old.table.left * (1 + (blocks old.table).count) = (λ i. left i * (1 + count_is i)) in
        omega (arith, fewer, opened, product)

-- ---- an end

module _ (old : GraphValue) (end : End) (new : GraphValue) (e : IsEnded old end new) where
  end_same : {A : Type 0} (of : Counts → A) → ((c : Counts) → of (record c { end = Some end; trouble = false }) ≡ of c) → of (counts_in new) ≡ of (counts_in old)
  end_same of same = ap of e.events.counts ∙ go old.table.end
    where
      go : (o : Option End) → of (counts_along (blocks old.table) old.table.settings (counts_in old) (end_events o end)) ≡ of (counts_in old)
      go None = same (counts_in old)
      go (Some standing) = refl

  pub ended_same : IsSameSearch old new
  ended_same = record { task = ap (λ (v : GraphValue). v.task) e.rest; abstraction = e.events.abstraction; choice = ap (λ (v : GraphValue). v.choice) e.rest; settings = e.events.settings; past = e.events.past }

  pub ended_leases : (counts_in new).leases ≡ (counts_in old).leases
  ended_leases = end_same (λ c. c.leases) (λ c. refl)

  pub ended_signed : (counts_in new).signed_off ≡ (counts_in old).signed_off
  ended_signed = end_same (λ c. c.signed_off) (λ c. refl)

  pub ended_runs : (first : GraphValue) → IsSameSearch first old → RunsOn first old → KeepsLeases old (end_events old.table.end end) new → RunsOn first new
  ended_runs first same before keeps = on_then first old new same before (keeping_runs old (end_events old.table.end end) new (plain_timely old (end_events old.table.end end) (end_grants_none old.table.end end)) (end_rooms (rooms old.table) old.table.end end ∙ sym e.room) keeps (ap (λ (v : GraphValue). v.incumbent) e.rest) e.events.journal)

pub ended_turn : (old : GraphValue) (end : End) (new : GraphValue) → IsEnded old end new → HasTurn old 0 no_turn → HasTurn new 0 no_turn
ended_turn old end new e before = journal_more old.table.journal new.table.journal 0 (end_events old.table.end end) e.events.journal
    ∙ none_more (events_of 0 old.table.journal) 0 (end_events old.table.end end) (end_none 0 old.table.end end) ∙ before

-- no end stands where the search isn't over
pub none_stands : (g : GraphValue) → ((end : End) → IsOver g end → ⊥) → g.table.end ≡ None
none_stands g none = go g.table.end refl
  where
    go : (o : Option End) → g.table.end ≡ o → o ≡ None
    go None e = refl
    go (Some end) e = absurd (none end (inl e))
