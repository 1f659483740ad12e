-- What a mark leaves as it was.
use Rattle.std.proofs.Common.{◌≡◌, ◌↔◌, ℕ, ◌-◌, ◌≤◌, Bool, true, IsTrue, IsFalse, IfSome, IfNone, [], ◌∷◌, Option, Some, None, refl, sym, ap, ◌∙◌, arith, subst, inl, inr}
use Rattle.pb_model.specs.Store.{Rows, Store}
use Rattle.pb_model.proofs.Callers.{by_cases, equal_self}
use Rattle.pb_machine.specs.declared.event.Event.TheVariants.{Hot}
use Rattle.pb_machine.specs.Counts.{Counts}
use Rattle.pb_machine.specs.Blocks.{interferes}
use Rattle.pb_machine.specs.Choice.{IsRival}
use Rattle.pb_machine.specs.Machine.{Machine}
use Rattle.pb_machine.proofs.Callers.{entry_here}
use Rattle.pb_bundles.specs.Homes.{key_at}
use Rattle.pb_bundles.specs.Choosing.{IsRivalBy}
use Rattle.pb_lease.specs.Tables.{blocks, rooms}
use Rattle.pb_lease.specs.LeaseValue.{LeaseValue}
use Rattle.pb_lease.specs.Leased.{IsOutInTurns}
use Rattle.pb_lease.specs.GraphValue.{GraphValue, setup_in, counts_in}
use Rattle.pb_lease.specs.Choices.{MayMark}
use Rattle.pb_lease.specs.Moments.{IsMoment}
use Rattle.pb_lease.specs.Steps.{IsMarked, KeepsLeases}
use Rattle.pb_lease.proofs.Callers.{keeps_in_order}
use Rattle.pb_yard.proofs.Callers.{in_time_events}
use Rattle.pb_workers.specs.Runs.{IsSameSearch, RunsTo}
use Rattle.pb_workers.specs.Holding.{MarksWhereMay, MarksRival, IsMarkedAtMost, IsToldRival}
use Rattle.pb_machine.specs.History.{events_of}
use Rattle.pb_yard.specs.Marking.{Turn, turn_with}
use Rattle.pb_workers.specs.Turns.{HasTurn, MayEnd}
use Rattle.pb_workers.proofs.Turns.{own, one_more, journal_more}
use Rattle.pb_workers.proofs.Going.{run_none, run_one}

module _ (old : GraphValue) (worker : ℕ) (new : GraphValue) where
  by_mark : {A : Type 0} (of : GraphValue → A) → ((block : ℕ) → IsMarked old worker (Hot worker block) new → of new ≡ of old) → IsMarkedAtMost old worker new → of new ≡ of old
  by_mark of marked (inl e) = ap of e
  by_mark of marked (inr m) = marked m.0 m.1

  pub marked_same : IsMarkedAtMost old worker new → IsSameSearch old new
  marked_same m = record {
    task = by_mark (λ v. v.task) (λ block is. ap (λ (v : GraphValue). v.task) is.rest) m;
    abstraction = by_mark (λ v. v.table.abstraction) (λ block is. is.events.abstraction) m;
    choice = by_mark (λ v. v.choice) (λ block is. ap (λ (v : GraphValue). v.choice) is.rest) m;
    settings = by_mark (λ v. v.table.settings) (λ block is. is.events.settings) m;
    past = by_mark (λ v. v.table.past) (λ block is. is.events.past) m;
  }

  pub marked_homes : IsMarkedAtMost old worker new → new.homes ≡ old.homes
  marked_homes = by_mark (λ v. v.homes) (λ block is. ap (λ (v : GraphValue). v.homes) is.rest)

  pub marked_leases : IsMarkedAtMost old worker new → (counts_in new).leases ≡ (counts_in old).leases
  marked_leases = by_mark (λ v. (counts_in v).leases) (λ block is. ap (λ (c : Counts). c.leases) is.events.counts)

  pub marked_signed : IsMarkedAtMost old worker new → (counts_in new).signed_off ≡ (counts_in old).signed_off
  marked_signed = by_mark (λ v. (counts_in v).signed_off) (λ block is. ap (λ (c : Counts). c.signed_off) is.events.counts)

  pub marked_left : IsMarkedAtMost old worker new → new.table.left ≡ old.table.left
  marked_left = by_mark (λ v. v.table.left) (λ block is. ap (λ (c : Counts). c.left) is.events.counts)

  pub marked_end : IsMarkedAtMost old worker new → new.table.end ≡ old.table.end
  marked_end = by_mark (λ v. v.table.end) (λ block is. ap (λ (c : Counts). c.end) is.events.counts)

  pub marked_room : IsMarkedAtMost old worker new → rooms new.table worker ≤ rooms old.table worker
  marked_room (inl e) = let same : rooms new.table worker ≡ rooms old.table worker = ap (λ (v : GraphValue). rooms v.table worker) e in omega (arith, same)
  marked_room (inr m) =
      let less : rooms new.table worker ≡ rooms old.table worker - 1 =
      ap (λ (f : ℕ → ℕ). f worker) m.1.room ∙ entry_here (rooms old.table) worker worker (rooms old.table worker - 1) (equal_self worker) in
      omega (arith, less)

  -- a run that keeps the leases that are out
  abbrev pub RunsAlong : (recorded : (worker : ℕ) → Rows) → Machine → Type 0
  RunsAlong recorded machine = (next : Machine) × RunsTo old machine new recorded next
      × ((lease : LeaseValue) (most_broken : ℕ) → IsOutInTurns (setup_in old) machine most_broken lease → IsOutInTurns (setup_in new) next most_broken lease)

  pub marked_runs : IsMarkedAtMost old worker new → (recorded : (worker : ℕ) → Rows) (machine : Machine) → IsMoment old recorded machine → RunsAlong recorded machine
  marked_runs (inl e) recorded machine m = as_it_was new e
    where
      as_it_was : (v : GraphValue) → v ≡ old → (next : Machine) × RunsTo old machine v recorded next
          × ((lease : LeaseValue) (most_broken : ℕ) → IsOutInTurns (setup_in old) machine most_broken lease → IsOutInTurns (setup_in v) next most_broken lease)
      as_it_was v same = (
        machine,
        subst (λ (u : GraphValue). RunsTo old machine u recorded machine) (sym same) (run_none old recorded machine m),
        λ lease most_broken out. subst (λ (u : GraphValue). IsOutInTurns (setup_in u) machine most_broken lease) (sym same) out,
      )
  marked_runs (inr mark) recorded machine m =
      let step = keeps_in_order old (Hot worker mark.0 ∷ []) new mark.2 (ap (λ (v : GraphValue). v.incumbent) mark.1.rest) recorded machine m in
      (step.0, run_one old machine (Hot worker mark.0 ∷ []) new recorded step.0 step.1 (in_time_events (setup_in old) (rooms old.table) (Hot worker mark.0 ∷ []) machine step.0 tt step.1.moves) (sym mark.1.room) mark.1.events.journal, step.2)

-- the worker's turn, whose quota is used up, with the mark or without
pub marked_turn : (old : GraphValue) (worker : ℕ) (new : GraphValue) → IsMarkedAtMost old worker new → (same : ℕ) → worker ≡ same → (quota used : ℕ) → used ≡ quota → HasTurn old same (turn_with quota)
    → (turn : Turn) × HasTurn new same turn × MayEnd turn used 0
marked_turn old worker new (inl e) same is quota used spent before = (turn_with quota, subst (λ (g : GraphValue). HasTurn g same (turn_with quota)) (sym e) before, inl refl)
marked_turn old worker new (inr mark) same is quota used spent before = (
  record { quota = quota; marked = true },
  journal_more old.table.journal new.table.journal same (Hot worker mark.0 ∷ []) mark.1.events.journal
      ∙ one_more (events_of same old.table.journal) same (turn_with quota) before (Hot worker mark.0) [] (own worker same is) refl,
  inr (spent, refl),
)

-- what a mark by this worker answers
module _ (old : GraphValue) (worker called rival : ℕ) (new : GraphValue) (result : Bool) (by : called ≡ worker) (answer : IsTrue result ↔ MayMark old called rival)
    (marked : IsTrue result → IsMarked old called (Hot called rival) new) (refused : IsFalse result → new ≡ old) where
  pub marks_where_may : MarksWhereMay old worker rival new
  marks_where_may = subst (λ w. MarksWhereMay old w rival new) by (record {
    may = λ may. marked (answer.1 may);
    may_not = λ none. refused (by_cases result (λ e. absurd (none (answer.0 e))) (λ e. e));
  })

  pub marked_at_most : (IsTrue result → KeepsLeases old (Hot called rival ∷ []) new) → IsMarkedAtMost old worker new
  marked_at_most keeps = subst (λ w. IsMarkedAtMost old w new) by (by_cases result (λ e. inr (rival, marked e, keeps e)) (λ e. inl (refused e)))

-- ---- the rival that a graph told

module _ (g : GraphValue) (lease : LeaseValue) (store : Store) where
  pub told_some : (o : Option ℕ) → IsRivalBy (interferes (blocks g.table) lease.block) (key_at g.homes) lease.block o → IsRival (blocks g.table) store lease.block o → IfSome o (λ rival. IsToldRival g lease rival g)
  told_some None by is = tt
  told_some (Some rival) by is = record { rival_is = by; known = is.0.known; same = refl }

pub told_none : (g : GraphValue) (lease : LeaseValue) (o : Option ℕ) → IsRivalBy (interferes (blocks g.table) lease.block) (key_at g.homes) lease.block o → IfNone o (MarksRival g lease g)
told_none g lease None by = inl (by, refl)
told_none g lease (Some rival) by = tt
