-- Two searches by one worker that end otherwise than quietly, as examples that meet the definitions. One goes along three states in one
-- block, with a budget of two expansions and a lot of one: it renews its lease, and ends by the budget while the goal's row is Opened. The
-- other breaks off its first expansion for want of memory.
use Rattle.std.proofs.Common.{◌≡◌, ℕ, zero, suc, ◌+◌, ◌<◌, true, false, ◌==◌, nat_lt, List, [], ◌∷◌, Option, Some, None, refl, sym, ap, arith}
use Rattle.std.proofs.lemmas.Bool.Decides.{nat_tests}
use Rattle.pb_model.specs.declared.row.Estimate.TheVariants.{Cost}
use Rattle.pb_model.specs.declared.row.Status.TheVariants.{Opened}
use Rattle.pb_model.specs.declared.row.Row.{Row}
use Rattle.pb_model.specs.Weight.{Weight}
use Rattle.pb_model.specs.Store.{Store, HasOpened, CostsAtMost}
use Rattle.pb_model.specs.Work.{Work, expand, break_off, store_after, Comes, expansions, opening_store}
use Rattle.pb_model.specs.Local.{merged_store}
use Rattle.pb_machine.specs.Settings.{standard}
use Rattle.pb_machine.specs.declared.event.End.TheVariants.{Budget, Memory}
use Rattle.pb_machine.specs.declared.event.Event.TheVariants.{Lease, Renew, Release, Off, Ended}
use Rattle.pb_machine.specs.Tables.{with_entry}
use Rattle.pb_machine.specs.Counts.{counts_after}
use Rattle.pb_machine.specs.Machine.{Setup, IsSetup, with_incumbent, Machine, opening_machine, lent_store, IsWorked, CameBack, Happens, Move, event_move, Runs}
use Rattle.pb_machine.specs.Lawful.{broken_leases, IsLawful}
use Rattle.pb_machine.proofs.Moments.{opening_keeps, run_keeps}
use Rattle.pb_machine.proofs.MomentLaws.{budget_ends_are_spent, lease_costs_stay_small}

abbrev step : ℕ → ℕ → Option (ℕ × ℕ)
step zero zero = Some (1, 1)
step zero (suc action) = None
step (suc zero) zero = Some (2, 1)
step (suc zero) (suc action) = None
step (suc (suc state)) action = None

abbrev setup : Setup
setup = record {
  space = record { start = 0; is_state = λ state. nat_lt state 3; is_goal = λ state. state == 2; actions = 1; step = step };
  guide = record { estimate = λ state. Cost 0; home = λ state. 0 };
  blocks = record { count = 1; scope = λ block other. nat_lt other 1 };
  settings = record standard { budget = 2; lot = 1; wish = 16 };
  reopenings = 0;
}

one_step : (from action to cost : ℕ) → step from action ≡ Some (to, cost) → (from < 2) × (action ≡ 0) × (to ≡ from + 1) × (cost ≡ 1)
one_step zero zero to cost h =
    let same : ◌≡◌ {A = ℕ × ℕ} (1, 1) (to, cost) = cc in (omega arith, refl, sym (ap (λ (p : ℕ × ℕ). p.0) same), sym (ap (λ (p : ℕ × ℕ). p.1) same))
one_step zero (suc action) to cost h = cc
one_step (suc zero) zero to cost h =
    let same : ◌≡◌ {A = ℕ × ℕ} (2, 1) (to, cost) = cc in (omega arith, refl, sym (ap (λ (p : ℕ × ℕ). p.0) same), sym (ap (λ (p : ℕ × ℕ). p.1) same))
one_step (suc zero) (suc action) to cost h = cc
one_step (suc (suc state)) action to cost h = cc

pub is_setup : IsSetup setup 1
is_setup = record {
  space = record {
    start = refl;
    action = λ from action to cost h. let s = one_step from action to cost h in omega (arith, s.1);
    from_state = λ from action to cost h. let s = one_step from action to cost h in let less = s.0 in grind (arith, nat_tests);
    to_state = λ from action to cost h. let s = one_step from action to cost h in let less = s.0 in let next = s.2 in grind (arith, nat_tests);
    positive = λ from action to cost h. let s = one_step from action to cost h in omega (arith, s.3);
    bounded = λ from action to cost h. let s = one_step from action to cost h in omega (arith, s.3);
  };
  blocks = record {
    home = λ state is. omega arith;
    own = λ block lt. grind (arith, nat_tests);
    known = λ block other in_scope. grind (arith, nat_tests);
    steps = λ from action to cost h. refl;
  };
  weight = record { positive = omega arith; at_least_one = omega arith; small = omega arith };
}

-- ---- by the budget

-- the store of the lease after this work, and the whole store that takes it
abbrev worked : Work → Machine → Store
worked work m = store_after setup.space setup.guide work (lent_store setup 0 m.store (m.given 0))

abbrev back : Work → Machine → Store
back work m = merged_store (setup.blocks.scope 0) (worked work m) m.store

abbrev m0 : Machine
m0 = opening_machine setup

abbrev m1 : Machine
m1 = record m0 { counts = counts_after setup.blocks setup.settings m0.counts (Lease 0 0 1); given = with_entry m0.given 0 None; told = with_entry m0.told 0 None }

abbrev m2 : Machine
m2 = record m1 { counts = counts_after setup.blocks setup.settings m1.counts (Renew 0 1 1); store = back (expand 0) m1; given = with_entry m1.given 0 None; told = with_entry m1.told 0 None; known = with_incumbent m1.known None }

abbrev m3 : Machine
m3 = record m2 { counts = counts_after setup.blocks setup.settings m2.counts (Release 0 1 false); store = back (expand 1) m2; told = with_entry m2.told 0 None; known = with_incumbent m2.known None }

abbrev m4 : Machine
m4 = record m3 { counts = counts_after setup.blocks setup.settings m3.counts (Ended Budget) }

abbrev row_of : (g : ℕ) → (parent : Option ℕ) → Row
row_of g parent = record { g = g; estimate = Cost 0; parent = parent; action = 0; status = Opened }

leased : Happens setup m0 (Lease 0 0 1) m1
leased = record { may = refl; counts = refl; rows = ((0, row_of 0 None, refl, refl), refl, (None, refl, refl), refl, refl, refl) }

renewed : Happens setup m1 (Renew 0 1 1) m2
renewed = record {
  may = refl;
  counts = refl;
  rows = (
    record {
      grant = record { block = 0; quota = 1 };
      worked = worked (expand 0) m1;
      leased = refl;
      work = record { works = expand 0 ∷ []; on = (refl, tt); comes = (((row_of 0 None, refl, refl), refl), refl); used_is = refl; few_broken = omega arith; stops = tt };
      back = refl;
      shown = λ cost (is : ◌≡◌ {A = Option ℕ} None (Some cost)). cc;
    },
    (None, refl, refl),
    refl,
    refl,
    refl,
  );
}

came_back : CameBack setup m2 0 1 0 m3.store
came_back = record {
  grant = record { block = 0; quota = 1 };
  worked = worked (expand 1) m2;
  leased = refl;
  work = record { works = expand 1 ∷ []; on = (refl, tt); comes = (((row_of 1 (Some 0), refl, refl), refl), refl); used_is = refl; few_broken = omega arith; stops = tt };
  back = refl;
  shown = λ cost (is : ◌≡◌ {A = Option ℕ} None (Some cost)). cc;
}

released : Happens setup m2 (Release 0 1 false) m3
released = record { may = refl; counts = refl; rows = (came_back, refl, refl, refl, refl) }

ended : Happens setup m3 (Ended Budget) m4
ended = record { may = refl; counts = refl; rows = ((0, (2, row_of 2 (Some 1), refl, refl)), (refl, refl, refl, refl, refl)) }

abbrev budget_moves : List Move
budget_moves = event_move (Lease 0 0 1) ∷ event_move (Renew 0 1 1) ∷ event_move (Release 0 1 false) ∷ event_move (Ended Budget) ∷ []

pub budget_runs : Runs setup m0 budget_moves m4
budget_runs = (m1, leased, (m2, renewed, (m3, released, (m4, ended, refl))))

lawful_at_budget : IsLawful setup m4
lawful_at_budget = run_keeps setup 1 is_setup budget_moves m0 m4 (opening_keeps setup 1 is_setup refl) budget_runs

-- exactly two expansions lead from an opening store to this one, where a row is Opened
pub budget_is_spent : (weight : Weight) × (works : List Work) × Comes setup.space setup.guide works (opening_store setup.space setup.guide weight) m4.store × (expansions works ≡ 2)
    × ((block : ℕ) × HasOpened (m4.store.rows block))
budget_is_spent = let done = budget_ends_are_spent setup 1 m4 is_setup lawful_at_budget refl in (done.0, done.1, done.3, done.4, done.9)

-- ---- for want of memory

abbrev n2 : Machine
n2 = record m1 {
  counts = counts_after setup.blocks setup.settings m1.counts (Release 0 0 true);
  store = back (break_off 0 0) m1;
  told = with_entry m1.told 0 None;
  known = with_incumbent m1.known None;
  broken = with_entry m1.broken 0 true;
}

abbrev n3 : Machine
n3 = record n2 { counts = counts_after setup.blocks setup.settings n2.counts (Ended Memory) }

abbrev n4 : Machine
n4 = record n3 { counts = counts_after setup.blocks setup.settings n3.counts (Off 0 false) }

broken_work : IsWorked setup.space setup.guide 0 0 1 (m1.known 0) (lent_store setup 0 m1.store (m1.given 0)) (worked (break_off 0 0) m1)
broken_work = record { works = break_off 0 0 ∷ []; on = (refl, tt); comes = (((row_of 0 None, refl, refl), refl, omega arith), refl); used_is = refl; few_broken = omega arith; stops = refl }

broke_off : Happens setup m1 (Release 0 0 true) n2
broke_off = record {
  may = refl;
  counts = refl;
  rows = (
    record {
      grant = record { block = 0; quota = 1 };
      worked = worked (break_off 0 0) m1;
      leased = refl;
      work = broken_work;
      back = refl;
      shown = λ cost (is : ◌≡◌ {A = Option ℕ} None (Some cost)). cc;
    },
    refl,
    refl,
    refl,
    refl,
  );
}

abbrev memory_moves : List Move
memory_moves = event_move (Lease 0 0 1) ∷ event_move (Release 0 0 true) ∷ event_move (Ended Memory) ∷ event_move (Off 0 false) ∷ []

pub memory_runs : Runs setup m0 memory_moves n4
memory_runs = (
  m1,
  leased,
  (
    n2,
    broke_off,
    (
      n3,
      record { may = refl; counts = refl; rows = (refl, refl, refl, refl, refl) },
      (n4, record { may = refl; counts = refl; rows = (refl, refl, refl, refl, refl) }, refl),
    ),
  ),
)

pub lawful_at_memory : IsLawful setup n4
lawful_at_memory = run_keeps setup 1 is_setup memory_moves m0 n4 (opening_keeps setup 1 is_setup refl) memory_runs

one_broken : broken_leases setup n4 ≡ 1
one_broken = refl

-- no g of the lease, as it broke off, exceeds that of the budget's two expansions and a broken one
pub broken_costs_small : CostsAtMost (worked (break_off 0 0) m1) 3
broken_costs_small =
    lease_costs_stay_small setup 1 m1 0 0 1 (m1.known 0) (record { block = 0; quota = 1 }) (worked (break_off 0 0) m1) is_setup
    (run_keeps setup 1 is_setup (event_move (Lease 0 0 1) ∷ []) m0 m1 (opening_keeps setup 1 is_setup refl) (m1, leased, refl)) refl broken_work (omega arith)
