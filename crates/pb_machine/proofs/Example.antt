-- A search of two states by one worker, as an example that meets the definitions: each state is a block of its own, and the one action
-- leads from the start to the goal. The worker leases the start's block and expands it, leases the goal's block, takes the goal and tells
-- its cost, brings the lease back, and the search ends quietly.
use Rattle.std.proofs.Common.{◌≡◌, ℕ, zero, suc, ◌<◌, ◌≤◌, Bool, false, ◌==◌, nat_lt, [], ◌∷◌, Option, Some, None, refl, sym, ap, ◌∙◌, arith, ◌⊎◌, inl}
use Rattle.std.proofs.lemmas.Bool.Decides.{nat_tests}
use Rattle.pb_model.specs.declared.row.Estimate.TheVariants.{Cost}
use Rattle.pb_model.specs.declared.row.Status.TheVariants.{Opened, Closed, Cut}
use Rattle.pb_model.specs.declared.row.Row.{Row}
use Rattle.pb_model.specs.Store.{Store, HasOpened, IsQuiet}
use Rattle.pb_model.specs.Key.{IsFirstRow}
use Rattle.pb_model.specs.Work.{Work, expand, take_goal, store_after}
use Rattle.pb_model.specs.Local.{merged_store}
use Rattle.pb_machine.specs.Settings.{standard}
use Rattle.pb_machine.specs.declared.event.End.TheVariants.{Quiet}
use Rattle.pb_machine.specs.declared.event.Event.{Event}
use Rattle.pb_machine.specs.declared.event.Event.TheVariants.{Lease, Release, Off, Ended}
use Rattle.pb_machine.specs.Tables.{with_entry}
use Rattle.pb_machine.specs.Counts.{counts_after}
use Rattle.pb_machine.specs.Machine.{Setup, IsSetup, with_known, with_incumbent, Machine, opening_machine, lent_store, CameBack, Happens, Tells, event_move, tell_move, switch_move, Runs}
use Rattle.pb_machine.specs.Choice.{IsBetter, IsFirstChoice, counts_with_lease_home}
use Rattle.pb_machine.specs.Turns.{CameBackInTurns, RunsInOrder}
use Rattle.pb_machine.specs.Lawful.{IsLawful}
use Rattle.pb_machine.proofs.Moments.{opening_keeps, run_keeps, sound_after}
use Rattle.pb_model.proofs.Callers.{some_row, below, some_number}

abbrev step : ℕ → ℕ → Option (ℕ × ℕ)
step zero zero = Some (1, 1)
step zero (suc action) = None
step (suc state) action = None

abbrev setup : Setup
setup = record {
  space = record { start = 0; is_state = λ state. nat_lt state 2; is_goal = λ state. state == 1; actions = 1; step = step };
  guide = record { estimate = λ state. Cost 0; home = λ state. state };
  blocks = record { count = 2; scope = λ block other. nat_lt other 2 };
  settings = record standard { budget = 10; lot = 5; wish = 16 };
  reopenings = 0;
}

one_step : (from action to cost : ℕ) → step from action ≡ Some (to, cost) → (from ≡ 0) × (action ≡ 0) × (to ≡ 1) × (cost ≡ 1)
one_step zero zero to cost h =
    let same : ◌≡◌ {A = ℕ × ℕ} (1, 1) (to, cost) = cc in (refl, refl, sym (ap (λ (p : ℕ × ℕ). p.0) same), sym (ap (λ (p : ℕ × ℕ). p.1) same))
one_step zero (suc action) to cost h = cc
one_step (suc state) action to cost h = cc

pub is_setup : IsSetup setup 1
is_setup = record {
  space = record {
    start = refl;
    action = λ from action to cost h. let s = one_step from action to cost h in omega (arith, s.1);
    from_state = λ from action to cost h. let s = one_step from action to cost h in ap (λ n. nat_lt n 2) s.0;
    to_state = λ from action to cost h. let s = one_step from action to cost h in ap (λ n. nat_lt n 2) s.2;
    positive = λ from action to cost h. let s = one_step from action to cost h in omega (arith, s.3);
    bounded = λ from action to cost h. let s = one_step from action to cost h in omega (arith, s.3);
  };
  blocks = record {
    home = λ state is. grind (arith, nat_tests);
    own = λ block lt. grind (arith, nat_tests);
    known = λ block other in_scope. grind (arith, nat_tests);
    steps = λ from action to cost h. let s = one_step from action to cost h in ap (λ n. nat_lt n 2) s.2;
  };
  weight = record { positive = omega arith; at_least_one = omega arith; small = omega arith };
}

-- ---- the machine after each event

-- what is known after an event: a release adds the incumbent
abbrev known_after : Machine → Event → Store → ℕ → Option ℕ → Bool
known_after m (Release worker used memory) store = with_incumbent m.known store.incumbent
known_after m event store = m.known

abbrev after : Machine → Event → Store → (given : ℕ → Option ℕ) → Machine
after m event store given = record { counts = counts_after setup.blocks setup.settings m.counts event; store = store; given = given; told = with_entry m.told 0 None; known = known_after m event store; broken = m.broken }

-- the store of the block's lease after this work
abbrev worked : Work → (block : ℕ) → Machine → Store
worked work block m = store_after setup.space setup.guide work (lent_store setup block m.store (m.given 0))

abbrev back : Work → (block : ℕ) → Machine → Store
back work block m = merged_store (setup.blocks.scope block) (worked work block m) m.store

abbrev m0 : Machine
m0 = opening_machine setup

abbrev m1 : Machine
m1 = after m0 (Lease 0 0 5) m0.store (with_entry m0.given 0 m0.store.incumbent)

abbrev m2 : Machine
m2 = after m1 (Release 0 1 false) (back (expand 0) 0 m1) m1.given

abbrev m3 : Machine
m3 = after m2 (Lease 0 1 5) m2.store (with_entry m2.given 0 m2.store.incumbent)

abbrev told : Machine
told = record m3 { store = record m3.store { incumbent = Some 1 }; told = with_entry m3.told 0 (Some 1); known = with_incumbent (with_entry m3.known 0 (with_known (m3.known 0) (Some 1))) (Some 1) }

abbrev m4 : Machine
m4 = after told (Release 0 0 false) (back (take_goal 1) 1 told) told.given

abbrev m5 : Machine
m5 = record m4 { counts = counts_after setup.blocks setup.settings m4.counts (Ended Quiet) }

abbrev m6 : Machine
m6 = record m5 { counts = counts_after setup.blocks setup.settings m5.counts (Off 0 false) }

abbrev start_row : Row
start_row = record { g = 0; estimate = Cost 0; parent = None; action = 0; status = Opened }

abbrev goal_row : Row
goal_row = record { g = 1; estimate = Cost 0; parent = Some 0; action = 0; status = Opened }

leased_start : Happens setup m0 (Lease 0 0 5) m1
leased_start = record { may = refl; counts = refl; rows = ((0, start_row, refl, refl), refl, (None, refl, refl), refl, refl, refl) }

came_from_start : CameBack setup m1 0 1 0 m2.store
came_from_start = record {
  grant = record { block = 0; quota = 5 };
  worked = worked (expand 0) 0 m1;
  leased = refl;
  work = record { works = expand 0 ∷ []; on = (refl, tt); comes = (((start_row, refl, refl), refl), refl); used_is = refl; few_broken = omega arith; stops = tt };
  back = refl;
  shown = λ cost (is : ◌≡◌ {A = Option ℕ} None (Some cost)). cc;
}

expanded_start : Happens setup m1 (Release 0 1 false) m2
expanded_start = record { may = refl; counts = refl; rows = (came_from_start, refl, refl, refl, refl) }

leased_goal : Happens setup m2 (Lease 0 1 5) m3
leased_goal = record { may = refl; counts = refl; rows = ((1, goal_row, refl, refl), refl, (None, refl, refl), refl, refl, refl) }

told_cost : Tells setup m3 0 1 told
told_cost = record {
  grant = record { block = 1; quota = 5 };
  leased = refl;
  used = 0;
  worked = worked (take_goal 1) 1 m3;
  work = record { works = take_goal 1 ∷ []; on = (refl, tt); comes = (((goal_row, refl, refl), refl), refl); used_is = refl; few_broken = omega arith; stops = tt };
  shown = (1, refl, (record goal_row { status = Cut }, refl, omega arith));
  counts = refl;
  store = refl;
  given = refl;
  told = refl;
  known = refl;
  broken = refl;
}

pub one_told : (cost : ℕ) → ◌≡◌ {A = Option ℕ} (Some 1) (Some cost) → 1 ≤ cost
one_told cost is = let same = some_number 1 cost is in omega arith

came_from_goal : CameBack setup told 0 0 0 m4.store
came_from_goal = record {
  grant = record { block = 1; quota = 5 };
  worked = worked (take_goal 1) 1 told;
  leased = refl;
  work = record { works = take_goal 1 ∷ []; on = (refl, tt); comes = (((goal_row, refl, refl), refl), refl); used_is = refl; few_broken = omega arith; stops = tt };
  back = refl;
  shown = λ cost is. (1, refl, (record goal_row { status = Cut }, refl, one_told cost is));
}

took_goal : Happens setup told (Release 0 0 false) m4
took_goal = record { may = refl; counts = refl; rows = (came_from_goal, refl, refl, refl, refl) }

lawful : IsLawful setup m4
lawful = run_keeps setup 1 is_setup (event_move (Lease 0 0 5) ∷ event_move (Release 0 1 false) ∷ event_move (Lease 0 1 5) ∷ tell_move 0 1 ∷ event_move (Release 0 0 false) ∷ []) m0 m4 (opening_keeps setup 1 is_setup refl)
    (m1, leased_start, (m2, expanded_start, (m3, leased_goal, (told, told_cost, (m4, took_goal, refl)))))

-- no row is Opened at the end: that of the start is Closed, and that of the goal is Cut
quiet_at : (home state : ℕ) (row : Row) → home ≡ state → state < 2 → m4.store.rows home state ≡ Some row → row.status ≡ Opened → ⊥
quiet_at home zero row e lt found opened =
    let is : ◌≡◌ {A = Option Row} (Some (record start_row { status = Closed })) (Some row) = ap (λ h. m4.store.rows h 0) (sym e) ∙ found in
    let bad : Closed ≡ Opened = ap (λ (r : Row). r.status) (some_row (record start_row { status = Closed }) row is) ∙ opened in cc
quiet_at home (suc zero) row e lt found opened =
    let is : ◌≡◌ {A = Option Row} (Some (record goal_row { status = Cut })) (Some row) = ap (λ h. m4.store.rows h 1) (sym e) ∙ found in
    let bad : Cut ≡ Opened = ap (λ (r : Row). r.status) (some_row (record goal_row { status = Cut }) row is) ∙ opened in cc
quiet_at home (suc (suc state)) row e lt found opened = absurd (omega arith)

quiet : IsQuiet m4.store
quiet home (state, row, found, opened) =
    let at = (sound_after setup 1 is_setup m4 lawful).0.place home state row found in
    quiet_at home state row at.0 (below state 2 at.1) found opened

pub example_runs : Runs setup m0 (event_move (Lease 0 0 5) ∷ event_move (Release 0 1 false) ∷ event_move (Lease 0 1 5) ∷ tell_move 0 1 ∷ event_move (Release 0 0 false) ∷ event_move (Ended Quiet) ∷ event_move (Off 0 false) ∷ []) m6
example_runs = (
  m1,
  leased_start,
  (
    m2,
    expanded_start,
    (
      m3,
      leased_goal,
      (
        told,
        told_cost,
        (
          m4,
          took_goal,
          (
            m5,
            record { may = refl; counts = refl; rows = (quiet, (refl, refl, refl, refl, refl)) },
            (m6, record { may = refl; counts = refl; rows = (refl, refl, refl, refl, refl) }, refl),
          ),
        ),
      ),
    ),
  ),
)

-- and the incumbent is the cost of the one plan
pub example_incumbent : m6.store.incumbent ≡ Some 1
example_incumbent = refl

-- ---- the search runs in order: each lease is of the first choice, and takes its block's rows best first

lawful_start : IsLawful setup m0
lawful_start = opening_keeps setup 1 is_setup refl

lawful_first : IsLawful setup m1
lawful_first = run_keeps setup 1 is_setup (event_move (Lease 0 0 5) ∷ []) m0 m1 lawful_start (m1, leased_start, refl)

lawful_between : IsLawful setup m2
lawful_between = run_keeps setup 1 is_setup (event_move (Release 0 1 false) ∷ []) m1 m2 lawful_first (m2, expanded_start, refl)

lawful_told : IsLawful setup told
lawful_told = run_keeps setup 1 is_setup (event_move (Lease 0 1 5) ∷ tell_move 0 1 ∷ []) m2 told lawful_between (m3, leased_goal, (told, told_cost, refl))

-- a block has the row of one state
own_row : (m : Machine) → IsLawful setup m → (block state : ℕ) (row : Row) → m.store.rows block state ≡ Some row → block ≡ state
own_row m l block state row found = let at = (sound_after setup 1 is_setup m l).0.place block state row found in at.0

-- so that row is the first where it is Opened
only_row : (m : Machine) → IsLawful setup m → (block : ℕ) (row : Row) → m.store.rows block block ≡ Some row → row.status ≡ Opened → IsFirstRow m.store.weight (m.store.rows block) block row
only_row m l block row found opened = record { found = found; opened = opened; first = λ other other_row there _. inl (sym (own_row m l block other other_row there)) }

first_is_start : IsFirstChoice setup.blocks setup.settings m0.counts m0.store 0
first_is_start = record {
  may = record { known = omega arith; opened = (0, start_row, refl, refl); free = refl; not_near_hot = refl; left = omega arith; no_end = refl };
  best = λ other may. which other may.known may.opened;
}
  where
    which : (other : ℕ) → other < 2 → HasOpened (m0.store.rows other) → (other ≡ 0) ⊎ IsBetter m0.store 0 other
    which zero lt opened = inl refl
    which (suc zero) lt (state, row, found, opened) =
        let bad : ◌≡◌ {A = Option Row} None (Some row) = ap (m0.store.rows 1) (own_row m0 lawful_start 1 state row found) ∙ found in cc
    which (suc (suc other)) lt opened = absurd (omega arith)

goal_is_best : (other : ℕ) → other < 2 → HasOpened (m2.store.rows other) → (other ≡ 1) ⊎ IsBetter m2.store 1 other
goal_is_best zero lt (state, row, found, opened) =
    let is : ◌≡◌ {A = Option Row} (Some (record start_row { status = Closed })) (Some row) = ap (m2.store.rows 0) (own_row m2 lawful_between 0 state row found) ∙ found in
    let bad : Closed ≡ Opened = ap (λ (r : Row). r.status) (some_row (record start_row { status = Closed }) row is) ∙ opened in cc
goal_is_best (suc zero) lt opened = inl refl
goal_is_best (suc (suc other)) lt opened = absurd (omega arith)

first_is_goal : IsFirstChoice setup.blocks setup.settings m2.counts m2.store 1
first_is_goal = record {
  may = record { known = omega arith; opened = (1, goal_row, refl, refl); free = refl; not_near_hot = refl; left = omega arith; no_end = refl };
  best = λ other may. goal_is_best other may.known may.opened;
}

expanded_in_turns : CameBackInTurns setup m1 0 1 0 m2.store
unfolding came_from_start
expanded_in_turns = (came_from_start, ((start_row, only_row m1 lawful_first 0 start_row refl refl, λ cut. cut), tt))

took_in_turns : CameBackInTurns setup told 0 0 0 m4.store
unfolding came_from_goal
took_in_turns = (came_from_goal, ((goal_row, only_row told lawful_told 1 goal_row refl refl, λ cut. cut), tt))

pub example_runs_in_order : RunsInOrder setup m0 (event_move (Lease 0 0 5) ∷ event_move (Release 0 1 false) ∷ event_move (Lease 0 1 5) ∷ tell_move 0 1 ∷ event_move (Release 0 0 false) ∷ []) m4
example_runs_in_order = (
  m1,
  leased_start,
  first_is_start,
  (
    m2,
    expanded_start,
    expanded_in_turns,
    (m3, leased_goal, first_is_goal, (told, told_cost, tt, (m4, took_goal, took_in_turns, refl))),
  ),
)

-- ---- the same search with a switch from the first block to the second

goal_is_next : IsFirstChoice setup.blocks setup.settings (counts_with_lease_home m1.counts 0 1) m3.store 1
goal_is_next = record {
  may = record { known = omega arith; opened = (1, goal_row, refl, refl); free = refl; not_near_hot = refl; left = omega arith; no_end = refl };
  best = λ other may. goal_is_best other may.known may.opened;
}

pub example_switches_in_order : RunsInOrder setup m0 (event_move (Lease 0 0 5) ∷ switch_move 0 1 1 5 ∷ tell_move 0 1 ∷ event_move (Release 0 0 false) ∷ []) m4
example_switches_in_order = (
  m1,
  leased_start,
  first_is_start,
  (
    m3,
    (m2, expanded_start, leased_goal),
    (expanded_in_turns, goal_is_next),
    (told, told_cost, tt, (m4, took_goal, took_in_turns, refl)),
  ),
)
