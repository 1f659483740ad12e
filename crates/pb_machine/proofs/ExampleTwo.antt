-- A search of three states by two workers, as an example that meets the definitions: each state is a block of its own, and the start has two
-- successors, of which one is the goal. Both workers have a lease at once. One takes the goal and tells its cost; the other marks the
-- start's block hot and takes the mark away, reads the cost that was told, and cuts its row by it.
use Rattle.std.proofs.Common.{◌≡◌, ℕ, zero, suc, ◌<◌, true, false, ◌&&◌, ◌||◌, ◌==◌, nat_lt, List, [], ◌∷◌, Option, Some, None, refl, sym, ap, ◌∙◌, arith}
use Rattle.std.proofs.lemmas.Bool.Decides.{nat_tests}
use Rattle.pb_model.specs.declared.row.Estimate.TheVariants.{Cost}
use Rattle.pb_model.specs.declared.row.Status.TheVariants.{Opened, Closed, Cut}
use Rattle.pb_model.specs.declared.row.Row.{Row}
use Rattle.pb_model.specs.Store.{Store, IsQuiet}
use Rattle.pb_model.specs.Work.{expand, cut, take_goal, lower, store_after}
use Rattle.pb_model.specs.Local.{merged_store}
use Rattle.pb_model.proofs.Callers.{some_row, below}
use Rattle.pb_machine.specs.Settings.{standard}
use Rattle.pb_machine.specs.declared.event.End.TheVariants.{Quiet}
use Rattle.pb_machine.specs.declared.event.Event.TheVariants.{Lease, Hot, Cold, Release, Off, Ended}
use Rattle.pb_machine.specs.Tables.{with_entry}
use Rattle.pb_machine.specs.Counts.{counts_after}
use Rattle.pb_machine.specs.Machine.{Setup, IsSetup, with_known, with_incumbent, Machine, opening_machine, lent_store, CameBack, Happens, Tells, Move, event_move, tell_move, Runs}
use Rattle.pb_machine.specs.Lawful.{IsLawful}
use Rattle.pb_machine.proofs.Moments.{opening_keeps, run_keeps, sound_after}
use Rattle.pb_machine.proofs.Example.{one_told}

abbrev step : ℕ → ℕ → Option (ℕ × ℕ)
step zero zero = Some (1, 1)
step zero (suc zero) = Some (2, 1)
step zero (suc (suc action)) = None
step (suc state) action = None

abbrev setup : Setup
setup = record {
  space = record { start = 0; is_state = λ state. nat_lt state 3; is_goal = λ state. state == 1; actions = 2; step = step };
  guide = record { estimate = λ state. Cost 0; home = λ state. state };
  blocks = record { count = 3; scope = λ block other. nat_lt other 3 && ((block == 0) || (block == other)) };
  settings = record standard { workers = 2; budget = 10; lot = 3; wish = 16 };
  reopenings = 0;
}

one_step : (from action to cost : ℕ) → step from action ≡ Some (to, cost) → (from ≡ 0) × (action < 2) × (to < 3) × (cost ≡ 1)
one_step zero zero to cost h =
    let same : ◌≡◌ {A = ℕ × ℕ} (1, 1) (to, cost) = cc in
    let there = sym (ap (λ (p : ℕ × ℕ). p.0) same) in
    (refl, omega arith, omega (arith, there), sym (ap (λ (p : ℕ × ℕ). p.1) same))
one_step zero (suc zero) to cost h =
    let same : ◌≡◌ {A = ℕ × ℕ} (2, 1) (to, cost) = cc in
    let there = sym (ap (λ (p : ℕ × ℕ). p.0) same) in
    (refl, omega arith, omega (arith, there), sym (ap (λ (p : ℕ × ℕ). p.1) same))
one_step zero (suc (suc action)) to cost h = cc
one_step (suc state) action to cost h = cc

own_scope : (block : ℕ) → block < 3 → setup.blocks.scope block block ≡ true
own_scope zero lt = refl
own_scope (suc zero) lt = refl
own_scope (suc (suc zero)) lt = refl
own_scope (suc (suc (suc block))) lt = absurd (omega arith)

step_scope : (from action to cost : ℕ) → step from action ≡ Some (to, cost) → setup.blocks.scope from to ≡ true
step_scope zero zero to cost h = let same : ◌≡◌ {A = ℕ × ℕ} (1, 1) (to, cost) = cc in ap (λ (p : ℕ × ℕ). setup.blocks.scope 0 p.0) (sym same)
step_scope zero (suc zero) to cost h = let same : ◌≡◌ {A = ℕ × ℕ} (2, 1) (to, cost) = cc in ap (λ (p : ℕ × ℕ). setup.blocks.scope 0 p.0) (sym same)
step_scope zero (suc (suc action)) to cost h = cc
step_scope (suc state) action to cost h = cc

known_scope : (block other : ℕ) → setup.blocks.scope block other ≡ true → other < 3
known_scope block other h = grind (arith, nat_tests)

pub is_setup : IsSetup setup 1
is_setup = record {
  space = record {
    start = refl;
    action = λ from action to cost h. (one_step from action to cost h).1;
    from_state = λ from action to cost h. let s = one_step from action to cost h in ap (λ n. nat_lt n 3) s.0;
    to_state = λ from action to cost h. let less = (one_step from action to cost h).2 in grind (arith, nat_tests);
    positive = λ from action to cost h. let s = one_step from action to cost h in omega (arith, s.3);
    bounded = λ from action to cost h. let s = one_step from action to cost h in omega (arith, s.3);
  };
  blocks = record {
    home = λ state is. below state 3 is;
    own = λ block lt. own_scope block lt;
    known = λ block other in_scope. known_scope block other in_scope;
    steps = λ from action to cost h. step_scope from action to cost h;
  };
  weight = record { positive = omega arith; at_least_one = omega arith; small = omega arith };
}

-- ---- the machine after each move

abbrev m0 : Machine
m0 = opening_machine setup

abbrev m1 : Machine
m1 = record m0 { counts = counts_after setup.blocks setup.settings m0.counts (Lease 0 0 3); given = with_entry m0.given 0 None; told = with_entry m0.told 0 None }

abbrev expanded : Store
expanded = store_after setup.space setup.guide (expand 0) (lent_store setup 0 m1.store None)

abbrev m2 : Machine
m2 = record m1 { counts = counts_after setup.blocks setup.settings m1.counts (Release 0 1 false); store = merged_store (setup.blocks.scope 0) expanded m1.store; told = with_entry m1.told 0 None; known = with_incumbent m1.known None }

abbrev m3 : Machine
m3 = record m2 { counts = counts_after setup.blocks setup.settings m2.counts (Lease 0 1 3); given = with_entry m2.given 0 None; told = with_entry m2.told 0 None }

abbrev m4 : Machine
m4 = record m3 { counts = counts_after setup.blocks setup.settings m3.counts (Lease 1 2 3); given = with_entry m3.given 1 None; told = with_entry m3.told 1 None }

abbrev m5 : Machine
m5 = record m4 { store = record m4.store { incumbent = Some 1 }; told = with_entry m4.told 0 (Some 1); known = with_incumbent (with_entry m4.known 0 (with_known (m4.known 0) (Some 1))) (Some 1) }

abbrev m6 : Machine
m6 = record m5 { counts = counts_after setup.blocks setup.settings m5.counts (Hot 1 0) }

abbrev m7 : Machine
m7 = record m6 { counts = counts_after setup.blocks setup.settings m6.counts (Cold 1 0) }

abbrev taken : Machine → Store
taken m = store_after setup.space setup.guide (take_goal 1) (lent_store setup 1 m.store None)

abbrev m8 : Machine
m8 = record m7 { counts = counts_after setup.blocks setup.settings m7.counts (Release 0 0 false); store = merged_store (setup.blocks.scope 1) (taken m7) m7.store; told = with_entry m7.told 0 None; known = with_incumbent m7.known (Some 1) }

-- the second worker reads the cost that the first one told, and cuts its row
abbrev has_read : Store
has_read = store_after setup.space setup.guide (lower 1) (lent_store setup 2 m8.store None)

abbrev has_cut : Store
has_cut = store_after setup.space setup.guide (cut 2) has_read

abbrev m9 : Machine
m9 = record m8 { counts = counts_after setup.blocks setup.settings m8.counts (Release 1 0 false); store = merged_store (setup.blocks.scope 2) has_cut m8.store; told = with_entry m8.told 1 None; known = with_incumbent m8.known (Some 1) }

abbrev m10 : Machine
m10 = record m9 { counts = counts_after setup.blocks setup.settings m9.counts (Ended Quiet) }

abbrev m11 : Machine
m11 = record m10 { counts = counts_after setup.blocks setup.settings m10.counts (Off 0 false) }

abbrev m12 : Machine
m12 = record m11 { counts = counts_after setup.blocks setup.settings m11.counts (Off 1 false) }

abbrev row_of : (g : ℕ) → (parent : Option ℕ) → (action : ℕ) → Row
row_of g parent action = record { g = g; estimate = Cost 0; parent = parent; action = action; status = Opened }

abbrev goal_row : Row
goal_row = row_of 1 (Some 0) 0

abbrev other_row : Row
other_row = row_of 1 (Some 0) 1

leased_start : Happens setup m0 (Lease 0 0 3) m1
leased_start = record { may = refl; counts = refl; rows = ((0, row_of 0 None 0, refl, refl), refl, (None, refl, refl), refl, refl, refl) }

came_from_start : CameBack setup m1 0 1 0 m2.store
came_from_start = record {
  grant = record { block = 0; quota = 3 };
  worked = expanded;
  leased = refl;
  work = record { works = expand 0 ∷ []; on = (refl, tt); comes = (((row_of 0 None 0, refl, refl), refl), refl); used_is = refl; few_broken = omega arith; stops = tt };
  back = refl;
  shown = λ cost (is : ◌≡◌ {A = Option ℕ} None (Some cost)). cc;
}

expanded_start : Happens setup m1 (Release 0 1 false) m2
expanded_start = record { may = refl; counts = refl; rows = (came_from_start, refl, refl, refl, refl) }

leased_goal : Happens setup m2 (Lease 0 1 3) m3
leased_goal = record { may = refl; counts = refl; rows = ((1, goal_row, refl, refl), refl, (None, refl, refl), refl, refl, refl) }

leased_other : Happens setup m3 (Lease 1 2 3) m4
leased_other = record { may = refl; counts = refl; rows = ((2, other_row, refl, refl), refl, (None, refl, refl), refl, refl, refl) }

told_cost : Tells setup m4 0 1 m5
told_cost = record {
  grant = record { block = 1; quota = 3 };
  leased = refl;
  used = 0;
  worked = taken m4;
  work = record { works = take_goal 1 ∷ []; on = (refl, tt); comes = (((goal_row, refl, refl), refl), refl); used_is = refl; few_broken = omega arith; stops = tt };
  shown = (1, refl, (record goal_row { status = Cut }, refl, omega arith));
  counts = refl;
  store = refl;
  given = refl;
  told = refl;
  known = refl;
  broken = refl;
}

marked : Happens setup m5 (Hot 1 0) m6
marked = record { may = refl; counts = refl; rows = (λ other near (hot : false ≡ true) better. cc, (refl, refl, refl, refl, refl)) }

cooled : Happens setup m6 (Cold 1 0) m7
cooled = record { may = refl; counts = refl; rows = (refl, refl, refl, refl, refl) }

came_from_goal : CameBack setup m7 0 0 0 m8.store
came_from_goal = record {
  grant = record { block = 1; quota = 3 };
  worked = taken m7;
  leased = refl;
  work = record { works = take_goal 1 ∷ []; on = (refl, tt); comes = (((goal_row, refl, refl), refl), refl); used_is = refl; few_broken = omega arith; stops = tt };
  back = refl;
  shown = λ cost is. (1, refl, (record goal_row { status = Cut }, refl, one_told cost is));
}

took_goal : Happens setup m7 (Release 0 0 false) m8
took_goal = record { may = refl; counts = refl; rows = (came_from_goal, refl, refl, refl, refl) }

came_from_other : CameBack setup m8 1 0 0 m9.store
came_from_other = record {
  grant = record { block = 2; quota = 3 };
  worked = has_cut;
  leased = refl;
  work = record { works = lower 1 ∷ cut 2 ∷ []; on = (refl, (refl, tt)); comes = (tt, ((other_row, refl, refl, omega arith), refl)); used_is = refl; few_broken = omega arith; stops = tt };
  back = refl;
  shown = λ cost (is : ◌≡◌ {A = Option ℕ} None (Some cost)). cc;
}

cut_other : Happens setup m8 (Release 1 0 false) m9
cut_other = record { may = refl; counts = refl; rows = (came_from_other, refl, refl, refl, refl) }

abbrev moves : List Move
moves =
    event_move (Lease 0 0 3) ∷ event_move (Release 0 1 false) ∷ event_move (Lease 0 1 3) ∷ event_move (Lease 1 2 3) ∷ tell_move 0 1
    ∷ event_move (Hot 1 0) ∷ event_move (Cold 1 0) ∷ event_move (Release 0 0 false) ∷ event_move (Release 1 0 false) ∷ []

pub both_run : Runs setup m0 moves m9
both_run =
    (m1, leased_start, (m2, expanded_start, (m3, leased_goal, (m4, leased_other, (m5, told_cost, (m6, marked, (m7, cooled, (m8, took_goal, (m9, cut_other, refl)))))))))

lawful : IsLawful setup m9
lawful = run_keeps setup 1 is_setup moves m0 m9 (opening_keeps setup 1 is_setup refl) both_run

-- no row is Opened at the end: that of the start is Closed, and the two others are Cut
quiet_at : (home state : ℕ) (row : Row) → home ≡ state → state < 3 → m9.store.rows home state ≡ Some row → row.status ≡ Opened → ⊥
quiet_at home zero row e lt found opened =
    let is : ◌≡◌ {A = Option Row} (Some (record (row_of 0 None 0) { status = Closed })) (Some row) = ap (λ h. m9.store.rows h 0) (sym e) ∙ found in
    let bad : Closed ≡ Opened = ap (λ (r : Row). r.status) (some_row (record (row_of 0 None 0) { status = Closed }) row is) ∙ opened in cc
quiet_at home (suc zero) row e lt found opened =
    let is : ◌≡◌ {A = Option Row} (Some (record goal_row { status = Cut })) (Some row) = ap (λ h. m9.store.rows h 1) (sym e) ∙ found in
    let bad : Cut ≡ Opened = ap (λ (r : Row). r.status) (some_row (record goal_row { status = Cut }) row is) ∙ opened in cc
quiet_at home (suc (suc zero)) row e lt found opened =
    let is : ◌≡◌ {A = Option Row} (Some (record other_row { status = Cut })) (Some row) = ap (λ h. m9.store.rows h 2) (sym e) ∙ found in
    let bad : Cut ≡ Opened = ap (λ (r : Row). r.status) (some_row (record other_row { status = Cut }) row is) ∙ opened in cc
quiet_at home (suc (suc (suc state))) row e lt found opened = absurd (omega arith)

quiet : IsQuiet m9.store
quiet home (state, row, found, opened) =
    let at = (sound_after setup 1 is_setup m9 lawful).0.place home state row found in
    quiet_at home state row at.0 (below state 3 at.1) found opened

pub both_end : Runs setup m9 (event_move (Ended Quiet) ∷ event_move (Off 0 false) ∷ event_move (Off 1 false) ∷ []) m12
both_end = (
  m10,
  record { may = refl; counts = refl; rows = (quiet, (refl, refl, refl, refl, refl)) },
  (
    m11,
    record { may = refl; counts = refl; rows = (refl, refl, refl, refl, refl) },
    (m12, record { may = refl; counts = refl; rows = (refl, refl, refl, refl, refl) }, refl),
  ),
)

pub both_incumbent : m12.store.incumbent ≡ Some 1
both_incumbent = refl
