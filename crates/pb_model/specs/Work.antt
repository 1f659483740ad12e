-- The work of a best-first search that opens rows again (Hart, Nilsson, Raphael 1968) on its store.
-- Each piece of work is a function of the store, with a condition under which it may be done. Which
-- Opened row is taken is free: no law of this crate rests on the order.
use Rattle.std.specs.Prelude.{◌≡◌, ℕ, ◌+◌, ◌*◌, ◌<◌, ◌≤◌, length, if◌then◌else◌, nat_lt, IsTrue, IsFalse, List, [], ◌∷◌, take, Option, Some, None, ⊤, ◌⊎◌}
use Rattle.pb_model.specs.declared.row.Estimate.{Estimate}
use Rattle.pb_model.specs.declared.row.Estimate.TheVariants.{Cost, Dead}
use Rattle.pb_model.specs.declared.row.Status.{Status}
use Rattle.pb_model.specs.declared.row.Status.TheVariants.{Opened, Closed, Cut}
use Rattle.pb_model.specs.declared.row.Row.{Row}
use Rattle.pb_model.specs.declared.row.Succ.{Succ}
use Rattle.pb_model.specs.Space.{Space, steps}
use Rattle.pb_model.specs.Weight.{Weight, IsWeight}
use Rattle.pb_model.specs.Guide.{Guide}
use Rattle.pb_model.specs.Store.{Store, row_at, is_place_of, HasOpenedRow, IsQuiet, lesser, MayBeCut}

-- A piece of work.
--   expand: every successor of the row is offered, and then the row is Closed.
--   break_off: an expansion that ran out of memory after so many of its offers, before the last;
--     the row stays Opened.
--   cut: a row that may be cut is Cut.
--   take_goal: the row of a goal is Cut, and the incumbent becomes its g if that is lower.
--   lower: the incumbent becomes this cost if that is lower. That a plan of this cost or less
--     exists is shown elsewhere.
--   reopen: the search goes on with another weight; a Cut row that may not be cut under it is
--     Opened again.
pub data Work : Type 0 where
  expand : (state : ℕ) → Work
  break_off : (state offers : ℕ) → Work
  cut : (state : ℕ) → Work
  take_goal : (state : ℕ) → Work
  lower : (cost : ℕ) → Work
  reopen : (weight : Weight) → Work

-- ---- offers

-- The row of a state after it was offered at this g. A state without a row gets one, and a row with
-- a greater g becomes cheaper; both are Opened then. Any other row stays.
abbrev pub offered_row : (g : ℕ) → Estimate → (parent : Option ℕ) → (action : ℕ) → Option Row → Row
offered_row g estimate parent action None =
    record { g = g; estimate = estimate; parent = parent; action = action; status = Opened }
offered_row g estimate parent action (Some row) =
    if nat_lt g row.g then record {
      g = g;
      estimate = row.estimate;
      parent = parent;
      action = action;
      status = Opened;
    } else row

-- what a place has after one successor of a row with this g was offered
abbrev pub row_after_offer : Guide → (parent g : ℕ) → Succ → (home state : ℕ) → Option Row
    → Option Row
row_after_offer guide parent g succ home state old =
    if is_place_of guide succ.state home state then Some
    (offered_row (g + succ.cost) (guide.estimate state) (Some parent) succ.action old) else old

-- what this place has after these successors were offered, one after another
abbrev pub row_after_offers : Guide → (parent g : ℕ) → List Succ → (home state : ℕ) → Option Row
    → Option Row
row_after_offers guide parent g [] home state old = old
row_after_offers guide parent g (succ ∷ succs) home state old =
    row_after_offers guide parent g succs home state
    (row_after_offer guide parent g succ home state old)

-- ---- one piece of work

abbrev pub with_status : Status → Option Row → Option Row
with_status status None = None
with_status status (Some row) = Some (record row { status = status })

-- what a place has after the row of the state `own` got this status
abbrev pub row_after_status : Guide → (own : ℕ) → Status → (home state : ℕ) → Option Row
    → Option Row
row_after_status guide own status home state old =
    if is_place_of guide own home state then with_status status old else old

-- a Cut row that may not be cut under this weight and incumbent is Opened, and any other status
-- stays
abbrev pub reopened_status : Weight → (incumbent g : ℕ) → Estimate → Status → Status
reopened_status weight incumbent g estimate Opened = Opened
reopened_status weight incumbent g estimate Closed = Closed
reopened_status weight incumbent g Dead Cut = Cut
reopened_status weight incumbent g (Cost h) Cut =
    if nat_lt (weight.num * (g + h)) (weight.den * incumbent) then Opened else Cut

abbrev pub reopened_row : Weight → (incumbent : Option ℕ) → Option Row → Option Row
reopened_row weight incumbent None = None
reopened_row weight None (Some row) = Some row
reopened_row weight (Some incumbent) (Some row) =
    Some (record row { status = reopened_status weight incumbent row.g row.estimate row.status })

-- what a place has after the work, given the g of the row that the work is on
abbrev pub row_after : Space → Guide → Work → (g : ℕ) → (incumbent : Option ℕ) → (home state : ℕ)
    → Option Row → Option Row
row_after space guide (expand own) g incumbent home state old =
    row_after_status guide own Closed home state
    (row_after_offers guide own g (steps space own) home state old)
row_after space guide (break_off own offers) g incumbent home state old =
    row_after_offers guide own g (take offers (steps space own)) home state old
row_after space guide (cut own) g incumbent home state old =
    row_after_status guide own Cut home state old
row_after space guide (take_goal own) g incumbent home state old =
    row_after_status guide own Cut home state old
row_after space guide (lower cost) g incumbent home state old = old
row_after space guide (reopen weight) g incumbent home state old = reopened_row weight incumbent old

abbrev pub incumbent_after : Work → (g : ℕ) → Option ℕ → Option ℕ
incumbent_after (take_goal own) g incumbent = lesser incumbent (Some g)
incumbent_after (lower cost) g incumbent = lesser incumbent (Some cost)
incumbent_after work g incumbent = incumbent

abbrev pub weight_after : Work → Weight → Weight
weight_after (reopen weight) old = weight
weight_after work old = old

abbrev pub g_of : Option Row → ℕ
g_of None = 0
g_of (Some row) = row.g

-- the g of the row that the work is on
abbrev pub g_before : Guide → Store → Work → ℕ
g_before guide store (expand own) = g_of (row_at guide store own)
g_before guide store (break_off own offers) = g_of (row_at guide store own)
g_before guide store (cut own) = g_of (row_at guide store own)
g_before guide store (take_goal own) = g_of (row_at guide store own)
g_before guide store (lower cost) = 0
g_before guide store (reopen weight) = 0

-- the store after the work
abbrev pub store_after : Space → Guide → Work → Store → Store
store_after space guide work store =
    record {
      rows =
          λ home state. row_after space guide work (g_before guide store work) store.incumbent home
          state (store.rows home state);
      incumbent = incumbent_after work (g_before guide store work) store.incumbent;
      weight = weight_after work store.weight;
    }

-- when the work may be done
abbrev pub May : Space → Guide → Work → Store → Type 0
May space guide (expand own) store = HasOpenedRow guide store own × IsFalse (space.is_goal own)
May space guide (break_off own offers) store =
    HasOpenedRow guide store own × IsFalse (space.is_goal own) × (offers < length (steps space own))
May space guide (cut own) store =
    (row : Row) × (row_at guide store own ≡ Some row) × (row.status ≡ Opened)
    × MayBeCut store.weight store.incumbent row.g row.estimate
May space guide (take_goal own) store = HasOpenedRow guide store own × IsTrue (space.is_goal own)
May space guide (lower cost) store = ⊤
May space guide (reopen weight) store = IsWeight weight

-- ---- pieces of work one after another

-- the new store comes from the old one by these pieces of work, in this order
abbrev pub Comes : Space → Guide → List Work → (old new : Store) → Type 0
Comes space guide [] old new = new ≡ old
Comes space guide (work ∷ works) old new =
    May space guide work old × Comes space guide works (store_after space guide work old) new

abbrev pub expansions : List Work → ℕ
expansions [] = 0
expansions (expand own ∷ works) = 1 + expansions works
expansions (work ∷ works) = expansions works

abbrev pub broken_expansions : List Work → ℕ
broken_expansions [] = 0
broken_expansions (break_off own offers ∷ works) = 1 + broken_expansions works
broken_expansions (work ∷ works) = broken_expansions works

abbrev pub lowerings : List Work → ℕ
lowerings [] = 0
lowerings (lower cost ∷ works) = 1 + lowerings works
lowerings (work ∷ works) = lowerings works

abbrev pub reopenings : List Work → ℕ
reopenings [] = 0
reopenings (reopen weight ∷ works) = 1 + reopenings works
reopenings (work ∷ works) = reopenings works

-- no row is Opened when a piece of the work is a reopening: the work is one run to its quiet end,
-- and then another with the next weight
abbrev pub ReopensQuiet : Space → Guide → List Work → (old : Store) → Type 0
ReopensQuiet space guide [] old = ⊤
ReopensQuiet space guide (reopen weight ∷ works) old =
    IsQuiet old × ReopensQuiet space guide works (store_after space guide (reopen weight) old)
ReopensQuiet space guide (work ∷ works) old =
    ReopensQuiet space guide works (store_after space guide work old)

-- some work of the list lowered the incumbent to this cost or below
abbrev pub LowersTo : List Work → (cost : ℕ) → Type 0
LowersTo [] cost = ⊥
LowersTo (lower told ∷ works) cost = (told ≤ cost) ⊎ LowersTo works cost
LowersTo (work ∷ works) cost = LowersTo works cost

-- the store at the start of a search: the row of the start alone, Opened, and no incumbent
abbrev pub opening_store : Space → Guide → Weight → Store
opening_store space guide weight =
    record {
      rows =
          λ home state. if is_place_of guide space.start home state
          then Some (offered_row 0 (guide.estimate space.start) None 0 None) else None;
      incumbent = None;
      weight = weight;
    }
