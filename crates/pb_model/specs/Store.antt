-- The rows of a search: what it knows of the states that it has met.
use Rattle.std.specs.Prelude.{◌≡◌, ℕ, ◌+◌, ◌*◌, ◌≤◌, Bool, ◌&&◌, ◌==◌, min, Option, Some, None, IsTrue, ⊤}
use Rattle.pb_model.specs.declared.row.Estimate.{Estimate}
use Rattle.pb_model.specs.declared.row.Estimate.TheVariants.{Cost, Dead}
use Rattle.pb_model.specs.declared.row.Status.TheVariants.{Opened}
use Rattle.pb_model.specs.declared.row.Row.{Row}
use Rattle.pb_model.specs.Space.{Space}
use Rattle.pb_model.specs.Weight.{Weight}
use Rattle.pb_model.specs.Guide.{Guide}

-- one part of the store: the row of each state that has one there
abbrev pub Part : Type 0
Part = (state : ℕ) → Option Row

-- the parts of the store by their numbers
abbrev pub Rows : Type 0
Rows = (home : ℕ) → Part

-- the rows, the incumbent (a cost that some plan is known not to exceed, or none), and the weight
-- of the search
pub record Store : Type 0 where
  pub rows : Rows
  pub incumbent : Option ℕ
  pub weight : Weight

-- the row of a state, in the part of the store that is its home
abbrev pub row_at : Guide → Store → ℕ → Option Row
row_at guide store state = store.rows (guide.home state) state

-- whether this state, in this part of the store, is that other state at home
abbrev pub is_place_of : Guide → (other home state : ℕ) → Bool
is_place_of guide other home state = (home == guide.home other) && (state == other)

-- the state has a row whose g is at most this
abbrev pub HasRowWithin : Guide → Store → (state most : ℕ) → Type 0
HasRowWithin guide store state most =
    (row : Row) × (row_at guide store state ≡ Some row) × (row.g ≤ most)

-- some goal has a row whose g is at most this
abbrev pub HasGoalWithin : Space → Guide → Store → (most : ℕ) → Type 0
HasGoalWithin space guide store most =
    (goal : ℕ) × IsTrue (space.is_goal goal) × HasRowWithin guide store goal most

-- the state has a row that is Opened
abbrev pub HasOpenedRow : Guide → Store → ℕ → Type 0
HasOpenedRow guide store state =
    (row : Row) × (row_at guide store state ≡ Some row) × (row.status ≡ Opened)

-- some row of this part is Opened
abbrev pub HasOpened : Part → Type 0
HasOpened part = (state : ℕ) × (row : Row) × (part state ≡ Some row) × (row.status ≡ Opened)

-- no row is Opened
abbrev pub IsQuiet : Store → Type 0
IsQuiet store = (home : ℕ) → HasOpened (store.rows home) → ⊥

-- the incumbent is none, or some goal has a row whose g is no greater
abbrev pub IsShown : Space → Guide → Store → Type 0
IsShown space guide store =
    (cost : ℕ) → store.incumbent ≡ Some cost → HasGoalWithin space guide store cost

-- no row has a greater g
abbrev pub CostsAtMost : Store → (most : ℕ) → Type 0
CostsAtMost store most =
    (home state : ℕ) (row : Row) → store.rows home state ≡ Some row → row.g ≤ most

-- the lesser of two costs, of which one or both may be unknown
abbrev pub lesser : Option ℕ → Option ℕ → Option ℕ
lesser None other = other
lesser (Some cost) None = Some cost
lesser (Some cost) (Some other) = Some (min cost other)

-- the first is no greater than the second; a cost that is unknown is greater than all others
abbrev pub AtMost : Option ℕ → Option ℕ → Type 0
AtMost first None = ⊤
AtMost None (Some second) = ⊥
AtMost (Some first) (Some second) = first ≤ second

-- A row may be cut if no plan through it costs less than the incumbent divided by the weight: its
-- estimate is Dead, or num * (g + h) is at least den times the incumbent.
abbrev pub MayBeCut : Weight → (incumbent : Option ℕ) → (g : ℕ) → Estimate → Type 0
MayBeCut weight incumbent g Dead = ⊤
MayBeCut weight None g (Cost h) = ⊥
MayBeCut weight (Some incumbent) g (Cost h) = weight.den * incumbent ≤ weight.num * (g + h)
