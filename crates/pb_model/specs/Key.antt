-- The order of the rows in a weighted best-first search (Pohl 1970): by den * g + num * h, and then
-- by h.
use Rattle.std.specs.Prelude.{◌≡◌, ℕ, ◌+◌, ◌*◌, ◌<◌, Option, Some, None, ◌⊎◌, ⊤}
use Rattle.pb_model.specs.declared.row.Estimate.{Estimate}
use Rattle.pb_model.specs.declared.row.Estimate.TheVariants.{Cost, Dead}
use Rattle.pb_model.specs.declared.row.Status.TheVariants.{Opened}
use Rattle.pb_model.specs.declared.row.Row.{Row}
use Rattle.pb_model.specs.declared.key.Key.{Key}
use Rattle.pb_model.specs.declared.key.Key.TheVariants.{Sum, Dead as Last}
use Rattle.pb_model.specs.Weight.{Weight}
use Rattle.pb_model.specs.Store.{Part, HasOpened}

abbrev pub key_of : Weight → (g : ℕ) → Estimate → Key
key_of weight g (Cost h) = Sum (weight.den * g + weight.num * h) h
key_of weight g Dead = Last

abbrev pub IsKeyBelow : Key → Key → Type 0
IsKeyBelow (Sum sum h) (Sum other k) = (sum < other) ⊎ ((sum ≡ other) × (h < k))
IsKeyBelow (Sum sum h) Last = ⊤
IsKeyBelow Last other = ⊥

-- the key is that of an Opened row of this part
abbrev pub HasOpenedKey : Weight → Part → Key → Type 0
HasOpenedKey weight part key =
    (state : ℕ) × (row : Row) × (part state ≡ Some row) × (row.status ≡ Opened)
    × (key_of weight row.g row.estimate ≡ key)

-- the least key of an Opened row of this part, or none if no row is Opened
abbrev pub IsBest : Weight → Part → Option Key → Type 0
IsBest weight part None = HasOpened part → ⊥
IsBest weight part (Some key) =
    HasOpenedKey weight part key × ((other : Key) → HasOpenedKey weight part other
    → IsKeyBelow other key → ⊥)

-- the one number comes before the other: its key is less, or the keys are equal and the number is
-- less
abbrev pub IsBefore : (key : Key) → (number : ℕ) → (other_key : Key) → (other : ℕ) → Type 0
IsBefore key number other_key other =
    IsKeyBelow key other_key ⊎ ((key ≡ other_key) × (number < other))

-- the row of the state is the first Opened row of this part: the one of least key, and of least
-- state among equal keys
pub record IsFirstRow (weight : Weight) (part : Part) (state : ℕ) (row : Row) : Type 0 where
  pub found : part state ≡ Some row
  pub opened : row.status ≡ Opened
  pub first : (other : ℕ) (other_row : Row) → part other ≡ Some other_row
      → other_row.status ≡ Opened
      → (other ≡ state) ⊎ IsBefore (key_of weight row.g row.estimate) state
      (key_of weight other_row.g other_row.estimate) other
