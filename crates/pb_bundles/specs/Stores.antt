-- The rows at home and away as parts of a search's store.
use Rattle.std.specs.Prelude.{ℕ, Bool, not, Option}
use Rattle.pb_model.specs.declared.key.Key.{Key}
use Rattle.pb_model.specs.Weight.{Weight}
use Rattle.pb_model.specs.Store.{Rows, Store}
use Rattle.pb_model.specs.Key.{IsBest}
use Rattle.pb_model.specs.Local.{AgreesOn}
use Rattle.pb_machine.specs.Whole.{AreGone}

abbrev pub store_of : Rows → (incumbent : Option ℕ) → Weight → Store
store_of rows incumbent weight = record { rows = rows; incumbent = incumbent; weight = weight }

-- the keys are those of the first Opened rows of the store, block by block
abbrev pub HasKeys : Store → (keys : ℕ → Option Key) → Type 0
HasKeys store keys = (block : ℕ) → IsBest store.weight (store.rows block) (keys block)

-- Of the rows at home those of the scope are taken, and no others. All others are left, and none of
-- the scope.
pub record TakesRows (scope : ℕ → Bool) (home left taken : Rows) : Type 0 where
  pub taken_rows : AgreesOn scope taken home
  pub none_else : AreGone (λ block. not (scope block)) taken
  pub left_rows : AgreesOn (λ block. not (scope block)) left home
  pub none_left : AreGone scope left

-- The rows that were worked on, those of the scope, are home again. All other rows at home are as
-- before.
pub record BringsRows (scope : ℕ → Bool) (home together worked : Rows) : Type 0 where
  pub brought : AgreesOn scope together worked
  pub stays : AgreesOn (λ block. not (scope block)) together home
