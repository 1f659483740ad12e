-- The parts of a store, by their numbers.
use Rattle.std.proofs.Common.{◌≡◌, ℕ, ◌<◌, ◌≤◌, Some, sym, ◌∙◌, arith}
use Rattle.std.proofs.lemmas.Option.{none-some}
use Rattle.pb_model.specs.declared.row.Row.{Row}
use Rattle.pb_model.specs.Store.{Rows}
use Rattle.pb_lists.specs.Store.{HasNoneFrom}

-- a row stands in one of the parts
pub found_below : (rows : Rows) (parts i : ℕ) → HasNoneFrom rows parts → parts ≤ i → (home state : ℕ) (row : Row) → rows home state ≡ Some row → home < i
found_below rows parts i beyond whole home state row found = grind (arith, whole, known)
  where
    known : parts ≤ home → ⊥
    known past = none-some row (sym (beyond home state past) ∙ found)
