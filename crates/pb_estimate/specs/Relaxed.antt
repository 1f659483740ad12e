-- Actions without what they delete, and how they and other lists lie in one array.
use Rattle.std.specs.Prelude.{ℕ, ◌-◌, ◌≤◌, List, [], take, drop, slice_index_or}

-- what an action adds, and its cost
pub record RelaxedAction : Type 0 where
  pub adds : List ℕ
  pub cost : ℕ

-- the numbers of an array from one place to another
abbrev pub piece : (items : List ℕ) → (from to : ℕ) → List ℕ
piece items from to = take (to - from) (drop from items)

-- the places of a piece of an array that has so many numbers
abbrev pub IsPiece : (count from to : ℕ) → Type 0
IsPiece count from to = (from ≤ to) × (to ≤ count)

-- the action that adds a piece of an array
abbrev pub action_of : (atoms : List ℕ) → (from to cost : ℕ) → RelaxedAction
action_of atoms from to cost = record { adds = piece atoms from to; cost = cost }

abbrev pub relaxed_at : List RelaxedAction → (number : ℕ) → RelaxedAction
relaxed_at actions number = slice_index_or actions number (record { adds = []; cost = 1 })
