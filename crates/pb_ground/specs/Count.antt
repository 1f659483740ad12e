-- How many instances there are.
use Rattle.std.specs.Prelude.{ℕ, ◌*◌, List, [], ◌∷◌, length}

-- the product of the lengths
abbrev pub product_of : List (List ℕ) → ℕ
product_of [] = 1
product_of (first ∷ rest) = length first * product_of rest
