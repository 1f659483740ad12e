-- The rule of the example, a counter with a history.
use Rattle.std.specs.Prelude.{◌≡◌, ℕ, zero, suc, ◌+◌, List, [], ◌∷◌, ◌++◌, sum, Bool, true, false}

-- 1, 2, .. n
abbrev pub up_to : ℕ → List ℕ
up_to zero = []
up_to (suc n) = up_to n ++ suc n ∷ []

-- The history has each number that the counter came to, in order, and the passes together counted
-- as often as it says. A pass's view is how often it counted.
abbrev pub Counts : ℕ → List ℕ → List ℕ → Type 0
Counts count history views = (history ≡ up_to count) × (sum views ≡ count)

-- how often a pass has counted, if it did or didn't count once more
abbrev pub counted : Bool → ℕ → ℕ
counted true v = v + 1
counted false v = v
