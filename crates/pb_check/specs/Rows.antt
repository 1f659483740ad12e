-- The rows of a certificate as arrays of their states, costs and statuses.
use Rattle.std.specs.Prelude.{ℕ, zero, suc, Bool, true, List, [], ◌∷◌, nat_lt}
use Rattle.pb_model.specs.Certificate.{Line}

abbrev pub rows_of : (states costs : List ℕ) (closed : List Bool) → List Line
rows_of [] gs cs = []
rows_of (s ∷ ss) [] cs = []
rows_of (s ∷ ss) (g ∷ gs) [] = []
rows_of (s ∷ ss) (g ∷ gs) (c ∷ cs) = record { state = s; g = g; is_closed = c } ∷ rows_of ss gs cs

-- whether the state of the row after the one in this place is above that row's
abbrev pub rises_at : List Line → (i : ℕ) → Bool
rises_at [] i = true
rises_at (row ∷ []) i = true
rises_at (row ∷ next ∷ rows) zero = nat_lt row.state next.state
rises_at (row ∷ next ∷ rows) (suc i) = rises_at (next ∷ rows) i
