-- The calls for owners, from one of them on.
use Rattle.std.specs.Prelude.{◌≡◌, ℕ, ◌+◌, ◌<◌, List, length, slice_index_or}

-- something holds of each element and its number, if the first one has this number
pub record EachFrom {A : Type 0} (P : ℕ → A → Type 0) (from : ℕ) (xs : List A) : Type 0 where
  pub each : (k : ℕ) (d : A) → k < length xs → P (from + k) (slice_index_or xs k d)

-- something holds of each element before and after
pub record ChangesFrom {A : Type 0} (R : ℕ → A → A → Type 0) (from : ℕ) (xs ys : List A) : Type 0
  where
    pub many : length ys ≡ length xs
    pub each : (k : ℕ) (d : A) → k < length xs
        → R (from + k) (slice_index_or xs k d) (slice_index_or ys k d)
