-- The seats of all owners, in order of their numbers.
use Rattle.std.specs.Prelude.{◌≡◌, ℕ, List, Option, Some, None, length, slice_get}
use Rattle.pb_owners.specs.declared.seat.Seat.{Seat}

-- something holds of each element and its place
pub record Each {A : Type 0} (P : ℕ → A → Type 0) (xs : List A) : Type 0 where
  pub at : (i : ℕ) (x : A) → slice_get xs i ≡ Some x → P i x

-- there are as many as before, and something holds of each element before and after
pub record EachPair {A : Type 0} (R : ℕ → A → A → Type 0) (olds news : List A) : Type 0 where
  pub many : length news ≡ length olds
  pub at : (i : ℕ) (x y : A) → slice_get olds i ≡ Some x → slice_get news i ≡ Some y → R i x y

abbrev pub quota_in : Option Seat → ℕ
quota_in None = 0
quota_in (Some seat) = seat.quota

abbrev pub used_in : Option Seat → ℕ
used_in None = 0
used_in (Some seat) = seat.used

-- the quota of the owner of this number, and how many rows it expanded
abbrev pub quota_at : List Seat → (owner : ℕ) → ℕ
quota_at seats owner = quota_in (slice_get seats owner)

abbrev pub used_at : List Seat → (owner : ℕ) → ℕ
used_at seats owner = used_in (slice_get seats owner)
