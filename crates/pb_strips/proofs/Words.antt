-- The names of numbers.
use Rattle.std.proofs.Common.{◌≡◌, ℕ, zero, suc, List, [], ◌∷◌, map, Some, None, slice_get, refl, ap}
use Rattle.pb_lifted.specs.Facts.{name_at}

pub some_name : {A : Type 0} (f : A → List ℕ) (xs : List A) (i : ℕ) (x : A) → slice_get xs i ≡ Some x → name_at (map f xs) i ≡ f x
some_name f [] i x h = cc
some_name f (y ∷ xs) zero x h = let same : y ≡ x = cc in ap f same
some_name f (y ∷ xs) (suc i) x h = some_name f xs i x h

pub no_name : {A : Type 0} (f : A → List ℕ) (xs : List A) (i : ℕ) → slice_get xs i ≡ None → name_at (map f xs) i ≡ []
no_name f [] i h = refl
no_name f (y ∷ xs) zero h = cc
no_name f (y ∷ xs) (suc i) h = no_name f xs i h
