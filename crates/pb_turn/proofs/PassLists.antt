-- Lists of what is known of each pass: one is changed, one is added, and their parts.
use Rattle.std.proofs.Common.{◌≡◌, ◌≢◌, ℕ, zero, suc, ◌+◌, ◌≤◌, List, [], ◌∷◌, ◌++◌, map, set, sum_by, sym, refl, ap, subst, ⊎_elim, arith}
use Rattle.std.proofs.lemmas.List.Sums.{sum_by-cons, sum_by-append}
use mathlib.Core.Option.{some, some-injective, some-ne-none}
use mathlib.Core.List.{map-append}
use lib.ListN.{get_elem?}
use lib.Seq.{map-set}
use Rattle.atomic_table.proofs.Lists.{at_set, at_snoc}
pub use Rattle.std.proofs.lemmas.Option.{same_Some as Some_same}

module _ {A : Type 0} where
  pub put_there : (l : List A) (i : ℕ) (a b : A) → get_elem? l i ≡ some a → get_elem? (set l i b) i ≡ some b
  put_there [] i a b e = absurd (some-ne-none a (sym e))
  put_there (x ∷ xs) zero a b e = refl
  put_there (x ∷ xs) (suc i) a b e = put_there xs i a b e

  -- what holds of each item holds after one is changed
  pub each_set : (K : ℕ → A → Type 0) (l : List A) (i : ℕ) (b : A) → K i b → ((j : ℕ) (a : A) → j ≢ i → get_elem? l j ≡ some a → K j a) → (j : ℕ) (a : A) → get_elem? (set l i b) j ≡ some a → K j a
  each_set K l i b mine others j a e = ⊎_elim (λ (t : (j ≡ i) × (b ≡ a)). subst (λ (x : ℕ × A). K x.0 x.1) (λ k. (sym t.0 k, t.1 k)) mine)
      (λ (t : (j ≢ i) × (get_elem? l j ≡ some a)). others j a t.0 t.1) (at_set l i j b a e)

  -- what holds of each item holds after one is added, where it holds of that at any place
  pub each_snoc : (K : ℕ → A → Type 0) (l : List A) (b : A) → ((j : ℕ) → K j b) → ((j : ℕ) (a : A) → get_elem? l j ≡ some a → K j a) → (j : ℕ) (a : A) → get_elem? (l ++ b ∷ []) j ≡ some a → K j a
  each_snoc K l b mine others j a e = ⊎_elim (λ (t : get_elem? l j ≡ some a). others j a t) (λ (t : b ≡ a). subst (K j) t (mine j)) (at_snoc l b a j e)

  -- the sum of f over a list, where one item is changed or added, and what one or two items have of it
  module _ (f : A → ℕ) where
    same_f : (x a : A) → some x ≡ some a → f x ≡ f a
    same_f x a e = ap f (some-injective x a e)

    pub sum_set : (l : List A) (i : ℕ) (a b : A) → get_elem? l i ≡ some a → sum_by f (set l i b) + f a ≡ sum_by f l + f b
    sum_set [] i a b e = absurd (some-ne-none a (sym e))
    sum_set (x ∷ xs) zero a b e = omega (arith, sum_by-cons f x xs, sum_by-cons f b xs, same_f x a e)
    sum_set (x ∷ xs) (suc i) a b e = omega (arith, sum_by-cons f x xs, sum_by-cons f x (set xs i b), sum_set xs i a b e)

    pub sum_snoc : (l : List A) (b : A) → sum_by f (l ++ b ∷ []) ≡ sum_by f l + f b
    sum_snoc l b = omega (arith, sum_by-append f l (b ∷ []), sum_by-cons f b [])

    pub sum_one : (l : List A) (i : ℕ) (a : A) → get_elem? l i ≡ some a → f a ≤ sum_by f l
    sum_one [] i a e = absurd (some-ne-none a (sym e))
    sum_one (x ∷ xs) zero a e = omega (arith, sum_by-cons f x xs, same_f x a e)
    sum_one (x ∷ xs) (suc i) a e = omega (arith, sum_by-cons f x xs, sum_one xs i a e)

    pub sum_two : (l : List A) (i j : ℕ) (a b : A) → i ≢ j → get_elem? l i ≡ some a → get_elem? l j ≡ some b → f a + f b ≤ sum_by f l
    sum_two [] i j a b n e k = absurd (some-ne-none a (sym e))
    sum_two (x ∷ xs) zero zero a b n e k = absurd (n refl)
    sum_two (x ∷ xs) zero (suc j) a b n e k = omega (arith, sum_by-cons f x xs, same_f x a e, sum_one xs j b k)
    sum_two (x ∷ xs) (suc i) zero a b n e k = omega (arith, sum_by-cons f x xs, same_f x b k, sum_one xs i a e)
    sum_two (x ∷ xs) (suc i) (suc j) a b n e k = omega (arith, sum_by-cons f x xs, sum_two xs i j a b (λ p. n (ap suc p)) e k)

module _ {A B : Type 0} (f : A → B) where
  pub map_at : (l : List A) (j : ℕ) (b : B) → get_elem? (map f l) j ≡ some b → (a : A) × (get_elem? l j ≡ some a) × (f a ≡ b)
  map_at [] j b e = absurd (some-ne-none b (sym e))
  map_at (x ∷ xs) zero b e = (x, refl, some-injective (f x) b e)
  map_at (x ∷ xs) (suc j) b e = map_at xs j b e

  pub map_set : (l : List A) (i : ℕ) (b : A) → map f (set l i b) ≡ set (map f l) i (f b)
  map_set l i b = map-set f l i b

  pub map_snoc : (l : List A) (b : A) → map f (l ++ b ∷ []) ≡ map f l ++ f b ∷ []
  map_snoc l b = map-append f l (b ∷ [])
