-- The order of keys.
use Rattle.std.proofs.Common.{◌≡◌, ℕ, ◌<◌, nat_lt, Option, Some, None, refl, sym, ap, ◌∙◌, subst, arith, ◌⊎◌, inl, inr}
use Rattle.pb_model.specs.declared.key.Key.{Key}
use Rattle.pb_model.specs.declared.key.Key.TheVariants.{Sum, Dead as Last}
use Rattle.pb_model.specs.Key.{key_of, IsKeyBelow, HasOpenedKey, IsBefore}
use Rattle.pb_model.specs.Weight.{Weight}
use Rattle.pb_model.specs.declared.row.Row.{Row}
use Rattle.pb_model.proofs.Offers.{some_row}
use Rattle.pb_model.specs.Laws.{BestKeysAreUnique, FirstRowsAreUnique, FirstRowsAreBest}
use Rattle.pb_model.proofs.Tests.{below, not_below, by_cases}

-- of two numbers one is below the other, or they are equal
number_cases : (a b : ℕ) → (a < b) ⊎ ((a ≡ b) ⊎ (b < a))
number_cases a b = by_cases (nat_lt a b) (λ e. inl (below a b e))
    (λ e. by_cases (nat_lt b a) (λ f. inr (inr (below b a f))) (λ f. let le = not_below a b e in let ge = not_below b a f in inr (inl (omega arith))))

-- of two keys one is below the other, or they are equal
pub key_cases : (key other : Key) → IsKeyBelow key other ⊎ ((key ≡ other) ⊎ IsKeyBelow other key)
key_cases Last Last = inr (inl refl)
key_cases Last (Sum b k) = inr (inr tt)
key_cases (Sum a h) Last = inl tt
key_cases (Sum a h) (Sum b k) = by_sum (number_cases a b)
  where
    by_estimate : a ≡ b → ((h < k) ⊎ ((h ≡ k) ⊎ (k < h))) → IsKeyBelow (Sum a h) (Sum b k) ⊎ ((Sum a h ≡ Sum b k) ⊎ IsKeyBelow (Sum b k) (Sum a h))
    by_estimate e (inl l) = inl (inr (e, l))
    by_estimate e (inr (inl f)) = inr (inl (λ i. Sum (e i) (f i)))
    by_estimate e (inr (inr g)) = inr (inr (inr (sym e, g)))

    by_sum : ((a < b) ⊎ ((a ≡ b) ⊎ (b < a))) → IsKeyBelow (Sum a h) (Sum b k) ⊎ ((Sum a h ≡ Sum b k) ⊎ IsKeyBelow (Sum b k) (Sum a h))
    by_sum (inl l) = inl (inl l)
    by_sum (inr (inl e)) = by_estimate e (number_cases h k)
    by_sum (inr (inr g)) = inr (inr (inl g))

pub not_both_below : (key other : Key) → IsKeyBelow key other → IsKeyBelow other key → ⊥
not_both_below Last other h k = absurd h
not_both_below (Sum a h) Last l k = absurd k
not_both_below (Sum a h) (Sum b k) (inl l) (inl g) = omega arith
not_both_below (Sum a h) (Sum b k) (inl l) (inr g) = omega (arith, l, g.0)
not_both_below (Sum a h) (Sum b k) (inr l) (inl g) = omega (arith, l.0, g)
not_both_below (Sum a h) (Sum b k) (inr l) (inr g) = omega (arith, l.1, g.1)

pub best_keys_are_unique : BestKeysAreUnique
best_keys_are_unique weight part None None best other = refl
best_keys_are_unique weight part None (Some key) best other = absurd (best (other.0.0, other.0.1, other.0.2, other.0.3))
best_keys_are_unique weight part (Some key) None best other = absurd (other (best.0.0, best.0.1, best.0.2, best.0.3))
best_keys_are_unique weight part (Some key) (Some second) best other = which (key_cases key second)
  where
    which : (IsKeyBelow key second ⊎ ((key ≡ second) ⊎ IsKeyBelow second key)) → ◌≡◌ {A = Option Key} (Some key) (Some second)
    which (inl l) = absurd (other.1 key best.0 l)
    which (inr (inl e)) = ap (λ k. Some k) e
    which (inr (inr g)) = absurd (best.1 second other.0 g)

pub same_key_below : (key other : Key) → key ≡ other → IsKeyBelow key other → ⊥
same_key_below key other e l = not_both_below key other l (subst (λ k. IsKeyBelow k key) e (subst (IsKeyBelow key) (sym e) l))

pub not_both_before : (j : Key) (b : ℕ) (k : Key) (c : ℕ) → IsBefore j b k c → IsBefore k c j b → ⊥
not_both_before j b k c (inl h) (inl l) = not_both_below j k h l
not_both_before j b k c (inl h) (inr l) = same_key_below j k (sym l.0) h
not_both_before j b k c (inr h) (inl l) = same_key_below k j (sym h.0) l
not_both_before j b k c (inr h) (inr l) = omega (arith, h.1, l.1)

abbrev key_at : Weight → Row → Key
key_at weight row = key_of weight row.g row.estimate

pub first_rows_are_unique : FirstRowsAreUnique
first_rows_are_unique weight part state other row other_row one two = which (one.first other other_row two.found two.opened) (two.first state row one.found one.opened)
  where
    same : state ≡ other → (state ≡ other) × (row ≡ other_row)
    same e = (e, some_row row other_row (sym one.found ∙ ap part e ∙ two.found))

    which : ((other ≡ state) ⊎ IsBefore (key_at weight row) state (key_at weight other_row) other) → ((state ≡ other) ⊎ IsBefore (key_at weight other_row) other (key_at weight row) state) → (state ≡ other) × (row ≡ other_row)
    which (inl e) l = same (sym e)
    which (inr h) (inl e) = same e
    which (inr h) (inr l) = absurd (not_both_before (key_at weight row) state (key_at weight other_row) other h l)

pub first_rows_are_best : FirstRowsAreBest
first_rows_are_best weight part state row first = ((state, row, first.found, first.opened, refl), none_below)
  where
    none_below : (other : Key) → HasOpenedKey weight part other → IsKeyBelow other (key_at weight row) → ⊥
    none_below other (at, second, found, opened, is) low = which (first.first at second found opened) (subst (λ k. IsKeyBelow k (key_at weight row)) (sym is) low)
      where
        which : ((at ≡ state) ⊎ IsBefore (key_at weight row) state (key_at weight second) at) → IsKeyBelow (key_at weight second) (key_at weight row) → ⊥
        which (inl e) l = same_key_below (key_at weight second) (key_at weight row) (ap (key_at weight) (some_row second row (sym found ∙ ap part e ∙ first.found))) l
        which (inr (inl h)) l = not_both_below (key_at weight row) (key_at weight second) h l
        which (inr (inr h)) l = same_key_below (key_at weight second) (key_at weight row) (sym h.0) l
