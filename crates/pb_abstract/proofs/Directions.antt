-- What holds in one of four directions.
use Rattle.std.proofs.Common.{◌≡◌, ℕ, zero, suc, ◌<◌, Bool, true, false, Option, Some, List, [], ◌∷◌, ◌||◌, sym, arith, ◌⊎◌, inl, inr, true≢false}
use Rattle.std.proofs.lemmas.Bool.{or_left, or_right}
use Rattle.pb_model.proofs.Callers.{or_true}
use Rattle.pb_task.specs.Grid.{cell_beside}

pub four : (a a' b b' c c' d d' : Option ℕ) → a ≡ a' → b ≡ b' → c ≡ c' → d ≡ d' → ◌≡◌ {A = List (Option ℕ)} (a ∷ (b ∷ (c ∷ (d ∷ [])))) (a' ∷ (b' ∷ (c' ∷ (d' ∷ []))))
four a a' b b' c c' d d' e f g h = cc

pub one_of_four : (test : ℕ → Bool) → (test 0 || (test 1 || (test 2 || (test 3 || false)))) ≡ true → (action : ℕ) × (test action ≡ true)
one_of_four test e = first (or_true (test 0) (test 1 || (test 2 || (test 3 || false))) e) where
  none : false ≡ true → (action : ℕ) × (test action ≡ true)
  none f = absurd (true≢false (sym f))

  fourth : ((test 3 ≡ true) ⊎ (false ≡ true)) → (action : ℕ) × (test action ≡ true)
  fourth (inl h) = (3, h)
  fourth (inr h) = none h

  third : ((test 2 ≡ true) ⊎ ((test 3 || false) ≡ true)) → (action : ℕ) × (test action ≡ true)
  third (inl h) = (2, h)
  third (inr h) = fourth (or_true (test 3) false h)

  second : ((test 1 ≡ true) ⊎ ((test 2 || (test 3 || false)) ≡ true)) → (action : ℕ) × (test action ≡ true)
  second (inl h) = (1, h)
  second (inr h) = third (or_true (test 2) (test 3 || false) h)

  first : ((test 0 ≡ true) ⊎ ((test 1 || (test 2 || (test 3 || false))) ≡ true)) → (action : ℕ) × (test action ≡ true)
  first (inl h) = (0, h)
  first (inr h) = second (or_true (test 1) (test 2 || (test 3 || false)) h)

pub among_four : (test : ℕ → Bool) (action : ℕ) → action < 4 → test action ≡ true → (test 0 || (test 1 || (test 2 || (test 3 || false)))) ≡ true
among_four test zero less e = or_left (test 0) (test 1 || (test 2 || (test 3 || false))) e
among_four test (suc zero) less e = or_right (test 0) (test 1 || (test 2 || (test 3 || false))) (or_left (test 1) (test 2 || (test 3 || false)) e)
among_four test (suc (suc zero)) less e = or_right (test 0) (test 1 || (test 2 || (test 3 || false))) (or_right (test 1) (test 2 || (test 3 || false)) (or_left (test 2) (test 3 || false) e))
among_four test (suc (suc (suc zero))) less e =
    or_right (test 0) (test 1 || (test 2 || (test 3 || false))) (or_right (test 1) (test 2 || (test 3 || false)) (or_right (test 2) (test 3 || false) (or_left (test 3) false e)))
among_four test (suc (suc (suc (suc more)))) less e = absurd (omega arith)

pub by_four : (x y action : ℕ) (cell : ℕ × ℕ) → cell_beside x y action ≡ Some cell → action < 4
by_four x y zero cell e = omega arith
by_four x y (suc zero) cell e = omega arith
by_four x y (suc (suc zero)) cell e = omega arith
by_four x y (suc (suc (suc zero))) cell e = omega arith
by_four x y (suc (suc (suc (suc more)))) cell e = cc
