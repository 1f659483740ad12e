-- How many instances there are.
use Rattle.std.proofs.Common.{◌≡◌, ◌≤◌, ◌+◌, ◌*◌, ℕ, zero, suc, Bool, true, false, nat_le, List, [], ◌∷◌, length, map, refl, sym, ap, ◌∙◌, arith, length-append}
use Rattle.std.proofs.lemmas.List.{length-map}
use Rattle.std.proofs.Math.Nat.{mul-zero, zero-mul, suc-mul, mul_assoc}
use Rattle.std.proofs.lemmas.Nat.{mul-le}
use Rattle.std.proofs.lemmas.Bool.Decides.{nat_tests}
use Rattle.std.specs.List.{flat_map}
use Rattle.pb_ground.specs.Instances.{choices_of}
use Rattle.pb_ground.specs.Count.{product_of}
use Rattle.pb_ground.specs.Errors.{told}

one_more : (n m : ℕ) → m + n * m ≡ suc n * m
one_more n m = omega (arith, suc-mul n m)

each_choice : (rest : List (List ℕ)) (first : List ℕ) → length (flat_map (λ x. map (λ xs. x ∷ xs) rest) first) ≡ length first * length rest
each_choice rest [] = sym (zero-mul (length rest))
each_choice rest (x ∷ first) =
    length-append (map (λ xs. x ∷ xs) rest) (flat_map (λ x. map (λ xs. x ∷ xs) rest) first)
    ∙ (ap (λ n. n + length (flat_map (λ x. map (λ xs. x ∷ xs) rest) first)) (length-map rest (λ xs. x ∷ xs))
    ∙ (ap (λ n. length rest + n) (each_choice rest first) ∙ one_more (length first) (length rest)))

pub product_is : (choices : List (List ℕ)) → length (choices_of choices) ≡ product_of choices
product_is [] = refl
product_is (first ∷ rest) = each_choice (choices_of rest) first ∙ ap (λ n. length first * n) (product_is rest)

told_small : (a b : ℕ) → a ≤ 4294967295 → told (told a * b) ≡ told (a * b)
told_small a b h = let e : told a ≡ a = omega arith in ap (λ n. told (n * b)) e

told_large : (a b : ℕ) → 4294967295 ≤ a → 1 ≤ b → told (told a * b) ≡ told (a * b)
told_large a b h positive =
    let cut : 4294967295 ≤ told a = omega arith in
    let here : 4294967295 * 1 ≤ told a * b = mul-le 4294967295 1 (told a) b cut positive in
    let there : 4294967295 * 1 ≤ a * b = mul-le 4294967295 1 a b h positive in
    omega arith

-- a product that is cut off at the greatest number can be cut off before
pub told_product : (a b : ℕ) → told (told a * b) ≡ told (a * b)
told_product a zero = ap told (mul-zero (told a) ∙ sym (mul-zero a))
told_product a (suc b) = at (nat_le a 4294967295) refl
  where
    at : (t : Bool) → nat_le a 4294967295 ≡ t → told (told a * suc b) ≡ told (a * suc b)
    at true e = let h : a ≤ 4294967295 = grind (arith, nat_tests) in told_small a (suc b) h
    at false e = let h : 4294967295 ≤ a = grind (arith, nat_tests) in told_large a (suc b) h (omega arith)

-- one factor more, cut off
pub told_step : (c f p all : ℕ) → told (c * (f * p)) ≡ told all → told (told (c * f) * p) ≡ told all
told_step c f p all e = told_product (c * f) p ∙ (ap told (mul_assoc c f p) ∙ e)
