-- Sets of atoms from lists of their numbers.
use Rattle.std.proofs.Common.{◌≡◌, ℕ, zero, suc, ◌+◌, ◌-◌, ◌*◌, ◌/◌, ◌%◌, ◌^◌, ◌<◌, ◌≤◌, Bool, true, false, ◌||◌, nat_eq, List, [], ◌∷◌, ◌++◌, refl, sym, ap, ◌∙◌, inl, inr, ◌⊎◌, le_trans, eq-or-lt_of_le, arith}
use Rattle.std.proofs.Math.Bool.{or-false, or-true}
use Rattle.std.specs.List.{list_any}
use Rattle.std.proofs.lemmas.Bool.Decides.{nat_tests}
use Rattle.std.proofs.lemmas.Nat.{pow-add, pow_pos, div-mul-add}
use Rattle.std.proofs.lemmas.List.Folds.{list_any-append}
use Rattle.std.proofs.Math.Nat.{mul_assoc, add-mul-div_right, div-mul-le_self, mul-le-mul_right}
use Rattle.pb_packed.specs.Bits.{bits_of, with_bits_of, bit_number}
use Rattle.pb_task.specs.Strips.{set_of}
use Rattle.pb_task.proofs.Callers.{sets_are_of_atoms}
use Rattle.pb_strips.specs.Grounding.{numbered_set}

-- ---- sets as numbers

pub set_below : (count : ℕ) (p : ℕ → Bool) → set_of count p < 2 ^ count
set_below count p = (sets_are_of_atoms.0 count p).0

pub same_sets : (count : ℕ) (p q : ℕ → Bool) → ((a : ℕ) → a < count → p a ≡ q a) → set_of count p ≡ set_of count q
same_sets zero p q same = refl
same_sets (suc m) p q same =
    ap (λ s. s + bit_number (p m) * 2 ^ m) (same_sets m p q (λ a less. same a (omega arith))) ∙ ap (λ b. set_of m q + bit_number b * 2 ^ m) (same m (omega arith))

-- ---- one atom more

-- a bit below those that are added
low_bit : (low b n m : ℕ) → n < m → bits_of (low + b * 2 ^ m) n 1 ≡ bits_of low n 1
low_bit low b n m less = at (m - n - 1) (omega arith)
  where
    at : (k : ℕ) → m ≡ k + (1 + n) → bits_of (low + b * 2 ^ m) n 1 ≡ bits_of low n 1
    at k e =
        let power : 2 ^ m ≡ 2 ^ k * 2 * 2 ^ n =
        ap (λ j. 2 ^ j) e ∙ pow-add 2 k (1 + n) ∙ ap (λ j. 2 ^ k * j) (pow-add 2 1 n) ∙ sym (mul_assoc (2 ^ k) 2 (2 ^ n)) in
        let product : b * 2 ^ m ≡ b * (2 ^ k * 2) * 2 ^ n = ap (λ j. b * j) power ∙ sym (mul_assoc b (2 ^ k * 2) (2 ^ n)) in
        let quotient : (low + b * 2 ^ m) / 2 ^ n ≡ low / 2 ^ n + b * (2 ^ k * 2) =
        ap (λ j. (low + j) / 2 ^ n) product ∙ add-mul-div_right low (b * (2 ^ k * 2)) {z = 2 ^ n} (pow_pos n) in
        let even : b * (2 ^ k * 2) ≡ b * 2 ^ k * 2 = sym (mul_assoc b (2 ^ k) 2) in
        ap (λ j. j % 2) quotient ∙ (ap (λ j. (low / 2 ^ n + j) % 2) even ∙ omega arith)

-- the highest bit
high_bit : (low m : ℕ) (b : Bool) → low < 2 ^ m → bits_of (low + bit_number b * 2 ^ m) m 1 ≡ bit_number b
high_bit low m b less =
    let turned : low + bit_number b * 2 ^ m ≡ bit_number b * 2 ^ m + low = omega arith in
    ap (λ j. j / 2 ^ m % 2) turned ∙ (ap (λ j. j % 2) (div-mul-add (bit_number b) (2 ^ m) low less) ∙ at b)
  where
    at : (b : Bool) → bit_number b % 2 ≡ bit_number b
    at true = refl
    at false = refl

-- the highest bit comes on
highest_more : (low m : ℕ) (b : Bool) → low < 2 ^ m → with_bits_of (low + bit_number b * 2 ^ m) m 1 1 ≡ low + 1 * 2 ^ m
highest_more low m b less =
    ap (λ j. low + bit_number b * 2 ^ m - j * 2 ^ m + 1 * 2 ^ m) (high_bit low m b less) ∙ omega arith

-- a lower bit comes on
lower_more : (low m n : ℕ) (b : Bool) → n < m → with_bits_of (low + bit_number b * 2 ^ m) n 1 1 ≡ with_bits_of low n 1 1 + bit_number b * 2 ^ m
lower_more low m n b less =
    let rest : ℕ = low / 2 ^ n in
    let field : bits_of low n 1 * 2 ^ n ≤ low = le_trans (mul-le-mul_right (2 ^ n) (mod-le rest)) (div-mul-le_self low (2 ^ n)) in
    ap (λ j. low + bit_number b * 2 ^ m - j * 2 ^ n + 1 * 2 ^ n) (low_bit low (bit_number b) n m less) ∙ omega (arith, field)
  where
    mod-le : (x : ℕ) → x % 2 ≤ x
    mod-le x = omega arith

pub one_more : (count n : ℕ) (p q : ℕ → Bool) → n < count → ((a : ℕ) → a < count → q a ≡ (p a || nat_eq a n)) → with_bits_of (set_of count p) n 1 1 ≡ set_of count q
one_more zero n p q less same = absurd (omega arith)
one_more (suc m) n p q less same = at (λ below. one_more m n p q below (λ a small. same a (omega arith))) (eq-or-lt_of_le (let below : n ≤ m = omega arith in below))
  where
    other : (a : ℕ) → a < n → (p a || nat_eq a n) ≡ p a
    other a below = let no : nat_eq a n ≡ false = grind (arith, nat_tests) in ap (λ b. p a || b) no ∙ or-false (p a)

    higher : n < m → (p m || nat_eq m n) ≡ p m
    higher below = let no : nat_eq m n ≡ false = grind (arith, nat_tests) in ap (λ b. p m || b) no ∙ or-false (p m)

    here : n ≡ m → (p m || nat_eq m n) ≡ true
    here e = let yes : nat_eq m n ≡ true = grind (arith, nat_tests) in ap (λ b. p m || b) yes ∙ or-true (p m)

    at : (n < m → with_bits_of (set_of m p) n 1 1 ≡ set_of m q) → (n ≡ m) ⊎ (n < m) → with_bits_of (set_of (suc m) p) n 1 1 ≡ set_of (suc m) q
    at lower (inl e) =
        ap (λ k. with_bits_of (set_of (suc m) p) k 1 1) e ∙ (highest_more (set_of m p) m (p m) (set_below m p)
        ∙ (ap (λ s. s + 1 * 2 ^ m) (same_sets m p q (λ a below. sym (same a (omega arith) ∙ other a (omega arith))))
        ∙ ap (λ b. set_of m q + bit_number b * 2 ^ m) (sym (same m (omega arith) ∙ here e))))
    at lower (inr below) =
        lower_more (set_of m p) m n (p m) below
        ∙ (ap (λ s. s + bit_number (p m) * 2 ^ m) (lower below)
        ∙ ap (λ b. set_of m q + bit_number b * 2 ^ m) (sym (same m (omega arith) ∙ higher below)))

pub none_more : (count : ℕ) → numbered_set count [] ≡ 0
none_more zero = refl
none_more (suc m) = ap (λ s. s + 0 * 2 ^ m) (none_more m) ∙ omega arith

pub one_number_more : (count n : ℕ) (numbers : List ℕ) → n < count → with_bits_of (numbered_set count numbers) n 1 1 ≡ numbered_set count (numbers ++ n ∷ [])
one_number_more count n numbers less =
    one_more count n (λ a. list_any (nat_eq a) numbers) (λ a. list_any (nat_eq a) (numbers ++ n ∷ [])) less
    (λ a below. list_any-append (nat_eq a) numbers (n ∷ []) ∙ ap (λ b. list_any (nat_eq a) numbers || b) (or-false (nat_eq a n)))
