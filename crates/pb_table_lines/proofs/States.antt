-- States as words of hexadecimal digits.
use Rattle.std.proofs.Common.{lit<, ◌≡◌, ℕ, zero, suc, ◌+◌, ◌*◌, ◌/◌, ◌%◌, ◌^◌, ◌<◌, ◌≤◌, Bool, true, ◌&&◌, ltb, List, [], ◌∷◌, ◌++◌, length, refl, sym, ap, ◌∙◌, subst, arith, append-nil, append_assoc, mul-le-mul_right, mul_assoc, mul_comm}
use Rattle.std.specs.List.{list_all}
use Rattle.std.proofs.Math.Nat.{pow-suc}
use Rattle.std.proofs.lemmas.Nat.{mod_below, div-add-mod', div_below}
use Rattle.std.proofs.lemmas.Bool.{ltb-true, lt-ltb, and_parts, and_from}
use Rattle.std.proofs.lemmas.Bool.Decides.{nat_tests}
use Rattle.std.proofs.lemmas.List.Folds.{list_all-append}
use Rattle.pb_packed.specs.Digits.{hex_digit, hex_digits}
use Rattle.pb_packed.proofs.Callers.{no_digits, one_more, followed, digits_are_hex}
use Rattle.pb_table_lines.specs.Words.{hex_value}
use Rattle.pb_table_lines.proofs.Spelled.{hex_value_after, IsStateWord}

abbrev are_values : List ℕ → Bool
are_values word = list_all (λ b. ltb (hex_value b) 16) word

-- ---- digits and their values

value_of_digit : (d : ℕ) → d < 16 → hex_value (hex_digit d) ≡ d
value_of_digit d small = grind (arith, nat_tests)

digit_of_value : (b : ℕ) → hex_value b < 16 → hex_digit (hex_value b) ≡ b
digit_of_value b small = grind (arith, nat_tests)

-- ---- the digits of a number are read as it

value_behind : (n : ℕ) (word : List ℕ) (b : ℕ) → hex_value_after n (word ++ b ∷ []) ≡ hex_value_after n word * 16 + hex_value b
value_behind n [] b = refl
value_behind n (c ∷ word) b = value_behind (n * 16 + hex_value c) word b

value_of_digits : (count n : ℕ) → n < 16 ^ count → hex_value_after 0 (hex_digits count n) ≡ n
value_of_digits zero n small = ap (hex_value_after 0) (no_digits n) ∙ (let none : 0 ≡ n = omega (arith, small) in none)
value_of_digits (suc count) n small =
    let power : 16 ^ suc count ≡ 16 ^ count * 16 = pow-suc 16 count in
    let front : hex_value_after 0 (hex_digits count (n / 16)) ≡ n / 16 = value_of_digits count (n / 16) (div_below n 16 (16 ^ count) (lit< tt) (omega (arith, power, small))) in
    let last : hex_value (hex_digit (n % 16)) ≡ n % 16 = value_of_digit (n % 16) (mod_below n 16 (lit< tt)) in
    ap (hex_value_after 0) (one_more count n) ∙ value_behind 0 (hex_digits count (n / 16)) (hex_digit (n % 16))
    ∙ ap (λ k. k * 16 + hex_value (hex_digit (n % 16))) front ∙ ap (λ k. n / 16 * 16 + k) last ∙ div-add-mod' n 16

digits_are_values : (count n : ℕ) → are_values (hex_digits count n) ≡ true
digits_are_values zero n = ap are_values (no_digits n)
digits_are_values (suc count) n =
    let small : n % 16 < 16 = mod_below n 16 (lit< tt) in
    let value : hex_value (hex_digit (n % 16)) ≡ n % 16 = value_of_digit (n % 16) small in
    let last : ltb (hex_value (hex_digit (n % 16))) 16 ≡ true = lt-ltb _ _ (omega (arith, small, value)) in
    ap are_values (one_more count n) ∙ list_all-append (λ b. ltb (hex_value b) 16) (hex_digits count (n / 16)) (hex_digit (n % 16) ∷ [])
    ∙ and_from (are_values (hex_digits count (n / 16))) (ltb (hex_value (hex_digit (n % 16))) 16 && true) (digits_are_values count (n / 16)) (and_from (ltb (hex_value (hex_digit (n % 16))) 16) true last refl)

pub state_word : (digits : ℕ) (word : List ℕ) (state : ℕ) → word ≡ hex_digits digits state → state < 16 ^ digits → IsStateWord digits word state
state_word digits word state is small = subst (λ w. IsStateWord digits w state) (sym is) (record {
  count = (digits_are_hex digits state).0;
  all = digits_are_values digits state;
  value = sym (value_of_digits digits state small);
})

-- ---- what is read has these digits

digits_of_value : (count n : ℕ) (word : List ℕ) → are_values word ≡ true → hex_digits (count + length word) (hex_value_after n word) ≡ hex_digits count n ++ word
digits_of_value count n [] e = ap (λ k. hex_digits k n) (let same : count + 0 ≡ count = omega arith in same) ∙ sym (append-nil (hex_digits count n))
digits_of_value count n (b ∷ bs) e =
    let c = and_parts (ltb (hex_value b) 16) (are_values bs) e in
    let small : hex_value b < 16 = ltb-true _ _ c.0 in
    let longer : count + suc (length bs) ≡ suc count + length bs = omega arith in
    ap (λ k. hex_digits k (hex_value_after (n * 16 + hex_value b) bs)) longer
    ∙ digits_of_value (suc count) (n * 16 + hex_value b) bs c.1
    ∙ ap (λ (t : List ℕ). t ++ bs) (followed count n (hex_value b) small ∙ ap (λ d. hex_digits count n ++ d ∷ []) (digit_of_value b small))
    ∙ append_assoc (hex_digits count n) (b ∷ []) bs

value_is_small : (n : ℕ) (word : List ℕ) → are_values word ≡ true → hex_value_after n word < (n + 1) * 16 ^ length word
value_is_small n [] e = omega arith
value_is_small n (b ∷ bs) e =
    let c = and_parts (ltb (hex_value b) 16) (are_values bs) e in
    let digit : hex_value b < 16 = ltb-true _ _ c.0 in
    let rest : hex_value_after (n * 16 + hex_value b) bs < (n * 16 + hex_value b + 1) * 16 ^ length bs = value_is_small (n * 16 + hex_value b) bs c.1 in
    let power : (n + 1) * 16 ^ suc (length bs) ≡ ((n + 1) * 16) * 16 ^ length bs = ap (λ p. (n + 1) * p) (pow-suc 16 (length bs) ∙ mul_comm (16 ^ length bs) 16) ∙ sym (mul_assoc (n + 1) 16 (16 ^ length bs)) in
    let le : n * 16 + hex_value b + 1 ≤ (n + 1) * 16 = omega (arith, digit) in
    let more : (n * 16 + hex_value b + 1) * 16 ^ length bs ≤ ((n + 1) * 16) * 16 ^ length bs = mul-le-mul_right (16 ^ length bs) le in
    omega (arith, rest, power, more)

pub state_word_is : (digits : ℕ) (word : List ℕ) (state : ℕ) → IsStateWord digits word state → (word ≡ hex_digits digits state) × (state < 16 ^ digits)
state_word_is digits word state is =
    let long : 0 + length word ≡ digits = (let l = is.count in omega (arith, l)) in
    let same : hex_digits (0 + length word) (hex_value_after 0 word) ≡ hex_digits 0 0 ++ word = digits_of_value 0 0 word is.all in
    let small : hex_value_after 0 word < (0 + 1) * 16 ^ length word = value_is_small 0 word is.all in
    let limit : hex_value_after 0 word < (0 + 1) * 16 ^ digits = subst (λ k. hex_value_after 0 word < (0 + 1) * 16 ^ k) is.count small in (
      sym (ap (λ k. hex_digits digits k) is.value ∙ ap (λ k. hex_digits k (hex_value_after 0 word)) (sym long) ∙ same ∙ ap (λ (t : List ℕ). t ++ word) (no_digits 0)),
      (let v = is.value in omega (arith, v, limit)),
    )
