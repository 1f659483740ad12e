-- The hexadecimal digits of a number, one after another.
use Rattle.std.proofs.Common.{lit<, length, get_or, slice_set, ◌≡◌, ℕ, suc, ◌+◌, ◌-◌, ◌*◌, ◌/◌, ◌%◌, ◌^◌, ◌<◌, ◌≤◌, List, [], ◌∷◌, ◌++◌, take, refl, sym, ap, ◌∙◌, arith}
use Rattle.std.proofs.lemmas.Nat.{shr-shr, div-mul-add, mod-mul-add, pow-add, pow_pos}
use Rattle.std.proofs.Math.Nat.{mul-le-mul_right, pow-le-pow_right, mul-div_cancel, mul_assoc, add-mul, mul_comm, mul-mod_left}
use Rattle.std.proofs.Math.Seq.{take-suc}
use Rattle.pb_packed.specs.Bits.{bits_of, with_bits_of}
use Rattle.std.proofs.lemmas.List.{take_more_set}
use Rattle.pb_packed.specs.Digits.{hex_digit, hex_digits}

pub no_digits : (n : ℕ) → hex_digits 0 n ≡ []
unfolding hex_digits
no_digits n = refl

pub one_more : (count n : ℕ) → hex_digits (suc count) n ≡ hex_digits count (n / 16) ++ hex_digit (n % 16) ∷ []
unfolding hex_digits
one_more count n = refl

-- the first digits of a number, and the next
pub next_digit : (n at count : ℕ) → hex_digits (suc count) (n / 2 ^ at) ≡ hex_digits count (n / 2 ^ (at + 4)) ++ hex_digit (n / 2 ^ at % 2 ^ 4) ∷ []
next_digit n at count = one_more count (n / 2 ^ at) ∙ ap (λ m. hex_digits count m ++ hex_digit (n / 2 ^ at % 16) ∷ []) (shr-shr n at 4)

-- one more digit of `count` is written
pub written : (count n i at digit : ℕ) (out : List ℕ) → i < count → count ≤ length out → at ≡ 4 * (count - 1 - i)
    → take i out ≡ hex_digits i (n / 2 ^ (4 * (count - i))) → digit ≡ hex_digit (n / 2 ^ at % 2 ^ 4)
    → take (i + 1) (slice_set out i digit) ≡ hex_digits (i + 1) (n / 2 ^ (4 * (count - (i + 1))))
written count n i at digit out below size place before is =
    let inside : i < length out = omega arith in
    let here : at ≡ 4 * (count - (i + 1)) = omega arith in
    let above : 4 * (count - (i + 1)) + 4 ≡ 4 * (count - i) = omega arith in
    let more : suc i ≡ i + 1 = omega arith in
    let digits : hex_digits (suc i) (n / 2 ^ (4 * (count - (i + 1)))) ≡ hex_digits i (n / 2 ^ (4 * (count - i))) ++ hex_digit (n / 2 ^ (4 * (count - (i + 1))) % 2 ^ 4) ∷ [] =
    next_digit n (4 * (count - (i + 1))) i ∙ ap (λ k. hex_digits i (n / 2 ^ k) ++ hex_digit (n / 2 ^ (4 * (count - (i + 1))) % 2 ^ 4) ∷ []) above in
    take_more_set out i digit inside ∙ ap (λ front. front ++ digit ∷ []) before
    ∙ ap (λ d. hex_digits i (n / 2 ^ (4 * (count - i))) ++ d ∷ []) (is ∙ ap (λ k. hex_digit (n / 2 ^ k % 2 ^ 4)) here)
    ∙ sym digits ∙ ap (λ k. hex_digits k (n / 2 ^ (4 * (count - (i + 1))))) more

-- the digits of a number with one more behind
pub followed : (count n digit : ℕ) → digit < 16 → hex_digits (suc count) (n * 16 + digit) ≡ hex_digits count n ++ hex_digit digit ∷ []
followed count n digit small =
    let q : (n * 16 + digit) / 16 ≡ n = div-mul-add n 16 digit small in
    let r : (n * 16 + digit) % 16 ≡ digit = mod-mul-add n 16 digit small in
    one_more count (n * 16 + digit) ∙ ap (λ m. hex_digits count m ++ hex_digit ((n * 16 + digit) % 16) ∷ []) q ∙ ap (λ d. hex_digits count n ++ hex_digit d ∷ []) r

-- one more digit is read
pub read : (i number digit next : ℕ) (text : List ℕ) → i < length text → take i text ≡ hex_digits i number → digit < 16
    → hex_digit digit ≡ get_or text i 0 → next ≡ number * 16 + digit → take (i + 1) text ≡ hex_digits (i + 1) next
read i number digit next text below before small is next_is =
    let more : suc i ≡ i + 1 = omega arith in
    ap (λ k. take k text) (sym more) ∙ take-suc text i 0 below ∙ ap (λ front. front ++ get_or text i 0 ∷ []) before
    ∙ ap (λ d. hex_digits i number ++ d ∷ []) (sym is) ∙ sym (followed i number digit small) ∙ ap (λ n. hex_digits (suc i) n) (sym next_is)
    ∙ ap (λ k. hex_digits k next) more

-- a number of some digits, with one more, is below the next power of 16
pub grows : (i number digit : ℕ) → number < 2 ^ (4 * i) → digit < 16 → number * 16 + digit < 2 ^ (4 * (i + 1))
grows i number digit below small =
    let sum : 4 * i + 4 ≡ 4 * (i + 1) = omega arith in
    let power : 2 ^ (4 * i) * 2 ^ 4 ≡ 2 ^ (4 * (i + 1)) = sym (pow-add 2 (4 * i) 4) ∙ ap (λ k. 2 ^ k) sum in
    let next : number + 1 ≤ 2 ^ (4 * i) = omega (arith, below) in
    let room : (number + 1) * 2 ^ 4 ≤ 2 ^ (4 * i) * 2 ^ 4 = mul-le-mul_right (2 ^ 4) next in
    omega (arith, power, room, small)

-- a number of fewer than 16 digits leaves room for one more in a word
pub has_room : (i number : ℕ) → i < 16 → number < 2 ^ (4 * i) → number * 16 + 15 < 2 ^ 64
has_room i number below small =
    let grown : number * 16 + 15 < 2 ^ (4 * (i + 1)) = grows i number 15 small (lit< tt) in
    let last : 4 * (i + 1) ≤ 64 = omega arith in
    let limit : 2 ^ (4 * (i + 1)) ≤ 2 ^ 64 = pow-le-pow_right {n = 2} (lit< tt) {i = 4 * (i + 1)} {j = 64} last in
    omega (arith, grown, limit)

-- a digit is put below others that stand where they belong
pub placed : (v at digit : ℕ) → with_bits_of (v * 2 ^ (at + 4)) at 4 digit ≡ (v * 16 + digit) * 2 ^ at
placed v at digit =
    let power : v * 2 ^ (at + 4) ≡ v * 16 * 2 ^ at = ap (λ p. v * p) (pow-add 2 at 4 ∙ mul_comm (2 ^ at) (2 ^ 4)) ∙ sym (mul_assoc v 16 (2 ^ at)) in
    let moved : v * 2 ^ (at + 4) / 2 ^ at ≡ v * 16 = ap (λ m. m / 2 ^ at) power ∙ mul-div_cancel (v * 16) (pow_pos at) in
    let none : bits_of (v * 2 ^ (at + 4)) at 4 ≡ 0 = ap (λ m. m % 16) moved ∙ mul-mod_left v 16 in
    omega (arith, power, ap (λ b. b * 2 ^ at) none, add-mul (v * 16) digit (2 ^ at))
