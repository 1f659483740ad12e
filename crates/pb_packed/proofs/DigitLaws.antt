-- The digits of a number are hexadecimal digits, and tell the number.
use Rattle.std.proofs.Common.{lit<, rules, pow-suc, ◌≡◌, ℕ, zero, suc, ◌+◌, ◌*◌, ◌/◌, ◌%◌, ◌^◌, ◌<◌, IsTrue, ◌≤◌, Option, Some, None, IfSome, List, [], ◌∷◌, ◌++◌, length, take, get_or, All, sym, ap, subst, ◌∙◌, arith, length-append}
use Rattle.std.proofs.lemmas.Nat.{mod_below, div-add-mod', div_below}
use Rattle.std.proofs.lemmas.List.{append_cancel_left}
use Rattle.std.proofs.lemmas.List.Elements.{All-append, All-cons}
use Rattle.std.proofs.Math.Seq.{take-append_seam}
use Rattle.pb_packed.specs.Digits.{hex_digit, hex_digits, is_hex_digit, AreHexDigits}
use Rattle.pb_packed.specs.Sizes.{most_digits}
use Rattle.pb_packed.specs.Laws.{DigitsAreHex, DigitsTellNumbers}
use Rattle.pb_packed.proofs.HexDigits.{no_digits, one_more}

is_digit : (digit : ℕ) → digit < 16 → IsTrue (is_hex_digit (hex_digit digit))
is_digit digit small = search (arith, small)

digits_tell_apart : (d e : ℕ) → d < 16 → e < 16 → hex_digit d ≡ hex_digit e → d ≡ e
digits_tell_apart d e small small' same = grind arith

pub digits_are_hex : DigitsAreHex
digits_are_hex zero n = (ap length (no_digits n), subst (λ text. All (λ c. IsTrue (is_hex_digit c)) text) (sym (no_digits n)) (search rules))
digits_are_hex (suc count) n =
    let front = digits_are_hex count (n / 16) in
    let last : All (λ c. IsTrue (is_hex_digit c)) (hex_digit (n % 16) ∷ []) = All-cons (λ c. IsTrue (is_hex_digit c)) _ [] (is_digit (n % 16) (mod_below n 16 (lit< tt))) (search rules) in (
      ap length (one_more count n) ∙ length-append (hex_digits count (n / 16)) (hex_digit (n % 16) ∷ []) ∙ omega (arith, front.0),
      subst (λ text. All (λ c. IsTrue (is_hex_digit c)) text) (sym (one_more count n)) (All-append (λ c. IsTrue (is_hex_digit c)) _ _ front.1 last),
    )

pub digits_tell_numbers : DigitsTellNumbers
digits_tell_numbers zero n m n_small m_small same = omega arith
digits_tell_numbers (suc count) n m n_small m_small same =
    let texts : hex_digits count (n / 16) ++ hex_digit (n % 16) ∷ [] ≡ hex_digits count (m / 16) ++ hex_digit (m % 16) ∷ [] = sym (one_more count n) ∙ same ∙ one_more count m in
    let sizes : length (hex_digits count (n / 16)) ≡ length (hex_digits count (m / 16)) = (digits_are_hex count (n / 16)).0 ∙ sym ((digits_are_hex count (m / 16)).0) in
    let front : hex_digits count (n / 16) ≡ hex_digits count (m / 16) =
    sym (take-append_seam (hex_digits count (n / 16)) (hex_digit (n % 16) ∷ [])) ∙ ap (λ text. take (length (hex_digits count (n / 16))) text) texts
    ∙ ap (λ k. take k (hex_digits count (m / 16) ++ hex_digit (m % 16) ∷ [])) sizes ∙ take-append_seam (hex_digits count (m / 16)) (hex_digit (m % 16) ∷ []) in
    let last : hex_digit (n % 16) ∷ [] ≡ hex_digit (m % 16) ∷ [] =
    append_cancel_left (hex_digits count (n / 16)) _ _ (texts ∙ ap (λ text. text ++ hex_digit (m % 16) ∷ []) (sym front)) in
    let rest : n % 16 ≡ m % 16 =
    digits_tell_apart (n % 16) (m % 16) (mod_below n 16 (lit< tt)) (mod_below m 16 (lit< tt)) (ap (λ text. get_or text 0 0) last) in
    let power : 16 ^ suc count ≡ 16 ^ count * 16 = pow-suc 16 count in
    let quotients : n / 16 ≡ m / 16 =
    digits_tell_numbers count (n / 16) (m / 16) (div_below n 16 (16 ^ count) (lit< tt) (omega (arith, power, n_small))) (div_below m 16 (16 ^ count) (lit< tt) (omega (arith, power, m_small))) front in
    sym (div-add-mod' n 16) ∙ ap (λ k. k * 16 + n % 16) quotients ∙ ap (λ k. m / 16 * 16 + k) rest ∙ div-add-mod' m 16

-- the text that the digits of a number are is made of digits
pub are_digits : (text : List ℕ) (n : ℕ) → text ≡ hex_digits (length text) n → All (λ c. IsTrue (is_hex_digit c)) text
are_digits text n is = subst (λ (t : List ℕ). All (λ c. IsTrue (is_hex_digit c)) t) (sym is) (digits_are_hex (length text) n).1

pub are_digits_if_read : (text : List ℕ) (read : Option ℕ) → IfSome read (λ n. text ≡ hex_digits (length text) n)
    → 1 ≤ length text → length text ≤ most_digits → IfSome read (λ n. AreHexDigits text)
are_digits_if_read text None is some most = tt
are_digits_if_read text (Some n) is some most = (some, most, are_digits text n is)
