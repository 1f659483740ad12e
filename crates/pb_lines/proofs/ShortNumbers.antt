-- Numbers of at most nine digits: their value, digit by digit, and that what is read is what is spelled.
use Rattle.std.proofs.Common.{◌≡◌, ℕ, zero, suc, ◌+◌, ◌-◌, ◌*◌, ◌^◌, ◌<◌, ◌≤◌, Bool, true, false, ◌&&◌, cond, leb, Option, None, Some, List, [], ◌∷◌, ◌++◌, length, take, get_or, refl, sym, ap, subst, arith, ◌∙◌}
use Rattle.std.proofs.lemmas.Bool.{leb-true, le-leb, and_parts, and_from}
use Rattle.std.proofs.lemmas.Bool.Decides.{nat_tests}
use Rattle.std.proofs.lemmas.List.{take_more}
use Rattle.std.proofs.Math.Nat.{pow-le-pow_right, pow-suc}
use Rattle.std.specs.Char.{is_ascii_digit}
use Rattle.std.specs.List.{list_all}
use Rattle.pb_lines.specs.ShortNumbers.{value_behind, is_short_number, short_number_of, IsShortNumber}
use Rattle.pb_lines.specs.Laws.{ShortNumbersAreDigits}

-- ---- the value of digits

pub value_push : (n : ℕ) (ds : List ℕ) (d : ℕ) → value_behind n (ds ++ d ∷ []) ≡ value_behind n ds * 10 + (d - 48)
value_push n [] d = refl
value_push n (e ∷ ds) d = value_push (n * 10 + (e - 48)) ds d

pub value_next : (ds : List ℕ) (i : ℕ) → i < length ds → value_behind 0 (take (i + 1) ds) ≡ value_behind 0 (take i ds) * 10 + (get_or ds i 0 - 48)
value_next ds i less = ap (value_behind 0) (take_more ds i 0 less) ∙ value_push 0 (take i ds) (get_or ds i 0)

pub digit_at : (ds : List ℕ) (i : ℕ) → list_all is_ascii_digit ds ≡ true → i < length ds → (48 ≤ get_or ds i 0) × (get_or ds i 0 ≤ 57)
digit_at [] i all less = absurd (omega arith)
digit_at (d ∷ ds) zero all less = digit_in d (and_parts (is_ascii_digit d) (list_all is_ascii_digit ds) all).0 where
  digit_in : (d : ℕ) → is_ascii_digit d ≡ true → (48 ≤ d) × (d ≤ 57)
  digit_in d e = (grind (arith, nat_tests, e), grind (arith, nat_tests, e))
digit_at (d ∷ ds) (suc i) all less = digit_at ds i (and_parts (is_ascii_digit d) (list_all is_ascii_digit ds) all).1 (omega arith)

pub small_at : (i value : ℕ) → i < 9 → value < 10 ^ i → value * 10 + 9 < 2 ^ 32
small_at i value less small = let ten : 0 < 10 = omega arith in let le : i ≤ 8 = omega arith in let up : 10 ^ i ≤ 10 ^ 8 = pow-le-pow_right {n = 10} ten {i = i} {j = 8} le in omega (arith, up, small)

pub small_next : (i value digit : ℕ) → value < 10 ^ i → digit ≤ 9 → value * 10 + digit < 10 ^ (i + 1)
small_next i value digit small le = let e : 10 ^ (i + 1) ≡ 10 ^ i * 10 = ap (λ n. 10 ^ n) (let s : i + 1 ≡ suc i = omega arith in s) ∙ pow-suc 10 i in omega (arith, e, small, le)

pub next_value : (value sum digit before : ℕ) → value ≡ before → digit ≡ sum → before * 10 + sum ≡ value * 10 + digit
next_value value sum digit before e f = grind (arith, e, f)

-- ---- words that are short numbers

pub short_number_is : (word : List ℕ) → is_short_number word ≡ true → IsShortNumber word (value_behind 0 word)
short_number_is word e =
    let one = and_parts (leb 1 (length word)) (leb (length word) 9 && list_all is_ascii_digit word) e in
    let two = and_parts (leb (length word) 9) (list_all is_ascii_digit word) one.1 in
    record {
      some = leb-true 1 (length word) one.0;
      most = leb-true (length word) 9 two.0;
      digits = two.1;
      value = refl;
    }

pub spells_short_number : (word : List ℕ) (number : ℕ) → short_number_of word ≡ Some number → IsShortNumber word number
unfolding short_number_of
spells_short_number word number e = go (is_short_number word) refl e where
  go : (test : Bool) → is_short_number word ≡ test → ◌≡◌ {A = Option ℕ} (cond test (Some (value_behind 0 word)) None) (Some number) → IsShortNumber word number
  go true is e = let same : value_behind 0 word ≡ number = cc in subst (IsShortNumber word) same (short_number_is word is)
  go false is e = cc

pub reads_short_number : (word : List ℕ) (number : ℕ) → IsShortNumber word number → short_number_of word ≡ Some number
unfolding short_number_of
reads_short_number word number is =
    ap (λ b. cond b (Some (value_behind 0 word)) None)
    (and_from (leb 1 (length word)) (leb (length word) 9 && list_all is_ascii_digit word) (le-leb 1 (length word) is.some)
    (and_from (leb (length word) 9) (list_all is_ascii_digit word) (le-leb (length word) 9 is.most) is.digits))
    ∙ ap Some (sym is.value)

pub short_numbers_are_digits : ShortNumbersAreDigits
short_numbers_are_digits word number = (spells_short_number word number, reads_short_number word number)
