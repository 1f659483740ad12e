-- Lines, words and numbers that were put together are taken apart again.
use Rattle.std.proofs.Common.{◌≡◌, ℕ, zero, suc, ◌+◌, ◌-◌, ◌/◌, ◌%◌, ◌^◌, ◌<◌, ◌≤◌, Bool, true, cond, not, ◌&&◌, ◌==◌, nat_lt, if◌then◌else◌, List, [], ◌∷◌, ◌++◌, length, take, drop, map, filter, get_or, refl, ap, arith, ◌∙◌, append_assoc}
use Rattle.std.proofs.lemmas.Bool.{and_parts, and_from, not-true, lt-ltb}
use Rattle.std.proofs.lemmas.Bool.Decides.{nat_tests}
use Rattle.std.proofs.lemmas.Fmt.{decimal_by_steps, length-decimal-le}
use Rattle.std.specs.Fmt.{decimal}
use Rattle.std.specs.Char.{is_ascii_digit}
use Rattle.std.specs.List.{AllByRecursion, join_with_byte, list_all, onto_first, slice_split}
use Rattle.std.specs.Str.Lines.{strip_carriage_return}
use Rattle.pb_grid.specs.Lines.{is_line_feed, is_blank, has_bytes, lines_of, without_empty_last, words_of}
use Rattle.pb_lines.specs.ShortNumbers.{value_behind, IsShortNumber}
use Rattle.pb_lines.proofs.Callers.{value_push}
use Rattle.pb_grid.proofs.Callers.{keeps, no_lines, no_words, split_some}
use Rattle.pb_make.specs.Lines.{line, lines}

-- ---- tests of all elements

pub all_append : (p : ℕ → Bool) (xs ys : List ℕ) → list_all p xs ≡ true → list_all p ys ≡ true → list_all p (xs ++ ys) ≡ true
all_append p [] ys e f = f
all_append p (x ∷ xs) ys e f = let parts = and_parts (p x) (list_all p xs) e in and_from (p x) (list_all p (xs ++ ys)) parts.0 (all_append p xs ys parts.1 f)

pub all_take : (p : ℕ → Bool) (n : ℕ) (xs : List ℕ) → list_all p xs ≡ true → list_all p (take n xs) ≡ true
all_take p zero xs e = refl
all_take p (suc n) [] e = refl
all_take p (suc n) (x ∷ xs) e = let parts = and_parts (p x) (list_all p xs) e in and_from (p x) (list_all p (take n xs)) parts.0 (all_take p n xs parts.1)

pub all_drop : (p : ℕ → Bool) (n : ℕ) (xs : List ℕ) → list_all p xs ≡ true → list_all p (drop n xs) ≡ true
all_drop p zero xs e = e
all_drop p (suc n) [] e = refl
all_drop p (suc n) (x ∷ xs) e = all_drop p n xs (and_parts (p x) (list_all p xs) e).1

pub all_by : (p q : ℕ → Bool) → ((x : ℕ) → p x ≡ true → q x ≡ true) → (xs : List ℕ) → list_all p xs ≡ true → list_all q xs ≡ true
all_by p q f [] e = refl
all_by p q f (x ∷ xs) e = let parts = and_parts (p x) (list_all p xs) e in and_from (q x) (list_all q xs) (f x parts.0) (all_by p q f xs parts.1)

all_at : (p : ℕ → Bool) (xs : List ℕ) (k : ℕ) → list_all p xs ≡ true → k < length xs → p (get_or xs k 0) ≡ true
all_at p [] k e less = absurd (omega arith)
all_at p (x ∷ xs) zero e less = (and_parts (p x) (list_all p xs) e).0
all_at p (x ∷ xs) (suc k) e less = all_at p xs k (and_parts (p x) (list_all p xs) e).1 (omega arith)

-- ---- parts

split_at : (p : ℕ → Bool) (xs : List ℕ) (y : ℕ) (ys : List ℕ) → list_all (λ x. not (p x)) xs ≡ true → p y ≡ true → slice_split p (xs ++ y ∷ ys) ≡ xs ∷ slice_split p ys
split_at p [] y ys all is = ap (λ b. cond b ([] ∷ slice_split p ys) (onto_first y (slice_split p ys))) is
split_at p (x ∷ xs) y ys all is =
    let parts = and_parts (not (p x)) (list_all (λ x. not (p x)) xs) all in
    ap (λ b. cond b ([] ∷ slice_split p (xs ++ y ∷ ys)) (onto_first x (slice_split p (xs ++ y ∷ ys)))) (not-true (p x) parts.0)
    ∙ ap (onto_first x) (split_at p xs y ys parts.1 is)

split_whole : (p : ℕ → Bool) (xs : List ℕ) → list_all (λ x. not (p x)) xs ≡ true → slice_split p xs ≡ xs ∷ []
split_whole p [] all = refl
split_whole p (x ∷ xs) all =
    let parts = and_parts (not (p x)) (list_all (λ x. not (p x)) xs) all in
    ap (λ b. cond b ([] ∷ slice_split p xs) (onto_first x (slice_split p xs))) (not-true (p x) parts.0) ∙ ap (onto_first x) (split_whole p xs parts.1)

-- ---- lines

-- a byte of a line that is no carriage return
abbrev pub is_inner : (byte : ℕ) → Bool
is_inner byte = not (byte == 10) && not (byte == 13)

inner_no_feed : (byte : ℕ) → is_inner byte ≡ true → not (byte == 10) ≡ true
inner_no_feed byte e = (and_parts (not (byte == 10)) (not (byte == 13)) e).0

strip_none : (row : List ℕ) → list_all is_inner row ≡ true → strip_carriage_return row ≡ row
strip_none [] e = refl
strip_none (x ∷ xs) e =
    let last = get_or (x ∷ xs) (length (x ∷ xs) - 1) 0 in
    let inner : is_inner last ≡ true = all_at is_inner (x ∷ xs) (length (x ∷ xs) - 1) e (omega arith) in
    ap (λ test. if test then take (length (x ∷ xs) - 1) (x ∷ xs) else x ∷ xs) (not-true (last == 13) (and_parts (not (last == 10)) (not (last == 13)) inner).1)

line_front : (row rest : List ℕ) → list_all is_inner row ≡ true → lines_of (line row ++ rest) ≡ row ∷ lines_of rest
unfolding lines_of
line_front row rest inner =
    ap (λ (text : List ℕ). map strip_carriage_return (without_empty_last (slice_split is_line_feed text))) (append_assoc row (10 ∷ []) rest)
    ∙ ap (λ (ps : List (List ℕ)). map strip_carriage_return (without_empty_last ps)) (split_at is_line_feed row 10 rest (all_by is_inner (λ x. not (is_line_feed x)) inner_no_feed row inner) refl)
    ∙ ap (map strip_carriage_return) (keeps row (slice_split is_line_feed rest) (split_some is_line_feed rest))
    ∙ ap (λ (first : List ℕ). first ∷ map strip_carriage_return (without_empty_last (slice_split is_line_feed rest))) (strip_none row inner)

pub lines_back : (rows : List (List ℕ)) → AllByRecursion (λ row. list_all is_inner row ≡ true) rows → lines_of (lines rows) ≡ rows
lines_back [] all = no_lines
lines_back (row ∷ rows) all = line_front row (lines rows) all.0 ∙ ap (λ (rest : List (List ℕ)). row ∷ rest) (lines_back rows all.1)

-- ---- words

-- a byte that is neither a control character nor a space
abbrev pub is_plain : (byte : ℕ) → Bool
is_plain byte = nat_lt 32 byte

pub record IsPlainWord (word : List ℕ) : Type 0 where
  pub some : 0 < length word
  pub plain : list_all is_plain word ≡ true

plain_no_blank : (byte : ℕ) → is_plain byte ≡ true → not (is_blank byte) ≡ true
plain_no_blank byte e = grind (arith, nat_tests, e)

pub plain_inner : (byte : ℕ) → is_plain byte ≡ true → is_inner byte ≡ true
plain_inner byte e = grind (arith, nat_tests, e)

pub word_front : (word : List ℕ) (blank : ℕ) (rest : List ℕ) → IsPlainWord word → is_blank blank ≡ true → words_of (word ++ blank ∷ rest) ≡ word ∷ words_of rest
unfolding words_of
word_front word blank rest is e =
    ap (filter has_bytes) (split_at is_blank word blank rest (all_by is_plain (λ x. not (is_blank x)) plain_no_blank word is.plain) e)
    ∙ ap (λ test. cond test (word ∷ filter has_bytes (slice_split is_blank rest)) (filter has_bytes (slice_split is_blank rest))) (lt-ltb 0 (length word) is.some)

pub word_whole : (word : List ℕ) → IsPlainWord word → words_of word ≡ word ∷ []
unfolding words_of
word_whole word is =
    ap (filter has_bytes) (split_whole is_blank word (all_by is_plain (λ x. not (is_blank x)) plain_no_blank word is.plain))
    ∙ ap (λ test. cond test (word ∷ []) []) (lt-ltb 0 (length word) is.some)

pub words_joined : (words : List (List ℕ)) → AllByRecursion IsPlainWord words → words_of (join_with_byte 9 words) ≡ words
words_joined [] all = no_words
words_joined (word ∷ []) all = word_whole word all.0
words_joined (word ∷ next ∷ words) all =
    word_front word 9 (join_with_byte 9 (next ∷ words)) all.0 refl ∙ ap (λ (rest : List (List ℕ)). word ∷ rest) (words_joined (next ∷ words) all.1)

pub joined_inner : (words : List (List ℕ)) → AllByRecursion IsPlainWord words → list_all is_inner (join_with_byte 9 words) ≡ true
joined_inner [] all = refl
joined_inner (word ∷ []) all = all_by is_plain is_inner plain_inner word all.0.plain
joined_inner (word ∷ next ∷ words) all =
    all_append is_inner word (9 ∷ join_with_byte 9 (next ∷ words)) (all_by is_plain is_inner plain_inner word all.0.plain) (joined_inner (next ∷ words) all.1)

-- ---- numbers

pub digit_is : (n : ℕ) → n < 10 → is_ascii_digit (48 + n) ≡ true
digit_is n small = grind (arith, nat_tests)

digit_plain : (byte : ℕ) → is_ascii_digit byte ≡ true → is_plain byte ≡ true
digit_plain byte e = grind (arith, nat_tests, e)

-- what the digits of a number are
pub record AreDigits (n : ℕ) (ds : List ℕ) : Type 0 where
  pub some : 0 < length ds
  pub digits : list_all is_ascii_digit ds ≡ true
  pub value : n ≡ value_behind 0 ds

longer : (ds : List ℕ) (d : ℕ) → 0 < length (ds ++ d ∷ [])
longer [] d = omega arith
longer (x ∷ ds) d = omega arith

decimal_digits : (n : ℕ) → n < 2 ^ 64 → AreDigits n (decimal n)
decimal_digits = decimal_by_steps AreDigits one more
  where
    one : (n : ℕ) → n < 10 → AreDigits n ((48 + n) ∷ [])
    one n small = record { some = omega arith; digits = ap (λ test. test && true) (digit_is n small); value = omega arith }

    more : (n : ℕ) (ds : List ℕ) → 10 ≤ n → AreDigits (n / 10) ds → AreDigits n (ds ++ ((48 + n % 10) ∷ []))
    more n ds large is =
        let rest : n % 10 < 10 = omega arith in
        let one_digit = digit_is (n % 10) rest in
        record {
          some = longer ds (48 + n % 10);
          digits = all_append is_ascii_digit ds ((48 + n % 10) ∷ []) is.digits (ap (λ test. test && true) one_digit);
          value = omega (arith, value_push 0 ds (48 + n % 10), is.value);
        }

pub decimal_number : (n : ℕ) → n < 10 ^ 9 → IsShortNumber (decimal n) n
decimal_number n small =
    let wide : n < 2 ^ 64 = omega arith in
    let is = decimal_digits n wide in
    record { some = omega (arith, is.some); most = length-decimal-le 9 n (omega arith) small wide; digits = is.digits; value = is.value }

pub decimal_plain : (n : ℕ) → n < 2 ^ 64 → IsPlainWord (decimal n)
decimal_plain n wide = let is = decimal_digits n wide in record { some = is.some; plain = all_by is_ascii_digit is_plain digit_plain (decimal n) is.digits }
