-- Numbers as words of decimal digits: what is read of them, and that the digits of a number are
-- read as it.
use Rattle.std.proofs.Common.{◌≡◌, ℕ, suc, ◌+◌, ◌-◌, ◌*◌, ◌^◌, ◌<◌, ◌≤◌, Bool, true, false, ◌&&◌, not, cond, leb, eqb, ltb, None, Some, List, [], ◌∷◌, length, get_or, refl, sym, ap, ◌∙◌, subst, arith}
use Rattle.std.proofs.Math.Bool.{and-false}
use Rattle.std.proofs.lemmas.Option.{same_Some}
use Rattle.std.specs.List.{list_all}
use Rattle.std.specs.Fmt.{decimal}
use Rattle.std.proofs.lemmas.Bool.{leb-true, le-leb, lt-ltb, ltb-true, and_parts, and_from}
use Rattle.std.proofs.lemmas.Bool.Decides.{nat_tests}
use Rattle.std.proofs.lemmas.Fmt.{digits_decimal, digits_value-decimal, decimal-digits_value, decimal_digit, decimal_nonempty, first_decimal}
use Rattle.std.proofs.lemmas.Str.Parse.{IsDigitsTest, FoldsDigits, IsNumeralModel, numerals_by_fold}
use Rattle.pb_lines.specs.Words.{is_digit, is_padded, number_after, number_of, has_none}
use Rattle.pb_lines.proofs.NumberWords.{value_after, IsNumberWord}
use Rattle.pb_lines.proofs.Parts.{if_some, if_not_some}

-- ---- these words for digits and their value are the usual ones

digits_test : IsDigitsTest (λ word. list_all is_digit word ≡ true)
digits_test = record {
  empty = refl;
  parts = λ c cs e. let k = and_parts (is_digit c) (list_all is_digit cs) e in let m =
      and_parts (leb 48 c) (leb c 57) k.0 in ((leb-true 48 c m.0, leb-true c 57 m.1), k.1);
  more = λ c cs k e. and_from (is_digit c) (list_all is_digit cs)
      (and_from (leb 48 c) (leb c 57) (le-leb 48 c k.0) (le-leb c 57 k.1)) e;
}

value_folds : FoldsDigits value_after
value_folds = record { empty = λ n. refl; more = λ n c cs k. refl }

own : IsNumeralModel (λ word. list_all is_digit word ≡ true) (value_after 0)
own = numerals_by_fold (λ word. list_all is_digit word ≡ true) digits_test value_after value_folds

-- ---- a number's digits are a word for it

not_padded : (word : List ℕ) (n : ℕ) → word ≡ decimal n → n < 2 ^ 63 → is_padded word ≡ false
not_padded [] n e small = refl
not_padded (b ∷ []) n e small = and-false (eqb b 48)
not_padded (b ∷ c ∷ cs) n e small = grind (arith, nat_tests, above)
  where
    long : n ≡ 0 → ⊥
    long zero = let one : length (b ∷ c ∷ cs) ≡ 1 =
        ap length e ∙ ap (λ k. length (decimal k)) zero
        ∙ ap length (decimal_digit 0 (omega arith)) in omega (arith, one)

    above : 48 < b
    above = subst (λ w. 48 < get_or w 0 0) (sym e)
        (first_decimal n (positive n long) (omega (arith, small)))
      where
        positive : (n : ℕ) → (n ≡ 0 → ⊥) → 0 < n
        positive n differs = grind (arith, differs)

pub number_word : (word : List ℕ) (n : ℕ) → word ≡ decimal n → n < 2 ^ 63 → IsNumberWord word n
number_word word n is small =
    let fits : n < 2 ^ 64 = omega (arith, small) in
    let some : 0 < length word = subst (λ w. 0 < length w) (sym is) (decimal_nonempty n fits) in
    record {
      some = omega (arith, some);
      digits = subst (λ w. list_all is_digit w ≡ true) (sym is) (digits_decimal own n fits);
      unpadded = not_padded word n is small;
      value = sym (ap (value_after 0) is ∙ digits_value-decimal own n fits);
      small = small;
    }

-- ---- a word for a number has its digits

alone : (word : List ℕ) → is_padded word ≡ false → get_or word 0 0 ≡ 48 → 0 < length word
    → length word ≡ 1
alone [] e lead some = absurd (omega (arith, some))
alone (b ∷ []) e lead some = refl
alone (b ∷ c ∷ cs) e lead some =
    absurd (no (eqb b 48) (ltb 0 (suc (length cs))) (self b lead) (lt-ltb _ _ (omega arith)) e)
  where
    self : (b : ℕ) → b ≡ 48 → eqb b 48 ≡ true
    self b lead = grind (arith, nat_tests, lead)

    no : (t more : Bool) → t ≡ true → more ≡ true → (t && more) ≡ false → ⊥
    no true true one two other = cc
    no true false one two other = cc
    no false more one two other = cc

pub number_word_is : (word : List ℕ) (n : ℕ) → IsNumberWord word n → word ≡ decimal n
number_word_is word n is =
    let some : 0 < length word = (let s = is.some in omega (arith, s)) in
    let fits : value_after 0 word < 2 ^ 64 =
    (let v = is.value in let s = is.small in omega (arith, v, s)) in
    sym (ap decimal is.value
    ∙ decimal-digits_value own word is.digits some
    (λ lead. alone word is.unpadded lead some) fits)

-- ---- what is read

grows : (n : ℕ) (word : List ℕ) → n ≤ value_after n word
grows n [] = omega arith
grows n (b ∷ bs) = let h = grows (n * 10 + (b - 48)) bs in omega (arith, h)

number_after_again : (n : ℕ) (word : List ℕ) → list_all is_digit word ≡ true
    → value_after n word < 2 ^ 63 → number_after n word ≡ Some (value_after n word)
unfolding number_after
number_after_again n [] digits small = refl
number_after_again n (b ∷ bs) digits small =
    let c = and_parts (is_digit b) (list_all is_digit bs) digits in
    let h = grows (n * 10 + (b - 48)) bs in
    let s : value_after (n * 10 + (b - 48)) bs < 2 ^ 63 = small in
    let lt : ltb (n * 10 + (b - 48)) (2 ^ 63) ≡ true = lt-ltb _ _ (omega (arith, h, s)) in
    ap (λ t. cond t (number_after (n * 10 + (b - 48)) bs) None)
    (and_from (is_digit b) (ltb (n * 10 + (b - 48)) (2 ^ 63)) c.0 lt)
    ∙ number_after_again (n * 10 + (b - 48)) bs c.1 small

pub number_word_read : (word : List ℕ) (n : ℕ) → IsNumberWord word n → number_of word ≡ Some n
number_word_read word n is =
    let e : eqb (length word) 0 ≡ false = (let s = is.some in grind (arith, nat_tests, s)) in
    let v : value_after 0 word < 2 ^ 63 =
    (let a = is.value in let b = is.small in omega (arith, a, b)) in
    ap (λ t. cond t None (cond (is_padded word) None (number_after 0 word))) e
    ∙ ap (λ t. cond t None (number_after 0 word)) is.unpadded
    ∙ number_after_again 0 word is.digits v ∙ ap (λ (k : ℕ). Some k) (sym is.value)

number_after_is : (n : ℕ) (word : List ℕ) (m : ℕ) → n < 2 ^ 63 → number_after n word ≡ Some m
    → (list_all is_digit word ≡ true) × (m ≡ value_after n word) × (m < 2 ^ 63)
unfolding number_after
number_after_is n [] m lt e = let s : n ≡ m = same_Some n m e in (refl, sym s, omega (arith, lt, s))
number_after_is n (b ∷ bs) m lt e =
    let h = if_some (is_digit b && ltb (n * 10 + (b - 48)) (2 ^ 63))
    (number_after (n * 10 + (b - 48)) bs) m e in
    let c = and_parts (is_digit b) (ltb (n * 10 + (b - 48)) (2 ^ 63)) h.0 in
    let r = number_after_is (n * 10 + (b - 48)) bs m (ltb-true _ _ c.1) h.1 in
    (and_from (is_digit b) (list_all is_digit bs) c.0 r.0, r.1, r.2)

pub number_word_of : (word : List ℕ) (n : ℕ) → number_of word ≡ Some n → IsNumberWord word n
number_word_of word n e =
    let a = if_not_some (eqb (length word) 0)
    (cond (is_padded word) None (number_after 0 word)) n e in
    let b = if_not_some (is_padded word) (number_after 0 word) n a.1 in
    let c = number_after_is 0 word n (omega arith) b.1 in
    record { some = grind (arith, a.0); digits = c.0; unpadded = b.0; value = c.1; small = c.2 }

-- what is read of a word is the number whose digits it has
pub number_is : (word : List ℕ) (n : ℕ) → number_of word ≡ Some n → (word ≡ decimal n)
    × (n < 2 ^ 63)
number_is word n e = let is = number_word_of word n e in (number_word_is word n is, is.small)

-- the digits of a number are read as it
pub number_again : (n : ℕ) → n < 2 ^ 63 → number_of (decimal n) ≡ Some n
number_again n small = number_word_read (decimal n) n (number_word (decimal n) n refl small)

-- ---- no space and no end of a line stands in a number

digit_is_none : (byte b : ℕ) → byte < 48 → is_digit b ≡ true → not (eqb b byte) ≡ true
digit_is_none byte b small e = let c =
    and_parts (leb 48 b) (leb b 57) e in grind (arith, nat_tests, small, c)

pub number_has_none : (byte : ℕ) (word : List ℕ) → byte < 48 → list_all is_digit word ≡ true
    → has_none byte word ≡ true
number_has_none byte [] small e = refl
number_has_none byte (b ∷ bs) small e = let c =
    and_parts (is_digit b) (list_all is_digit bs) e in
    and_from (not (eqb b byte)) (has_none byte bs) (digit_is_none byte b small c.0)
    (number_has_none byte bs small c.1)

pub number_none : (byte n : ℕ) → byte < 48 → n < 2 ^ 63 → has_none byte (decimal n) ≡ true
number_none byte n small fits =
    number_has_none byte (decimal n) small (number_word (decimal n) n refl fits).digits
