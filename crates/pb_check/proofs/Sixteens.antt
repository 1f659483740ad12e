-- States as words of sixteen hexadecimal digits each.
use Rattle.std.proofs.Common.{◌≡◌, ℕ, suc, ◌+◌, ◌-◌, ◌*◌, ◌^◌, ◌<◌, ◌≤◌, Bool, true, false, cond, ltb, Option, None, Some, List, [], ◌∷◌, ◌++◌, length, get_or, take, drop, refl, sym, ap, ◌∙◌, arith, drop-cons, mul_assoc, mul_comm}
use Rattle.std.proofs.Math.Nat.{pow-suc}
use Rattle.std.proofs.Math.ListN.{drop_of_length-le, set}
use Rattle.std.proofs.lemmas.List.{take-append-drop, drop-drop}
use Rattle.std.specs.Option.{option_and_then, option_map}
use Rattle.pb_packed.specs.Words.{number_of}
use Rattle.pb_table_lines.proofs.Callers.{highest, sixteen_long, written}
use Rattle.pb_check.specs.Words.{hex_value, hex_after}

-- ---- as a loop reads them

pub digit_read : (total : Option ℕ) (number i byte value : ℕ) (digits : List ℕ) → i < length digits → get_or digits i 0 ≡ byte → value ≡ hex_value byte → (value ≡ 16 → ⊥) → total ≡ hex_after number (drop i digits)
    → total ≡ hex_after (number * 16 + value) (drop (i + 1) digits)
unfolding hex_after
digit_read total number i byte value digits within is value_is differs so_far =
    let e : i + 1 ≡ suc i = omega arith in
    let first : drop i digits ≡ byte ∷ drop (suc i) digits = drop-cons digits i 0 within ∙ ap (λ b. b ∷ drop (suc i) digits) is in
    so_far ∙ ap (hex_after number) first ∙ taken (hex_value byte) (hex_after (number * 16 + hex_value byte) (drop (suc i) digits)) (small byte value value_is differs)
    ∙ ap (λ v. hex_after (number * 16 + v) (drop (suc i) digits)) (sym value_is) ∙ ap (λ k. hex_after (number * 16 + value) (drop k digits)) (sym e)
  where
    small : (byte value : ℕ) → value ≡ hex_value byte → (value ≡ 16 → ⊥) → hex_value byte < 16
    small byte value value_is differs = grind (arith, value_is, differs)

    taken : (value : ℕ) (rest : Option ℕ) → value < 16 → cond (ltb value 16) rest None ≡ rest
    taken value rest small = grind (arith, small)

pub digit_fails : (total : Option ℕ) (number i byte value : ℕ) (digits : List ℕ) → i < length digits → get_or digits i 0 ≡ byte → value ≡ hex_value byte → value ≡ 16 → total ≡ hex_after number (drop i digits)
    → ◌≡◌ {A = Option ℕ} None total
unfolding hex_after
digit_fails total number i byte value digits within is value_is sixteen so_far =
    let first : drop i digits ≡ byte ∷ drop (suc i) digits = drop-cons digits i 0 within ∙ ap (λ b. b ∷ drop (suc i) digits) is in
    sym (so_far ∙ ap (hex_after number) first ∙ left (hex_value byte) (hex_after (number * 16 + hex_value byte) (drop (suc i) digits)) (sym value_is ∙ sixteen))
  where
    left : (value : ℕ) (rest : Option ℕ) → value ≡ 16 → cond (ltb value 16) rest None ≡ None
    left value rest same = grind (arith, same)

pub digits_end : (total : Option ℕ) (number i : ℕ) (digits : List ℕ) → length digits ≤ i → total ≡ hex_after number (drop i digits) → Some number ≡ total
unfolding hex_after
digits_end total number i digits over so_far = sym (so_far ∙ ap (hex_after number) (drop_of_length-le digits over))

pub value_small : (value byte : ℕ) → value ≡ hex_value byte → (value ≡ 16 → ⊥) → value ≤ 15
value_small value byte is differs = grind (arith, is, differs)

-- ---- one word behind another

pub behind : (n : ℕ) (xs ys : List ℕ) → hex_after n (xs ++ ys) ≡ option_and_then (λ m. hex_after m ys) (hex_after n xs)
unfolding hex_after
behind n [] ys = refl
behind n (b ∷ xs) ys = go (behind (n * 16 + hex_value b) xs ys) (ltb (hex_value b) 16)
  where
    go : hex_after (n * 16 + hex_value b) (xs ++ ys) ≡ option_and_then (λ m. hex_after m ys) (hex_after (n * 16 + hex_value b) xs) → (t : Bool) → cond t (hex_after (n * 16 + hex_value b) (xs ++ ys)) None ≡ option_and_then (λ m. hex_after m ys) (cond t (hex_after (n * 16 + hex_value b) xs) None)
    go further true = further
    go further false = refl

shifted : (p m : ℕ) (ys : List ℕ) → hex_after (p + m) ys ≡ option_map (λ v. p * 16 ^ length ys + v) (hex_after m ys)
unfolding hex_after
shifted p m [] = ap (λ k. Some k) (let e : p + m ≡ p * 16 ^ 0 + m = omega arith in e)
shifted p m (b ∷ ys) = go (shifted (p * 16) (m * 16 + hex_value b) ys) (ltb (hex_value b) 16)
  where
    next : hex_after (p * 16 + (m * 16 + hex_value b)) ys ≡ option_map (λ v. p * 16 * 16 ^ length ys + v) (hex_after (m * 16 + hex_value b) ys)
        → hex_after ((p + m) * 16 + hex_value b) ys ≡ option_map (λ v. p * 16 ^ suc (length ys) + v) (hex_after (m * 16 + hex_value b) ys)
    next further =
        let e : (p + m) * 16 + hex_value b ≡ p * 16 + (m * 16 + hex_value b) = omega arith in
        let power : p * 16 * 16 ^ length ys ≡ p * 16 ^ suc (length ys) = mul_assoc p 16 (16 ^ length ys) ∙ ap (λ k. p * k) (mul_comm 16 (16 ^ length ys) ∙ sym (pow-suc 16 (length ys))) in
        ap (λ k. hex_after k ys) e ∙ further ∙ ap (λ k. option_map (λ v. k + v) (hex_after (m * 16 + hex_value b) ys)) power

    go : hex_after (p * 16 + (m * 16 + hex_value b)) ys ≡ option_map (λ v. p * 16 * 16 ^ length ys + v) (hex_after (m * 16 + hex_value b) ys)
        → (t : Bool) → cond t (hex_after ((p + m) * 16 + hex_value b) ys) None ≡ option_map (λ v. p * 16 ^ suc (length ys) + v) (cond t (hex_after (m * 16 + hex_value b) ys) None)
    go further true = next further
    go further false = refl

-- what sixteen digits spell behind a number
pub behind_number : (n : ℕ) (ys : List ℕ) → length ys ≡ 16 → hex_after n ys ≡ option_map (λ v. n * 2 ^ 64 + v) (hex_after 0 ys)
behind_number n ys sixteen =
    let e : n ≡ n + 0 = omega arith in
    ap (λ k. hex_after k ys) e ∙ shifted n 0 ys ∙ ap (λ k. option_map (λ v. n * 16 ^ k + v) (hex_after 0 ys)) sixteen

-- ---- word by word, the highest first

-- what is left behind some digits that were read
split : (n from : ℕ) (word : List ℕ) → hex_after n (drop from word) ≡ option_and_then (λ m. hex_after m (drop (from + 16) word)) (hex_after n (take 16 (drop from word)))
split n from word =
    ap (hex_after n) (sym (take-append-drop 16 (drop from word)))
    ∙ behind n (take 16 (drop from word)) (drop 16 (drop from word))
    ∙ ap (λ (ys : List ℕ). option_and_then (λ m. hex_after m ys) (hex_after n (take 16 (drop from word)))) (drop-drop 16 from word)

-- sixteen digits more, behind others that spell this number
sixteen_more : (n from : ℕ) (word : List ℕ) → from + 16 ≤ length word
    → hex_after n (drop from word) ≡ option_and_then (λ m. hex_after m (drop (from + 16) word)) (option_map (λ v. n * 2 ^ 64 + v) (hex_after 0 (take (from + 16 - from) (drop from word))))
sixteen_more n from word within =
    let sixteen : 16 ≡ from + 16 - from = omega arith in
    split n from word
    ∙ ap (option_and_then (λ m. hex_after m (drop (from + 16) word))) (behind_number n (take 16 (drop from word)) (sixteen_long from word within)
    ∙ ap (λ k. option_map (λ v. n * 2 ^ 64 + v) (hex_after 0 (take k (drop from word)))) sixteen)

pub sixteen_read : (total : Option ℕ) (left from v : ℕ) (word words : List ℕ) → 1 ≤ left → left ≤ length words → 16 * left ≤ length word → from ≡ length word - 16 * left
    → Some v ≡ hex_after 0 (take (from + 16 - from) (drop from word)) → total ≡ hex_after (number_of (drop left words)) (drop from word)
    → total ≡ hex_after (number_of (drop (left - 1) (set words (left - 1) v))) (drop (length word - 16 * (left - 1)) word)
sixteen_read total left from v word words some within long from_is first so_far =
    let n = number_of (drop left words) in
    let ends : from + 16 ≤ length word = omega (arith, some, long, from_is) in
    let next : from + 16 ≡ length word - 16 * (left - 1) = omega (arith, some, long, from_is) in
    so_far ∙ sixteen_more n from word ends
    ∙ ap (λ r. option_and_then (λ m. hex_after m (drop (from + 16) word)) (option_map (λ v. n * 2 ^ 64 + v) r)) (sym first)
    ∙ ap (λ k. hex_after k (drop (from + 16) word)) (sym (written words left v some within))
    ∙ ap (λ k. hex_after (number_of (drop (left - 1) (set words (left - 1) v))) (drop k word)) next

pub sixteen_fails : (total : Option ℕ) (left from : ℕ) (word words : List ℕ) → 1 ≤ left → 16 * left ≤ length word → from ≡ length word - 16 * left
    → ◌≡◌ {A = Option ℕ} None (hex_after 0 (take (from + 16 - from) (drop from word))) → total ≡ hex_after (number_of (drop left words)) (drop from word)
    → ◌≡◌ {A = Option ℕ} None total
sixteen_fails total left from word words some long from_is none so_far =
    let n = number_of (drop left words) in
    let ends : from + 16 ≤ length word = omega (arith, some, long, from_is) in
    sym (so_far ∙ sixteen_more n from word ends ∙ ap (λ r. option_and_then (λ m. hex_after m (drop (from + 16) word)) (option_map (λ v. n * 2 ^ 64 + v) r)) (sym none))

pub all_read : (total : Option ℕ) (left : ℕ) (word words : List ℕ) → left ≡ 0 → total ≡ hex_after (number_of (drop left words)) (drop (length word - 16 * left) word) → Some (number_of words) ≡ total
unfolding hex_after
all_read total left word words none so_far =
    sym (so_far ∙ ap (λ k. hex_after (number_of (drop k words)) (drop (length word - 16 * k) word)) none
    ∙ ap (hex_after (number_of words)) (drop_of_length-le word (omega arith)))

-- ---- the digits of the highest word

pub first_read : (first last v : ℕ) (word words : List ℕ) → last + 1 ≡ length words → Some v ≡ hex_after 0 (take first word)
    → hex_after (number_of (drop last (set words last v))) (drop first word) ≡ hex_after 0 word
first_read first last v word words is front =
    ap (λ k. hex_after k (drop first word)) (highest words last v is)
    ∙ ap (option_and_then (λ m. hex_after m (drop first word))) front
    ∙ sym (ap (hex_after 0) (sym (take-append-drop first word)) ∙ behind 0 (take first word) (drop first word))

pub first_fails : (first : ℕ) (word : List ℕ) → ◌≡◌ {A = Option ℕ} None (hex_after 0 (take first word)) → ◌≡◌ {A = Option ℕ} None (hex_after 0 word)
first_fails first word none =
    sym (ap (hex_after 0) (sym (take-append-drop first word)) ∙ behind 0 (take first word) (drop first word)
    ∙ ap (option_and_then (λ m. hex_after m (drop first word))) (sym none))
