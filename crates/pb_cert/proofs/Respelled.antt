-- The lines of a certificate of version 1 as version 2 has them.
use Rattle.std.proofs.Common.{lit<, ◌≡◌, ℕ, zero, suc, ◌+◌, ◌-◌, ◌*◌, ◌/◌, ◌%◌, ◌^◌, ◌<◌, ◌≤◌, leb, Bool, true, false, Option, None, Some, List, [], ◌∷◌, ◌++◌, length, drop, map, codes, refl, sym, ap, ◌∙◌, arith}
use Rattle.std.specs.Prelude.{if◌then◌else◌}
use Rattle.std.specs.List.{AllByRecursion}
use Rattle.std.specs.Fmt.{decimal}
use Rattle.std.proofs.Math.Nat.{pow-suc}
use Rattle.std.proofs.Math.Seq.{drop-append-add}
use Rattle.std.proofs.lemmas.Nat.{div_below}
use Rattle.std.proofs.lemmas.Bool.{le-ltb, lt-ltb, leb-true, leb-false}
use Rattle.std.proofs.lemmas.Fmt.{length-decimal-le}
use Rattle.std.proofs.lemmas.List.{append_assoc, append-nil, length-append, map-append}
use Rattle.std.proofs.lemmas.List.Elements.{recursion_from_All}
use Rattle.pb_packed.specs.Digits.{hex_digit, hex_digits}
use Rattle.pb_packed.proofs.Callers.{no_digits, one_more, digits_are_hex}
use Rattle.pb_model.specs.Plan.{Plan}
use Rattle.pb_model.specs.Weight.{Weight}
use Rattle.pb_model.specs.Certificate.{Line, Certificate}
use Rattle.pb_model.specs.Texts.{spaced, line_text}
use Rattle.pb_check.specs.Spelling.{Fits, IsNumber, PlanFitsIfAny}
use Rattle.pb_cert.specs.Stated.{weight_line, plan_lines, rows_lines}
use Rattle.pb_cert.specs.Rewritten.{zeros, with_digits, respelled_line}

-- ---- more digits than a number needs

zeros_long : (n : ℕ) → length (zeros n) ≡ n
zeros_long zero = refl
zeros_long (suc n) = ap suc (zeros_long n)

zeros_last : (n : ℕ) → zeros n ++ 48 ∷ [] ≡ 48 ∷ zeros n
zeros_last zero = refl
zeros_last (suc n) = ap (λ t. 48 ∷ t) (zeros_last n)

pub one_zero_more : (old now : List ℕ) (at : ℕ) → now ≡ old ++ zeros at → now ++ 48 ∷ [] ≡ old ++ zeros (at + 1)
one_zero_more old now at is =
    let next : suc at ≡ at + 1 = omega arith in
    ap (λ t. t ++ 48 ∷ []) is ∙ append_assoc old (zeros at) (48 ∷ []) ∙ ap (λ t. old ++ t) (zeros_last at) ∙ ap (λ n. old ++ zeros n) next

zero_digits : (count : ℕ) → hex_digits count 0 ≡ zeros count
zero_digits zero = no_digits 0
zero_digits (suc count) = one_more count 0 ∙ ap (λ t. t ++ 48 ∷ []) (zero_digits count) ∙ zeros_last count

-- all digits before those that a number needs are 0
more_digits : (more count n : ℕ) → n < 16 ^ count → hex_digits (more + count) n ≡ zeros more ++ hex_digits count n
more_digits more zero n small =
    let none : n ≡ 0 = omega (arith, small) in
    let same : more + 0 ≡ more = omega arith in
    ap (λ k. hex_digits k n) same ∙ ap (hex_digits more) none ∙ zero_digits more ∙ sym (append-nil (zeros more)) ∙ ap (λ t. zeros more ++ t) (sym (no_digits n))
more_digits more (suc count) n small =
    let power : 16 ^ suc count ≡ 16 ^ count * 16 = pow-suc 16 count in
    let less : n / 16 < 16 ^ count = div_below n 16 (16 ^ count) (lit< tt) (omega (arith, power, small)) in
    let last : List ℕ = hex_digit (n % 16) ∷ [] in
    let same : more + suc count ≡ suc (more + count) = omega arith in
    ap (λ k. hex_digits k n) same ∙ one_more (more + count) n ∙ ap (λ t. t ++ last) (more_digits more count (n / 16) less)
    ∙ append_assoc (zeros more) (hex_digits count (n / 16)) last ∙ ap (λ t. zeros more ++ t) (sym (one_more count n))

-- ---- a row

-- digits that are too many are left out
fewer : (width state : ℕ) (behind : List ℕ) → width ≤ 64 → state < 16 ^ width → with_digits width (hex_digits 64 state ++ behind) ≡ hex_digits width state ++ behind
fewer width state behind narrow small =
    let no_more : width - 64 ≡ 0 = omega (arith, narrow) in
    let sum : 64 - width + width ≡ 64 = omega (arith, narrow) in
    let front : List ℕ = zeros (64 - width) in
    let digits : hex_digits 64 state ≡ front ++ hex_digits width state = ap (λ k. hex_digits k state) (sym sum) ∙ more_digits (64 - width) width state small in
    let whole : hex_digits 64 state ++ behind ≡ front ++ (hex_digits width state ++ behind) = ap (λ t. t ++ behind) digits ∙ append_assoc front (hex_digits width state) behind in
    let at : 64 - width ≡ length front + 0 = (let long = zeros_long (64 - width) in omega (arith, long)) in
    ap (λ k. zeros k ++ drop (64 - width) (hex_digits 64 state ++ behind)) no_more
    ∙ ap (drop (64 - width)) whole
    ∙ ap (λ k. drop k (front ++ (hex_digits width state ++ behind))) at
    ∙ drop-append-add front (hex_digits width state ++ behind) 0

-- digits that are too few are put in front
wider : (width state : ℕ) (behind : List ℕ) → 64 ≤ width → state < 16 ^ 64 → with_digits width (hex_digits 64 state ++ behind) ≡ hex_digits width state ++ behind
wider width state behind wide small =
    let none : 64 - width ≡ 0 = omega (arith, wide) in
    let sum : width - 64 + 64 ≡ width = omega (arith, wide) in
    let front : List ℕ = zeros (width - 64) in
    let digits : hex_digits width state ≡ front ++ hex_digits 64 state = ap (λ k. hex_digits k state) (sym sum) ∙ more_digits (width - 64) 64 state small in
    ap (λ k. front ++ drop k (hex_digits 64 state ++ behind)) none
    ∙ sym (append_assoc front (hex_digits 64 state) behind) ∙ ap (λ t. t ++ behind) (sym digits)

-- what stands behind the state of a row
abbrev row_end : Line → List ℕ
row_end row = 32 ∷ spaced (decimal row.g) (if row.is_closed then codes "closed" else codes "cut")

row_long : (row : Line) → 64 < length (line_text 64 row)
row_long row =
    let digits = (digits_are_hex 64 row.state).0 in
    let all = length-append (hex_digits 64 row.state) (row_end row) in
    omega (arith, digits, all)

-- a row of version 1 becomes that of version 2
row_respelled : (width : ℕ) (row : Line) → row.state < 16 ^ 64 → row.state < 16 ^ width → respelled_line width (line_text 64 row) ≡ line_text width row
row_respelled width row small fits = rw (lt-ltb 64 (length (line_text 64 row)) (row_long row)) (either (leb width 64) refl)
  where
    either : (b : Bool) → leb width 64 ≡ b → with_digits width (line_text 64 row) ≡ line_text width row
    either true is = fewer width row.state (row_end row) (leb-true width 64 is) fits
    either false is = (let more = leb-false width 64 is in wider width row.state (row_end row) (omega (arith, more)) small)

-- ---- the other lines

-- a line that is no longer than 64 bytes stays
pub kept : (width : ℕ) (text : List ℕ) → length text ≤ 64 → respelled_line width text ≡ text
kept width text le = rw (le-ltb 64 (length text) le) refl

pub number_short : (n : ℕ) → IsNumber n → length (decimal n) ≤ 19
number_short n small = length-decimal-le 19 n (omega arith) (omega (arith, small)) (omega (arith, small))

pub spaced_long : (first second : List ℕ) → length (spaced first second) ≡ length first + (1 + length second)
spaced_long first second = let sum = length-append first (32 ∷ second) in omega (arith, sum)

-- a word and a number
pub numbered_short : (word : List ℕ) (n : ℕ) → length word ≤ 16 → IsNumber n → length (spaced word (decimal n)) ≤ 36
numbered_short word n few small =
    let all = spaced_long word (decimal n) in
    let number = number_short n small in
    omega (arith, all, number, few)

pub weight_short : (weight : Weight) → IsNumber weight.num → IsNumber weight.den → length (weight_line weight) ≤ 46
weight_short weight num den =
    let all = spaced_long (codes "weight") (spaced (decimal weight.num) (decimal weight.den)) in
    let both = spaced_long (decimal weight.num) (decimal weight.den) in
    let one = number_short weight.num num in
    let other = number_short weight.den den in
    omega (arith, all, both, one, other)

actions_kept : (width : ℕ) (actions : List ℕ) → AllByRecursion IsNumber actions → map (respelled_line width) (map decimal actions) ≡ map decimal actions
actions_kept width [] all = refl
actions_kept width (action ∷ actions) all =
    let number = number_short action all.0 in
    let first : respelled_line width (decimal action) ≡ decimal action = kept width (decimal action) (omega (arith, number)) in
    λ i. first i ∷ actions_kept width actions all.1 i

plan_kept : (width : ℕ) (plan : Option Plan) → PlanFitsIfAny plan → map (respelled_line width) (plan_lines plan) ≡ plan_lines plan
plan_kept width None fits = refl
plan_kept width (Some plan) fits =
    let first : List ℕ = spaced (codes "plan") (decimal (length plan.actions)) in
    let last : List ℕ = spaced (codes "cost") (decimal plan.cost) in
    let first_long = numbered_short (codes "plan") (length plan.actions) (omega arith) fits.count in
    let last_long = numbered_short (codes "cost") plan.cost (omega arith) fits.cost in
    let first_kept : respelled_line width first ≡ first = kept width first (omega (arith, first_long)) in
    let last_kept : respelled_line width last ≡ last = kept width last (omega (arith, last_long)) in
    let middle : map (respelled_line width) (map decimal plan.actions ++ last ∷ []) ≡ map decimal plan.actions ++ last ∷ [] =
    map-append (respelled_line width) (map decimal plan.actions) (last ∷ [])
    ∙ (λ i. actions_kept width plan.actions (recursion_from_All IsNumber plan.actions fits.actions) i ++ last_kept i ∷ []) in
    λ i. first_kept i ∷ middle i

-- each row has states of 64 digits and of so many, and a number
abbrev pub RowFits : (width : ℕ) → Line → Type 0
RowFits width row = (row.state < 16 ^ 64) × (row.state < 16 ^ width) × IsNumber row.g

all_respelled : (width : ℕ) (rows : List Line) → AllByRecursion (RowFits width) rows → map (respelled_line width) (map (line_text 64) rows) ≡ map (line_text width) rows
all_respelled width [] all = refl
all_respelled width (row ∷ rows) all = λ i. row_respelled width row all.0.0 all.0.1 i ∷ all_respelled width rows all.1 i

rows_respelled : (width : ℕ) (certificate : Certificate) → IsNumber (length certificate.lines) → AllByRecursion (RowFits width) certificate.lines
    → map (respelled_line width) (rows_lines 64 certificate) ≡ rows_lines width certificate
rows_respelled width certificate count all =
    let first : List ℕ = spaced (codes "rows") (decimal (length certificate.lines)) in
    let long = numbered_short (codes "rows") (length certificate.lines) (omega arith) count in
    let first_kept : respelled_line width first ≡ first = kept width first (omega (arith, long)) in
    let middle : map (respelled_line width) (map (line_text 64) certificate.lines ++ codes "end" ∷ []) ≡ map (line_text width) certificate.lines ++ codes "end" ∷ [] =
    map-append (respelled_line width) (map (line_text 64) certificate.lines) (codes "end" ∷ [])
    ∙ (λ i. all_respelled width certificate.lines all i ++ codes "end" ∷ []) in
    λ i. first_kept i ∷ middle i

-- ---- all lines behind the kind in version 1, and behind the width in version 2: nothing is stated
-- besides

abbrev pub rest_lines : (width : ℕ) → Certificate → List (List ℕ)
rest_lines width certificate = weight_line certificate.weight ∷ plan_lines certificate.plan ++ rows_lines width certificate

pub rest_respelled : (width : ℕ) (certificate : Certificate) → Fits 64 certificate → AllByRecursion (RowFits width) certificate.lines → map (respelled_line width) (rest_lines 64 certificate) ≡ rest_lines width certificate
rest_respelled width certificate fits all =
    let f : List ℕ → List ℕ = respelled_line width in
    let weight_long = weight_short certificate.weight fits.weight.0 fits.weight.1 in
    let weight_kept : f (weight_line certificate.weight) ≡ weight_line certificate.weight = kept width (weight_line certificate.weight) (omega (arith, weight_long)) in
    map-append f (weight_line certificate.weight ∷ plan_lines certificate.plan) (rows_lines 64 certificate)
    ∙ (λ i. (weight_kept i ∷ plan_kept width certificate.plan fits.plan i) ++ rows_respelled width certificate fits.count all i)
