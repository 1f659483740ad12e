-- The rows at the front of a text, and the body that they make.
use Rattle.std.proofs.Common.{◌≡◌, ℕ, zero, suc, ◌+◌, ◌≤◌, Bool, true, false, cond, ltb, Option, None, Some, List, [], ◌∷◌, length, Result, Ok, Err, refl, sym, ap, ◌∙◌, arith}
use Rattle.std.proofs.lemmas.Bool.Decides.{nat_tests}
use Rattle.pb_model.specs.Certificate.{Line}
use Rattle.pb_check.specs.declared.fault.CertificateFault.{CertificateFault}
use Rattle.pb_check.specs.declared.fault.CertificateFault.TheVariants.{Syntax}
use Rattle.pb_check.specs.Faults.{◌>>=◌, wanted}
use Rattle.pb_check.specs.Reading.{rows_at, end_at}
use Rattle.pb_check.specs.Fronts.{RowsThen, row_front, prepend, rows_after, rows_within, rows_while, body_of}
use Rattle.pb_check.proofs.RowFronts.{row_at_is, front_nil, front_shorter, not_end}

nil_front : (width : ℕ) (text : List ℕ) → length text ≤ 0 → row_front width text ≡ None
nil_front width [] le = front_nil width
nil_front width (b ∷ bs) le = absurd (omega (arith, le))

enough : (width n m : ℕ) (text : List ℕ) → length text ≤ n → length text ≤ m → rows_within width n text ≡ rows_within width m text
unfolding rows_within
enough width zero zero text a b = refl
enough width zero (suc m) text a b = sym (ap (rows_after (rows_within width m) text) (nil_front width text a))
enough width (suc n) zero text a b = ap (rows_after (rows_within width n) text) (nil_front width text b)
enough width (suc n) (suc m) text a b = go (λ rest. enough width n m rest) (row_front width text) refl where
  go : ((rest : List ℕ) → length rest ≤ n → length rest ≤ m → rows_within width n rest ≡ rows_within width m rest) → (o : Option (Line × List ℕ)) → row_front width text ≡ o → rows_after (rows_within width n) text o ≡ rows_after (rows_within width m) text o
  go rest None is = refl
  go rest (Some first) is = let s = front_shorter width text first is in ap (prepend first.0) (rest first.1 (omega (arith, s, a)) (omega (arith, s, b)))

pub while_is : (width : ℕ) (text : List ℕ) → rows_while width text ≡ rows_after (rows_while width) text (row_front width text)
unfolding rows_within
while_is width [] = sym (ap (rows_after (rows_while width) []) (front_nil width))
while_is width (b ∷ bs) = go (row_front width (b ∷ bs)) refl where
  go : (o : Option (Line × List ℕ)) → row_front width (b ∷ bs) ≡ o → rows_after (rows_within width (length bs)) (b ∷ bs) o ≡ rows_after (rows_while width) (b ∷ bs) o
  go None is = refl
  go (Some first) is = let s = front_shorter width (b ∷ bs) first is in ap (prepend first.0) (enough width (length bs) (length first.1) first.1 (omega (arith, s)) (omega arith))

-- ---- the body

abbrev ended : (line : ℕ) → RowsThen → Result (List Line) CertificateFault
ended line rows = end_at (line + length rows.0) rows.1 >>= λ e. Ok rows.0

abbrev body : (width count line : ℕ) (text : List ℕ) → Result (List Line) CertificateFault
body width count line text = rows_at width count line text >>= ended line

abbrev behind_row : Line → Result (List Line) CertificateFault → Result (List Line) CertificateFault
behind_row row r = r >>= λ rows. Ok (row ∷ rows)

-- the tests of two numbers, and of the ones after them
ltb_suc : (a b : ℕ) → ltb (suc a) (suc b) ≡ ltb a b
ltb_suc a b = go (ltb (suc a) (suc b)) (ltb a b) refl refl where
  go : (x y : Bool) → ltb (suc a) (suc b) ≡ x → ltb a b ≡ y → x ≡ y
  go true true e f = refl
  go false false e f = refl
  go true false e f = absurd (grind (arith, nat_tests, e, f))
  go false true e f = absurd (grind (arith, nat_tests, e, f))

ltb_none : (a : ℕ) → ltb a 0 ≡ false
ltb_none a = grind (arith, nat_tests)

ltb_some : (a : ℕ) → ltb 0 (suc a) ≡ true
ltb_some a = grind (arith, nat_tests)

abbrev body_tested : (few many : Bool) → (count line : ℕ) → RowsThen → Result (List Line) CertificateFault
body_tested few many count line found =
    cond few (Err (Syntax (line + length found.0))) (cond many (Err (Syntax (line + count))) (end_at (line + count) found.1)) >>= λ e. Ok found.0

tested : (count line : ℕ) (found : RowsThen) (few many : Bool) → ltb (length found.0) count ≡ few → ltb count (length found.0) ≡ many → body_of count line found ≡ body_tested few many count line found
tested count line found few many a b = ap (λ t. body_tested t (ltb count (length found.0)) count line found) a ∙ ap (λ t. body_tested few t count line found) b

body_next : (count line : ℕ) (row : Line) (found : RowsThen) → body_of (suc count) line (prepend row found) ≡ behind_row row (body_of count (line + 1) found)
body_next count line row found = tested (suc count) line (prepend row found) (ltb n count) (ltb count n) (ltb_suc n count) (ltb_suc count n) ∙ go (ltb n count) (ltb count n) where
  n : ℕ
  n = length found.0

  at_end : (r : Result Bool CertificateFault) → (r >>= λ e. Ok (row ∷ found.0)) ≡ behind_row row (r >>= λ e. Ok found.0)
  at_end (Ok x) = refl
  at_end (Err d) = refl

  go : (a b : Bool) → (cond a (Err (Syntax (line + suc n))) (cond b (Err (Syntax (line + suc count))) (end_at (line + suc count) found.1)) >>= λ e. Ok (row ∷ found.0))
      ≡ behind_row row (cond a (Err (Syntax (line + 1 + n))) (cond b (Err (Syntax (line + 1 + count))) (end_at (line + 1 + count) found.1)) >>= λ e. Ok found.0)
  go true b = let s : line + suc n ≡ line + 1 + n = omega arith in ap (λ (l : ℕ). Err (Syntax l)) s
  go false true = let s : line + suc count ≡ line + 1 + count = omega arith in ap (λ (l : ℕ). Err (Syntax l)) s
  go false false = let s : line + suc count ≡ line + 1 + count = omega arith in
      ap (λ (l : ℕ). end_at l found.1 >>= λ e. Ok (row ∷ found.0)) s ∙ at_end (end_at (line + 1 + count) found.1)

row_then : (width count line : ℕ) (first : Line × List ℕ) → ((rows_at width count (line + 1) first.1 >>= λ others. Ok (first.0 ∷ others.0, others.1)) >>= ended line) ≡ behind_row first.0 (body width count (line + 1) first.1)
row_then width count line first = go (rows_at width count (line + 1) first.1) where
  at_end : (rows : List Line) (r : Result Bool CertificateFault) → (r >>= λ e. Ok (first.0 ∷ rows)) ≡ behind_row first.0 (r >>= λ e. Ok rows)
  at_end rows (Ok x) = refl
  at_end rows (Err d) = refl

  go : (r : Result RowsThen CertificateFault) → ((r >>= λ others. Ok (first.0 ∷ others.0, others.1)) >>= ended line) ≡ behind_row first.0 (r >>= ended (line + 1))
  go (Err d) = refl
  go (Ok others) = let s : line + suc (length others.0) ≡ line + 1 + length others.0 = omega arith in
      ap (λ (l : ℕ). end_at l others.1 >>= λ e. Ok (first.0 ∷ others.0)) s ∙ at_end others.0 (end_at (line + 1 + length others.0) others.1)

pub body_by_rows : (width count line : ℕ) (text : List ℕ) → body width count line text ≡ body_of count line (rows_while width text)
unfolding rows_at
body_by_rows width zero line text = go (row_front width text) refl ∙ ap (body_of zero line) (sym (while_is width text)) where
  go : (o : Option (Line × List ℕ)) → row_front width text ≡ o → ended line ([], text) ≡ body_of zero line (rows_after (rows_while width) text o)
  go None is = sym (tested zero line ([], text) false false (ltb_none 0) (ltb_none 0))
  go (Some first) is = let f = prepend first.0 (rows_while width first.1) in
      ap (λ r. r >>= λ e. Ok []) (not_end width (line + 0) text first is) ∙ sym (tested zero line f false true (ltb_none (length f.0)) (ltb_some (length (rows_while width first.1).0)))
body_by_rows width (suc count) line text = ap (λ r. (r >>= λ first. rows_at width count (line + 1) first.1 >>= λ others. Ok (first.0 ∷ others.0, others.1)) >>= ended line) (row_at_is width line text)
    ∙ go (λ rest. body_by_rows width count (line + 1) rest) (row_front width text) ∙ ap (body_of (suc count) line) (sym (while_is width text)) where
      go : ((rest : List ℕ) → body width count (line + 1) rest ≡ body_of count (line + 1) (rows_while width rest)) → (o : Option (Line × List ℕ)) → ((wanted line o >>= λ first. rows_at width count (line + 1) first.1 >>= λ others. Ok (first.0 ∷ others.0, others.1)) >>= ended line) ≡ body_of (suc count) line (rows_after (rows_while width) text o)
      go more None = let s : line ≡ line + 0 = omega arith in ap (λ (l : ℕ). Err (Syntax l)) s ∙ sym (tested (suc count) line ([], text) true (ltb (suc count) 0) (ltb_some count) refl)
      go more (Some first) = row_then width count line first ∙ ap (behind_row first.0) (more first.1) ∙ sym (body_next count line first.0 (rows_while width first.1))
