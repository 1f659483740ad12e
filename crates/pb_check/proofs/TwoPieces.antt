-- The rows of a text, from those of its pieces.
use Rattle.std.proofs.Common.{◌≡◌, ℕ, zero, suc, ◌+◌, ◌-◌, ◌≤◌, true, Option, None, Some, List, [], ◌∷◌, ◌++◌, length, take, drop, refl, sym, ap, ◌∙◌, arith, append_assoc, length-append}
use Rattle.std.proofs.lemmas.List.{take-append-drop}
use Rattle.std.proofs.Math.Seq.{take-append_seam}
use Rattle.pb_lines.specs.Words.{part}
use Rattle.pb_lines.proofs.Callers.{part_is}
use Rattle.pb_model.specs.Certificate.{Line}
use Rattle.pb_check.specs.Reading.{row_in}
use Rattle.pb_check.specs.Fronts.{RowsThen, given, prepend, rows_after, rows_while, is_whole, joined_by, joined}
use Rattle.pb_check.proofs.RowFronts.{followed, front_of, front_is, front_nil, HasLine, has_line, cut_here, cut_there}
use Rattle.pb_check.proofs.Bodies.{while_is}

shorter : (text : List ℕ) (h : HasLine text) → length h.rest + 1 ≤ length text
shorter text h = let n : length text ≡ length h.line + suc (length h.rest) = ap length h.is ∙ length-append h.line (10 ∷ h.rest) in omega (arith, n)

-- by the row of the first line, if it is one
by_line : (width : ℕ) (text : List ℕ) (h : HasLine text) → rows_while width text ≡ rows_after (rows_while width) text (followed h.rest (given (row_in width 0 h.line)))
by_line width text h = while_is width text ∙ ap (rows_after (rows_while width) text) (front_is width text ∙ ap (front_of width) (cut_here text h))

by_line_there : (width : ℕ) (text : List ℕ) (h : HasLine text) (more : List ℕ) → rows_while width (text ++ more) ≡ rows_after (rows_while width) (text ++ more) (followed (h.rest ++ more) (given (row_in width 0 h.line)))
by_line_there width text h more = while_is width (text ++ more) ∙ ap (rows_after (rows_while width) (text ++ more)) (front_is width (text ++ more) ∙ ap (front_of width) (cut_there text h more))

joined_row : (row : Line) (found : RowsThen) (after : List ℕ) (next : RowsThen) → prepend row (joined found after next) ≡ joined (prepend row found) after next
joined_row row found after next = go found.1 where
  go : (rest : List ℕ) → prepend row (joined_by found.0 rest after next) ≡ joined_by (row ∷ found.0) rest after next
  go [] = refl
  go (b ∷ bs) = refl

split : (width n : ℕ) (text more : List ℕ) → length text ≤ n → is_whole text ≡ true → rows_while width (text ++ more) ≡ joined (rows_while width text) more (rows_while width more)
split width n [] more le w = sym (ap (λ (f : RowsThen). joined f more (rows_while width more)) (while_is width [] ∙ ap (rows_after (rows_while width) []) (front_nil width)))
split width zero (b ∷ bs) more le w = absurd (omega (arith, le))
split width (suc n) (b ∷ bs) more le w =
    let h = has_line b bs w in
    by_line_there width (b ∷ bs) h more ∙ go h (λ le w. split width n h.rest more le w) (given (row_in width 0 h.line)) ∙ ap (λ (f : RowsThen). joined f more (rows_while width more)) (sym (by_line width (b ∷ bs) h)) where
      go : (h : HasLine (b ∷ bs)) → (length h.rest ≤ n → is_whole h.rest ≡ true → rows_while width (h.rest ++ more) ≡ joined (rows_while width h.rest) more (rows_while width more)) → (o : Option Line) → rows_after (rows_while width) (b ∷ bs ++ more) (followed (h.rest ++ more) o) ≡ joined (rows_after (rows_while width) (b ∷ bs) (followed h.rest o)) more (rows_while width more)
      go h rest None = refl
      go h rest (Some row) = let s = shorter (b ∷ bs) h in
          ap (prepend row) (rest (omega (arith, s, le)) h.whole) ∙ joined_row row (rows_while width h.rest) more (rows_while width more)

-- the rows at the front of a text, by those of two pieces
pub rows_by_two : (width : ℕ) (text more : List ℕ) → is_whole text ≡ true → rows_while width (text ++ more) ≡ joined (rows_while width text) more (rows_while width more)
rows_by_two width text more whole = split width (length text) text more (omega arith) whole

-- where nothing of the first piece is left
pub none_left : (width : ℕ) (text more : List ℕ) → is_whole text ≡ true → length (rows_while width text).1 ≡ 0
    → rows_while width (text ++ more) ≡ ((rows_while width text).0 ++ (rows_while width more).0, (rows_while width more).1)
none_left width text more whole none = rows_by_two width text more whole ∙ go (rows_while width text).1 none where
  go : (rest : List ℕ) → length rest ≡ 0 → joined_by (rows_while width text).0 rest more (rows_while width more) ≡ ((rows_while width text).0 ++ (rows_while width more).0, (rows_while width more).1)
  go [] e = refl
  go (b ∷ bs) e = absurd (omega (arith, e))

-- where something of it is left
pub some_left : (width : ℕ) (text more : List ℕ) → is_whole text ≡ true → (length (rows_while width text).1 ≡ 0 → ⊥)
    → rows_while width (text ++ more) ≡ ((rows_while width text).0, (rows_while width text).1 ++ more)
some_left width text more whole some = rows_by_two width text more whole ∙ go (rows_while width text).1 some where
  go : (rest : List ℕ) → (length rest ≡ 0 → ⊥) → joined_by (rows_while width text).0 rest more (rows_while width more) ≡ ((rows_while width text).0, rest ++ more)
  go [] e = absurd (e refl)
  go (b ∷ bs) e = refl

-- ---- where a text is cut

whole_end : (xs : List ℕ) → is_whole (xs ++ 10 ∷ []) ≡ true
whole_end [] = refl
whole_end (x ∷ []) = refl
whole_end (x ∷ y ∷ xs) = whole_end (y ∷ xs)

-- a text is whole up to the line feed behind a place
pub cut_is : (text line rest : List ℕ) (at : ℕ) → part 10 (drop at text) ≡ Some (line, rest) → is_whole (take (length text - length rest) text) ≡ true
cut_is text line rest at cut =
    let front = take at text ++ line in
    let is : text ≡ (front ++ 10 ∷ []) ++ rest =
    sym (take-append-drop at text) ∙ ap (λ (t : List ℕ). take at text ++ t) (part_is 10 (drop at text) line rest cut)
    ∙ sym (append_assoc (take at text) line (10 ∷ rest)) ∙ sym (append_assoc front (10 ∷ []) rest) in
    let long : length text - length rest ≡ length (front ++ 10 ∷ []) = omega (arith, ap length is, length-append (front ++ 10 ∷ []) rest) in
    let same : take (length text - length rest) text ≡ front ++ 10 ∷ [] =
    ap (λ k. take k text) long ∙ ap (λ (t : List ℕ). take (length (front ++ 10 ∷ [])) t) is ∙ take-append_seam (front ++ 10 ∷ []) rest in
    ap is_whole same ∙ whole_end front
