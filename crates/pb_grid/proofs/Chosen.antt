-- The rows of a scenario, as a loop reads them up to the chosen one.
use Rattle.std.proofs.Common.{◌≡◌, ◌≢◌, ℕ, suc, ◌+◌, ◌-◌, ◌≤◌, true, false, not, cond, None, Ok, Err, List, [], ◌∷◌, length, drop, refl, sym, ap, ◌∙◌, arith}
use Rattle.std.specs.List.{slice_get, filter, enumerate_from}
use Rattle.pb_grid.specs.declared.error.GridError.TheVariants as errors
use Rattle.pb_grid.specs.Lines.{lines_of, is_blank_line}
use Rattle.pb_grid.specs.Reading.{wanted, rows_of_scenario, pair_of, scenario_of, scenario_of_words}
use Rattle.pb_grid.proofs.Parting.{no_lines}

-- the rows among these lines, the first of which has this number
abbrev pub rows_from : (number : ℕ) → (lines : List (List ℕ)) → List (ℕ × List ℕ)
rows_from number lines = filter (λ row. not (is_blank_line row.1)) (enumerate_from number lines)

-- so many rows were read and the chosen one was not among them, and these lines follow
pub record IsReadTo (all : List (List ℕ)) (row number seen : ℕ) (lines : List (List ℕ)) : Type 0 where
  pub chosen : slice_get (rows_of_scenario all) row ≡ slice_get (rows_from number lines) (row - seen)
  pub many : length (rows_of_scenario all) ≡ seen + length (rows_from number lines)
  pub below : seen ≤ row

pub nothing_read : (all lines : List (List ℕ)) (row : ℕ) → lines ≡ drop 1 all → IsReadTo all row 2 0 lines
nothing_read all lines row is = record {
  chosen = let k : row - 0 ≡ row = omega arith in sym (ap (λ (ls : List (List ℕ)). slice_get (rows_from 2 ls) (row - 0)) is ∙ ap (slice_get (rows_from 2 (drop 1 all))) k);
  many = let rows : length (rows_from 2 lines) ≡ length (rows_from 2 (drop 1 all)) = ap (λ (ls : List (List ℕ)). length (rows_from 2 ls)) is in omega (arith, rows);
  below = omega arith;
}

blank_line : (number : ℕ) (line : List ℕ) (lines below : List (List ℕ)) → lines ≡ line ∷ below → is_blank_line line ≡ true → rows_from number lines ≡ rows_from (number + 1) below
blank_line number line lines below is blank = ap (rows_from number) is ∙ ap (λ b. cond (not b) ((number, line) ∷ rows_from (number + 1) below) (rows_from (number + 1) below)) blank

row_line : (number : ℕ) (line : List ℕ) (lines below : List (List ℕ)) → lines ≡ line ∷ below → is_blank_line line ≡ false → rows_from number lines ≡ (number, line) ∷ rows_from (number + 1) below
row_line number line lines below is filled = ap (rows_from number) is ∙ ap (λ b. cond (not b) ((number, line) ∷ rows_from (number + 1) below) (rows_from (number + 1) below)) filled

pub blank_read : (all lines below : List (List ℕ)) (row number seen : ℕ) (line : List ℕ) → lines ≡ line ∷ below → is_blank_line line ≡ true → IsReadTo all row number seen lines → IsReadTo all row (number + 1) seen below
blank_read all lines below row number seen line is blank so_far = let same = blank_line number line lines below is blank in record {
  chosen = so_far.chosen ∙ ap (λ (rows : List (ℕ × List ℕ)). slice_get rows (row - seen)) same;
  many = so_far.many ∙ ap (λ (rows : List (ℕ × List ℕ)). seen + length rows) same;
  below = so_far.below;
}

pub row_read : (all lines below : List (List ℕ)) (row number seen : ℕ) (line : List ℕ) → lines ≡ line ∷ below → is_blank_line line ≡ false → seen ≢ row → IsReadTo all row number seen lines
    → IsReadTo all row (number + 1) (seen + 1) below
row_read all lines below row number seen line is filled differs so_far = let same = row_line number line lines below is filled in record {
  chosen =
      let le : seen ≤ row = so_far.below in
      let k : row - seen ≡ suc (row - (seen + 1)) = step row seen le differs in
      so_far.chosen ∙ ap (λ (rows : List (ℕ × List ℕ)). slice_get rows (row - seen)) same ∙ ap (slice_get ((number, line) ∷ rows_from (number + 1) below)) k;
  many = let m : seen + suc (length (rows_from (number + 1) below)) ≡ seen + 1 + length (rows_from (number + 1) below) = omega arith in so_far.many ∙ ap (λ (rows : List (ℕ × List ℕ)). seen + length rows) same ∙ m;
  below = let le : seen ≤ row = so_far.below in more row seen le differs;
} where
  more : (row seen : ℕ) → seen ≤ row → seen ≢ row → seen + 1 ≤ row
  more row seen le differs = grind (arith, le, differs)

  step : (row seen : ℕ) → seen ≤ row → seen ≢ row → row - seen ≡ suc (row - (seen + 1))
  step row seen le differs = let m : seen + 1 ≤ row = more row seen le differs in omega (arith, m)

pub found : (all lines below : List (List ℕ)) (row number seen : ℕ) (line : List ℕ) → lines ≡ line ∷ below → is_blank_line line ≡ false → seen ≡ row → IsReadTo all row number seen lines
    → wanted (errors.NoRow row (length (rows_of_scenario all))) (slice_get (rows_of_scenario all) row) ≡ Ok (number, line)
found all lines below row number seen line is filled same so_far =
    let k : row - seen ≡ 0 = omega arith in
    ap (wanted (errors.NoRow row (length (rows_of_scenario all)))) (so_far.chosen ∙ ap (λ (rows : List (ℕ × List ℕ)). slice_get rows (row - seen)) (row_line number line lines below is filled) ∙ ap (slice_get ((number, line) ∷ rows_from (number + 1) below)) k)

pub none_left : (all : List (List ℕ)) (row number seen : ℕ) (text : List ℕ) → text ≡ [] → IsReadTo all row number seen (lines_of text)
    → wanted (errors.NoRow row (length (rows_of_scenario all))) (slice_get (rows_of_scenario all) row) ≡ Err (errors.NoRow row seen)
none_left all row number seen text is so_far =
    let none : lines_of text ≡ [] = ap lines_of is ∙ no_lines in
    let m : seen + 0 ≡ seen = omega arith in
    let many : length (rows_of_scenario all) ≡ seen = so_far.many ∙ ap (λ (ls : List (List ℕ)). seen + length (rows_from number ls)) none ∙ m in
    ap (wanted (errors.NoRow row (length (rows_of_scenario all)))) (so_far.chosen ∙ ap (λ (ls : List (List ℕ)). slice_get (rows_from number ls) (row - seen)) none) ∙ ap (λ n. Err (errors.NoRow row n)) many

-- ---- the words of a row

pub fewer : (words : List (List ℕ)) → length words ≤ 8 → scenario_of_words words ≡ None
unfolding scenario_of_words
fewer [] le = refl
fewer (a ∷ []) le = refl
fewer (a ∷ b ∷ []) le = refl
fewer (a ∷ b ∷ c ∷ []) le = refl
fewer (a ∷ b ∷ c ∷ d ∷ []) le = refl
fewer (a ∷ b ∷ c ∷ d ∷ e ∷ []) le = refl
fewer (a ∷ b ∷ c ∷ d ∷ e ∷ f ∷ []) le = refl
fewer (a ∷ b ∷ c ∷ d ∷ e ∷ f ∷ g ∷ []) le = refl
fewer (a ∷ b ∷ c ∷ d ∷ e ∷ f ∷ g ∷ h ∷ []) le = refl
fewer (a ∷ b ∷ c ∷ d ∷ e ∷ f ∷ g ∷ h ∷ i ∷ more) le = absurd (omega arith)

pub nine : (a b c d e f g h i : List ℕ) (more : List (List ℕ)) → scenario_of_words (a ∷ b ∷ c ∷ d ∷ e ∷ f ∷ g ∷ h ∷ i ∷ more) ≡ scenario_of (pair_of g f) (pair_of e d) (pair_of c b)
unfolding scenario_of_words
nine a b c d e f g h i more = refl
