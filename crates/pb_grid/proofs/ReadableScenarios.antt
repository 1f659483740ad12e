-- The scenario that a text spells is read.
use Rattle.std.proofs.Common.{suc, ◌≡◌, ℕ, ◌+◌, ◌≤◌, Bool, true, false, not, cond, Option, Some, Ok, List, [], ◌∷◌, ◌++◌, length, reverse, codes, nat_eq, refl, sym, ap, ◌∙◌, arith}
use Rattle.std.specs.List.{slice_get, starts_with, filter}
use Rattle.std.proofs.lemmas.Bool.{eqb-true}
use Rattle.std.proofs.lemmas.List.{reverse-append, length-reverse}
use Rattle.pb_lines.specs.ShortNumbers.{short_number_of, IsShortNumber}
use Rattle.pb_lines.proofs.Callers.{reads_short_number}
use Rattle.pb_grid.specs.declared.error.GridError.TheVariants as errors
use Rattle.pb_grid.specs.declared.scenario.ScenarioParts.{ScenarioParts}
use Rattle.pb_grid.specs.Lines.{lines_of, line_at, words_of, is_blank_line}
use Rattle.pb_grid.specs.Reading.{◌>>=◌, wanted, must, rows_of_scenario, pair_of, scenario_of, scenario_of_words, scenario_reading}
use Rattle.pb_grid.specs.Form.{SpellsRow, SpellsScenario}
use Rattle.pb_grid.proofs.Chosen.{rows_from, nine}

-- ---- the numbers of a row

pair_read : (x y : List ℕ) (pair : ℕ × ℕ) → IsShortNumber x pair.0 × IsShortNumber y pair.1 → pair_of x y ≡ Some pair
pair_read x y pair is = let p : short_number_of x ≡ Some pair.0 = reads_short_number x pair.0 is.0 in let q : short_number_of y ≡ Some pair.1 = reads_short_number y pair.1 is.1 in rw (p, q) refl

pub row_read : (line : List ℕ) (width height : ℕ) (start goal : ℕ × ℕ) → SpellsRow line width height start goal → scenario_of_words (reverse (words_of line)) ≡ Some (record { width = width; height = height; start = start; goal = goal })
row_read line width height start goal is = ap scenario_of_words words ∙ last (reverse (is.bucket ∷ is.name)) (length-reverse (is.bucket ∷ is.name)) where
  words : reverse (words_of line) ≡ is.way ∷ is.goal_y ∷ is.goal_x ∷ is.start_y ∷ is.start_x ∷ is.height_word ∷ is.width_word ∷ reverse (is.bucket ∷ is.name)
  words = ap reverse is.words ∙ reverse-append (is.bucket ∷ is.name) (is.width_word ∷ is.height_word ∷ is.start_x ∷ is.start_y ∷ is.goal_x ∷ is.goal_y ∷ is.way ∷ [])

  last : (others : List (List ℕ)) → length others ≡ length (is.bucket ∷ is.name)
      → scenario_of_words (is.way ∷ is.goal_y ∷ is.goal_x ∷ is.start_y ∷ is.start_x ∷ is.height_word ∷ is.width_word ∷ others) ≡ Some (record { width = width; height = height; start = start; goal = goal })
  last [] len = absurd (omega arith)
  last (name ∷ []) len = let named : 1 ≤ length is.name = is.named in absurd (omega (arith, len, named))
  last (name ∷ bucket ∷ more) len =
      let p : pair_of is.width_word is.height_word ≡ Some (width, height) = pair_read is.width_word is.height_word (width, height) (is.width_is, is.height_is) in
      let q : pair_of is.start_x is.start_y ≡ Some start = pair_read is.start_x is.start_y start is.start_is in
      let r : pair_of is.goal_x is.goal_y ≡ Some goal = pair_read is.goal_x is.goal_y goal is.goal_is in
      nine is.way is.goal_y is.goal_x is.start_y is.start_x is.height_word is.width_word name bucket more
      ∙ ap (λ (o : Option (ℕ × ℕ)). scenario_of o (pair_of is.start_x is.start_y) (pair_of is.goal_x is.goal_y)) p ∙ ap (λ (o : Option (ℕ × ℕ)). scenario_of (Some (width, height)) o (pair_of is.goal_x is.goal_y)) q
      ∙ ap (λ (o : Option (ℕ × ℕ)). scenario_of (Some (width, height)) (Some start) o) r

filled : (line : List ℕ) (width height : ℕ) (start goal : ℕ × ℕ) → SpellsRow line width height start goal → is_blank_line line ≡ false
filled line width height start goal is = go (is_blank_line line) refl where
  go : (b : Bool) → is_blank_line line ≡ b → b ≡ false
  go false e = refl
  go true e = let none : length (words_of line) ≡ 0 = eqb-true (length (words_of line)) 0 e in let some : length (words_of line) ≡ length (is.bucket ∷ (is.name ++ is.width_word ∷ is.height_word ∷ is.start_x ∷ is.start_y ∷ is.goal_x ∷ is.goal_y ∷ is.way ∷ [])) = ap length is.words in absurd (omega (arith, none, some))

-- ---- the chosen row

pub found : (number : ℕ) (before behind : List (List ℕ)) (chosen : List ℕ) → is_blank_line chosen ≡ false
    → slice_get (rows_from number (before ++ chosen ∷ behind)) (length (filter (λ line. not (is_blank_line line)) before)) ≡ Some (number + length before, chosen)
found number [] behind chosen filled =
    let n : number ≡ number + 0 = omega arith in
    ap (λ b. slice_get (cond (not b) ((number, chosen) ∷ rows_from (number + 1) behind) (rows_from (number + 1) behind)) 0) filled ∙ ap (λ k. Some (k, chosen)) n
found number (line ∷ before) behind chosen filled = go (is_blank_line line) refl (found (number + 1) before behind chosen filled) where
  n : number + 1 + length before ≡ number + suc (length before)
  n = omega arith

  go : (b : Bool) → is_blank_line line ≡ b → slice_get (rows_from (number + 1) (before ++ chosen ∷ behind)) (length (filter (λ line. not (is_blank_line line)) before)) ≡ Some (number + 1 + length before, chosen)
      → slice_get (rows_from number (line ∷ (before ++ chosen ∷ behind))) (length (filter (λ line. not (is_blank_line line)) (line ∷ before))) ≡ Some (number + suc (length before), chosen)
  go true blank there =
      ap (λ b. slice_get (cond (not b) ((number, line) ∷ rows_from (number + 1) (before ++ chosen ∷ behind)) (rows_from (number + 1) (before ++ chosen ∷ behind))) (length (cond (not b) (line ∷ filter (λ line. not (is_blank_line line)) before) (filter (λ line. not (is_blank_line line)) before)))) blank
      ∙ there ∙ ap (λ k. Some (k, chosen)) n
  go false row there =
      ap (λ b. slice_get (cond (not b) ((number, line) ∷ rows_from (number + 1) (before ++ chosen ∷ behind)) (rows_from (number + 1) (before ++ chosen ∷ behind))) (length (cond (not b) (line ∷ filter (λ line. not (is_blank_line line)) before) (filter (λ line. not (is_blank_line line)) before)))) row
      ∙ there ∙ ap (λ k. Some (k, chosen)) n

-- ---- the whole scenario

pub steps : (lines : List (List ℕ)) (row line : ℕ) (chosen : List ℕ) (parts : ScenarioParts) → starts_with nat_eq (line_at lines 1) (codes "version") ≡ true → slice_get (rows_of_scenario lines) row ≡ Some (line, chosen)
    → scenario_of_words (reverse (words_of chosen)) ≡ Some parts → scenario_reading lines row ≡ Ok parts
unfolding scenario_reading
steps lines row line chosen parts version found words =
    ap (λ b. must (errors.Scenario 1) b >>= λ yes_it_does. wanted (errors.NoRow row (length (rows_of_scenario lines))) (slice_get (rows_of_scenario lines) row) >>= λ at. wanted (errors.Scenario at.0) (scenario_of_words (reverse (words_of at.1)))) version
    ∙ ap (λ (o : Option (ℕ × List ℕ)). wanted (errors.NoRow row (length (rows_of_scenario lines))) o >>= λ at. wanted (errors.Scenario at.0) (scenario_of_words (reverse (words_of at.1)))) found
    ∙ ap (wanted (errors.Scenario line)) words

pub scenario_read : (text : List ℕ) (row width height : ℕ) (start goal : ℕ × ℕ) → SpellsScenario text row width height start goal → scenario_reading (lines_of text) row ≡ Ok (record { width = width; height = height; start = start; goal = goal })
scenario_read text row width height start goal is =
    let lines : List (List ℕ) = (codes "version" ++ is.version) ∷ (is.before ++ is.chosen ∷ is.behind) in
    let at = found 2 is.before is.behind is.chosen (filled is.chosen width height start goal is.row_is) in
    ap (λ (ls : List (List ℕ)). scenario_reading ls row) is.lines
    ∙ steps lines row (2 + length is.before) is.chosen (record { width = width; height = height; start = start; goal = goal }) refl
    (ap (slice_get (rows_of_scenario lines)) (sym is.rows_before) ∙ at) (row_read is.chosen width height start goal is.row_is)
