-- What is read of a scenario without a refusal is the scenario that its text spells.
use Rattle.std.proofs.Common.{◌≡◌, ℕ, zero, suc, ◌+◌, Bool, true, false, not, cond, Option, Some, None, Ok, List, [], ◌∷◌, ◌++◌, length, drop, reverse, codes, nat_eq, refl, sym, subst, ap, ◌∙◌, arith}
use Rattle.std.proofs.lemmas.Option.{same_Some}
use Rattle.std.specs.List.{slice_get, starts_with, filter}
use Rattle.std.proofs.lemmas.Bool.Decides.{Decides-eqb}
use Rattle.std.proofs.lemmas.List.{reverse-append, reverse-reverse, length-reverse}
use Rattle.std.proofs.lemmas.Slice.Eq.{starts_is}
use Rattle.pb_lines.specs.ShortNumbers.{short_number_of, IsShortNumber}
use Rattle.pb_lines.proofs.Callers.{spells_short_number}
use Rattle.pb_grid.specs.declared.error.GridError.TheVariants as errors
use Rattle.pb_grid.specs.declared.scenario.ScenarioParts.{ScenarioParts}
use Rattle.pb_grid.specs.Lines.{lines_of, line_at, words_of, is_blank_line}
use Rattle.pb_grid.specs.Reading.{wanted, must, rows_of_scenario, pair_of, scenario_of, scenario_of_words, scenario_reading}
use Rattle.pb_grid.specs.Form.{SpellsRow, SpellsScenario}
use Rattle.pb_grid.proofs.Chosen.{rows_from, fewer, nine}
use Rattle.pb_grid.proofs.Steps.{bind_ok, must_ok, wanted_ok}

-- ---- the numbers of a row

pairs_are : (x y : List ℕ) (pair : ℕ × ℕ) → pair_of x y ≡ Some pair → IsShortNumber x pair.0 × IsShortNumber y pair.1
pairs_are x y pair e = go (short_number_of x) (short_number_of y) refl refl e where
  go : (a b : Option ℕ) → short_number_of x ≡ a → short_number_of y ≡ b → pair_of x y ≡ Some pair → IsShortNumber x pair.0 × IsShortNumber y pair.1
  go None b p q e = let no : pair_of x y ≡ None = rw p refl in cc
  go (Some m) None p q e = let no : pair_of x y ≡ None = rw (p, q) refl in cc
  go (Some m) (Some n) p q e =
      let is : pair_of x y ≡ Some (m, n) = rw (p, q) refl in
      subst (λ (s : ℕ × ℕ). IsShortNumber x s.0 × IsShortNumber y s.1) (same_Some (m, n) pair (sym is ∙ e)) (spells_short_number x m p, spells_short_number y n q)

record AllPairs (size start goal : Option (ℕ × ℕ)) (parts : ScenarioParts) : Type 0 where
  pub size_is : size ≡ Some (parts.width, parts.height)
  pub start_is : start ≡ Some parts.start
  pub goal_is : goal ≡ Some parts.goal

all_pairs : (size start goal : Option (ℕ × ℕ)) (parts : ScenarioParts) → scenario_of size start goal ≡ Some parts → AllPairs size start goal parts
all_pairs None start goal parts e = cc
all_pairs (Some size) None goal parts e = cc
all_pairs (Some size) (Some start) None parts e = cc
all_pairs (Some size) (Some start) (Some goal) parts e =
    let made : ScenarioParts = record { width = size.0; height = size.1; start = start; goal = goal } in
    subst (AllPairs (Some size) (Some start) (Some goal)) (same_Some made parts e) (record { size_is = refl; start_is = refl; goal_is = refl })

-- the words from the left, where from the right they are these seven and others
turned : (way goal_y goal_x start_y start_x height width : List ℕ) (others words : List (List ℕ)) → reverse words ≡ way ∷ goal_y ∷ goal_x ∷ start_y ∷ start_x ∷ height ∷ width ∷ others
    → words ≡ reverse others ++ width ∷ height ∷ start_x ∷ start_y ∷ goal_x ∷ goal_y ∷ way ∷ []
turned way goal_y goal_x start_y start_x height width others words e =
    sym (reverse-reverse words) ∙ ap reverse e ∙ reverse-append (way ∷ goal_y ∷ goal_x ∷ start_y ∷ start_x ∷ height ∷ width ∷ []) others

pub row_of : (line : List ℕ) (parts : ScenarioParts) (words : List (List ℕ)) → reverse (words_of line) ≡ words → scenario_of_words words ≡ Some parts → SpellsRow line parts.width parts.height parts.start parts.goal
row_of line parts [] is e = cc (fewer [] (omega arith))
row_of line parts (a ∷ []) is e = cc (fewer (a ∷ []) (omega arith))
row_of line parts (a ∷ b ∷ []) is e = cc (fewer (a ∷ b ∷ []) (omega arith))
row_of line parts (a ∷ b ∷ c ∷ []) is e = cc (fewer (a ∷ b ∷ c ∷ []) (omega arith))
row_of line parts (a ∷ b ∷ c ∷ d ∷ []) is e = cc (fewer (a ∷ b ∷ c ∷ d ∷ []) (omega arith))
row_of line parts (a ∷ b ∷ c ∷ d ∷ f ∷ []) is e = cc (fewer (a ∷ b ∷ c ∷ d ∷ f ∷ []) (omega arith))
row_of line parts (a ∷ b ∷ c ∷ d ∷ f ∷ g ∷ []) is e = cc (fewer (a ∷ b ∷ c ∷ d ∷ f ∷ g ∷ []) (omega arith))
row_of line parts (a ∷ b ∷ c ∷ d ∷ f ∷ g ∷ h ∷ []) is e = cc (fewer (a ∷ b ∷ c ∷ d ∷ f ∷ g ∷ h ∷ []) (omega arith))
row_of line parts (a ∷ b ∷ c ∷ d ∷ f ∷ g ∷ h ∷ i ∷ []) is e = cc (fewer (a ∷ b ∷ c ∷ d ∷ f ∷ g ∷ h ∷ i ∷ []) (omega arith))
row_of line parts (way ∷ goal_y ∷ goal_x ∷ start_y ∷ start_x ∷ height ∷ width ∷ name ∷ bucket ∷ more) is e =
    let pairs = all_pairs (pair_of width height) (pair_of start_x start_y) (pair_of goal_x goal_y) parts (sym (nine way goal_y goal_x start_y start_x height width name bucket more) ∙ e) in
    let size = pairs_are width height (parts.width, parts.height) pairs.size_is in
    front (reverse (name ∷ bucket ∷ more)) (length-reverse (name ∷ bucket ∷ more)) (turned way goal_y goal_x start_y start_x height width (name ∷ bucket ∷ more) (words_of line) is) size
    (pairs_are start_x start_y parts.start pairs.start_is) (pairs_are goal_x goal_y parts.goal pairs.goal_is) where
      front : (others : List (List ℕ)) → length others ≡ length (name ∷ bucket ∷ more) → words_of line ≡ others ++ width ∷ height ∷ start_x ∷ start_y ∷ goal_x ∷ goal_y ∷ way ∷ []
          → IsShortNumber width parts.width × IsShortNumber height parts.height → IsShortNumber start_x parts.start.0 × IsShortNumber start_y parts.start.1 → IsShortNumber goal_x parts.goal.0 × IsShortNumber goal_y parts.goal.1
          → SpellsRow line parts.width parts.height parts.start parts.goal
      front [] len words size start goal = absurd (omega arith)
      front (first ∷ others) len words size start goal = record {
        bucket = first;
        name = others;
        width_word = width;
        height_word = height;
        start_x = start_x;
        start_y = start_y;
        goal_x = goal_x;
        goal_y = goal_y;
        way = way;
        words = words;
        named = omega (arith, len);
        width_is = size.0;
        height_is = size.1;
        start_is = start;
        goal_is = goal;
      }

-- ---- the chosen row

pub record Picks (lines : List (List ℕ)) (number row : ℕ) (chosen : ℕ × List ℕ) : Type 0 where
  pub before : List (List ℕ)
  pub behind : List (List ℕ)
  pub lines_are : lines ≡ before ++ chosen.1 ∷ behind
  pub place : chosen.0 ≡ number + length before
  pub filled : is_blank_line chosen.1 ≡ false
  pub rows_before : length (filter (λ line. not (is_blank_line line)) before) ≡ row

pub picked : (lines : List (List ℕ)) (number row : ℕ) (chosen : ℕ × List ℕ) → slice_get (rows_from number lines) row ≡ Some chosen → Picks lines number row chosen
picked [] number row chosen e = cc
picked (line ∷ lines) number row chosen e = go (λ row rest. picked lines (number + 1) row chosen rest) (is_blank_line line) refl row e where
  more_blank : (row : ℕ) → is_blank_line line ≡ true → Picks lines (number + 1) row chosen → Picks (line ∷ lines) number row chosen
  more_blank row is there = record {
    before = line ∷ there.before;
    behind = there.behind;
    lines_are = ap (λ (ls : List (List ℕ)). line ∷ ls) there.lines_are;
    place = let place : chosen.0 ≡ number + 1 + length there.before = there.place in omega (arith, place);
    filled = there.filled;
    rows_before = ap (λ b. length (cond (not b) (line ∷ filter (λ line. not (is_blank_line line)) there.before) (filter (λ line. not (is_blank_line line)) there.before))) is ∙ there.rows_before;
  }

  more_row : (row : ℕ) → is_blank_line line ≡ false → Picks lines (number + 1) row chosen → Picks (line ∷ lines) number (suc row) chosen
  more_row row is there = record {
    before = line ∷ there.before;
    behind = there.behind;
    lines_are = ap (λ (ls : List (List ℕ)). line ∷ ls) there.lines_are;
    place = let place : chosen.0 ≡ number + 1 + length there.before = there.place in omega (arith, place);
    filled = there.filled;
    rows_before = ap (λ b. length (cond (not b) (line ∷ filter (λ line. not (is_blank_line line)) there.before) (filter (λ line. not (is_blank_line line)) there.before))) is ∙ ap suc there.rows_before;
  }

  go : ((row : ℕ) → slice_get (rows_from (number + 1) lines) row ≡ Some chosen → Picks lines (number + 1) row chosen) → (b : Bool) → is_blank_line line ≡ b → (row : ℕ) → slice_get (rows_from number (line ∷ lines)) row ≡ Some chosen → Picks (line ∷ lines) number row chosen
  go again true is row e =
      let rest : slice_get (rows_from (number + 1) lines) row ≡ Some chosen = sym (ap (λ b. slice_get (cond (not b) ((number, line) ∷ rows_from (number + 1) lines) (rows_from (number + 1) lines)) row) is) ∙ e in
      more_blank row is (again row rest)
  go again false is zero e =
      let here : Some (number, line) ≡ Some chosen = sym (ap (λ b. slice_get (cond (not b) ((number, line) ∷ rows_from (number + 1) lines) (rows_from (number + 1) lines)) 0) is) ∙ e in
      subst (Picks (line ∷ lines) number 0) (same_Some (number, line) chosen here) (record { before = []; behind = lines; lines_are = refl; place = omega arith; filled = is; rows_before = refl })
  go again false is (suc row) e =
      let rest : slice_get (rows_from (number + 1) lines) row ≡ Some chosen = sym (ap (λ b. slice_get (cond (not b) ((number, line) ∷ rows_from (number + 1) lines) (rows_from (number + 1) lines)) (suc row)) is) ∙ e in
      more_row row is (again row rest)

-- ---- the whole scenario

-- the first line of a text that has one with bytes
first_line : (lines : List (List ℕ)) (version : List ℕ) → line_at lines 1 ≡ codes "version" ++ version → lines ≡ (codes "version" ++ version) ∷ drop 1 lines
first_line [] version e = cc
first_line (line ∷ lines) version e = ap (λ (l : List ℕ). l ∷ lines) e

pub scenario_spelled : (text : List ℕ) (row : ℕ) (parts : ScenarioParts) → scenario_reading (lines_of text) row ≡ Ok parts → SpellsScenario text row parts.width parts.height parts.start parts.goal
unfolding scenario_reading
scenario_spelled text row parts e =
    let a = bind_ok (must (errors.Scenario 1) (starts_with nat_eq (line_at (lines_of text) 1) (codes "version"))) _ parts e in
    let b = bind_ok (wanted (errors.NoRow row (length (rows_of_scenario (lines_of text)))) (slice_get (rows_of_scenario (lines_of text)) row)) _ parts a.2 in
    let begins = (starts_is Decides-eqb (line_at (lines_of text) 1) (codes "version") (starts_with nat_eq (line_at (lines_of text) 1) (codes "version")) refl).0 (must_ok (errors.Scenario 1) _ a.0 a.1) in
    let pick = picked (drop 1 (lines_of text)) 2 row b.0 (wanted_ok (errors.NoRow row (length (rows_of_scenario (lines_of text)))) _ b.0 b.1) in
    record {
      version = drop 7 (line_at (lines_of text) 1);
      before = pick.before;
      chosen = b.0.1;
      behind = pick.behind;
      lines = first_line (lines_of text) (drop 7 (line_at (lines_of text) 1)) begins ∙ ap (λ (ls : List (List ℕ)). (codes "version" ++ drop 7 (line_at (lines_of text) 1)) ∷ ls) pick.lines_are;
      rows_before = pick.rows_before;
      row_is = row_of b.0.1 parts (reverse (words_of b.0.1)) refl (wanted_ok (errors.Scenario b.0.0) _ parts b.2);
    }
