-- The texts of a made map and of its scenario spell the made grid.
use Rattle.std.proofs.Common.{◌≡◌, ℕ, zero, suc, ◌+◌, ◌-◌, ◌*◌, ◌^◌, ◌<◌, ◌≤◌, true, false, IsTrue, ◌&&◌, nat_lt, if◌then◌else◌, unwrap_or, Option, Some, slice_get, List, [], ◌∷◌, ◌++◌, length, take, drop, map, codes, refl, ap, sym, arith, ◌∙◌, length-drop, append_assoc}
use Rattle.std.proofs.lemmas.Bool.{lt-ltb}
use Rattle.std.proofs.lemmas.List.{length-take-le, take-append-drop}
use Rattle.std.proofs.lemmas.Nat.{mul-le}
use Rattle.std.specs.Fmt.{decimal}
use Rattle.std.specs.List.{AllByRecursion, concat, list_all}
use Rattle.pb_task.specs.declared.parts.Class.{Class}
use Rattle.pb_task.specs.declared.parts.Class.TheVariants.{Blocked, Land}
use Rattle.pb_task.specs.Grid.{is_passable}
use Rattle.pb_grid.specs.Lines.{lines_of, words_of}
use Rattle.pb_grid.specs.Reading.{class_of_byte, is_swamp_byte}
use Rattle.pb_lines.specs.ShortNumbers.{IsShortNumber}
use Rattle.pb_grid.specs.Form.{SpellsMap, SpellsScenario}
use Rattle.pb_make.specs.Draws.{draws}
use Rattle.pb_make.specs.Lines.{line, lines, rows_of}
use Rattle.pb_make.specs.Maps.{cell, map_cells, map_text, scenario_row, scenario_text}
use Rattle.pb_make_laws.specs.Made.{class_of_cell}
use Rattle.pb_make_laws.specs.Laws.{MadeMapsAreSpelled}
use Rattle.pb_make_laws.proofs.Words.{IsPlainWord, all_append, all_by, all_drop, all_take, decimal_number, decimal_plain, is_inner, is_plain, joined_inner, lines_back, plain_inner, word_front, word_whole, words_joined}
use Rattle.pb_make_laws.proofs.MapCells.{is_cell, cell_plain, classes_are, first_is_land, last_is_land, length-drawn, length-map_cells, map_cells_are}

-- ---- rows

-- what the rows of a rectangle of cells are
record AreCut (rows width : ℕ) (cells : List ℕ) : Type 0 where
  pub count : length (rows_of rows width cells) ≡ rows
  pub widths : AllByRecursion (λ row. length row ≡ width) (rows_of rows width cells)
  pub inner : AllByRecursion (λ row. list_all is_inner row ≡ true) (rows_of rows width cells)
  pub whole : concat (rows_of rows width cells) ≡ cells

cell_inner : (byte : ℕ) → is_cell byte ≡ true → is_inner byte ≡ true
cell_inner byte e = plain_inner byte (cell_plain byte e)

no_cells : (cells : List ℕ) → length cells ≡ 0 → [] ≡ cells
no_cells [] e = refl
no_cells (x ∷ xs) e = absurd (omega arith)

cut : (rows width : ℕ) (cells : List ℕ) → length cells ≡ rows * width → list_all is_cell cells ≡ true → AreCut rows width cells
cut zero width cells many are = record { count = refl; widths = tt; inner = tt; whole = no_cells cells (omega arith) }
cut (suc rows) width cells many are =
    let product : suc rows * width ≡ width + rows * width = omega arith in
    let len : length (drop width cells) ≡ length cells - width = length-drop width cells in
    let more = cut rows width (drop width cells) (omega (arith, product, len, many)) (all_drop is_cell width cells are) in
    record {
      count = ap suc more.count;
      widths = (length-take-le width cells (omega (arith, product, many)), more.widths);
      inner = (all_by is_cell is_inner cell_inner (take width cells) (all_take is_cell width cells are), more.inner);
      whole = ap (λ (rest : List ℕ). take width cells ++ rest) more.whole ∙ take-append-drop width cells;
    }

-- ---- the map

all_joined : (xs ys : List (List ℕ)) → AllByRecursion (λ row. list_all is_inner row ≡ true) xs → AllByRecursion (λ row. list_all is_inner row ≡ true) ys
    → AllByRecursion (λ row. list_all is_inner row ≡ true) (xs ++ ys)
all_joined [] ys p q = q
all_joined (x ∷ xs) ys p q = (p.0, all_joined xs ys p.1 q)

append_nothing : (xs : List (List ℕ)) → xs ≡ xs ++ []
append_nothing [] = refl
append_nothing (x ∷ xs) = ap (λ (rest : List (List ℕ)). x ∷ rest) (append_nothing xs)

lines-append : (xs ys : List (List ℕ)) → lines xs ++ lines ys ≡ lines (xs ++ ys)
lines-append [] ys = refl
lines-append (x ∷ xs) ys = append_assoc (line x) (lines xs) (lines ys) ∙ ap (λ (rest : List ℕ). line x ++ rest) (lines-append xs ys)

-- the four lines before the rows have no line feed and no carriage return
header_inner : (digits : List ℕ) → list_all is_inner digits ≡ true
    → AllByRecursion (λ row. list_all is_inner row ≡ true) (codes "type octile" ∷ (codes "height " ++ digits) ∷ (codes "width " ++ digits) ∷ codes "map" ∷ [])
header_inner digits inner = (refl, (all_append is_inner (codes "height ") digits refl inner, (all_append is_inner (codes "width ") digits refl inner, (refl, tt))))

map_spelled : (seed side : ℕ) → 1 ≤ side → side ≤ 2048 → SpellsMap (map_text seed side) side side (map class_of_cell (map_cells seed side))
map_spelled seed side some most =
    let cells = map_cells seed side in
    let is = cut side side cells (length-map_cells seed side) (map_cells_are seed side) in
    let side_word = decimal side in
    let head = codes "type octile" ∷ (codes "height " ++ side_word) ∷ (codes "width " ++ side_word) ∷ codes "map" ∷ [] in
    let wide : side < 2 ^ 64 = omega arith in
    let small : side < 10 ^ 9 = omega arith in
    let plain : IsPlainWord side_word = decimal_plain side wide in
    let named : (name : List ℕ) → IsPlainWord name → words_of (name ++ 32 ∷ side_word) ≡ name ∷ side_word ∷ [] =
    λ name is_word. word_front name 32 side_word is_word refl ∙ ap (λ (rest : List (List ℕ)). name ∷ rest) (word_whole side_word plain) in
    record {
      type_line = codes "type octile";
      height_line = codes "height " ++ side_word;
      width_line = codes "width " ++ side_word;
      map_line = codes "map";
      rows = rows_of side side cells;
      below = [];
      height_word = side_word;
      width_word = side_word;
      lines =
          ap lines_of (lines-append head (rows_of side side cells))
          ∙ (lines_back (head ++ rows_of side side cells) (all_joined head (rows_of side side cells) (header_inner side_word (all_by is_plain is_inner plain_inner side_word plain.plain)) is.inner)
          ∙ ap (λ (rest : List (List ℕ)). head ++ rest) (append_nothing (rows_of side side cells)));
      type_words = word_front (codes "type") 32 (codes "octile") (record { some = omega arith; plain = refl }) refl
          ∙ ap (λ (rest : List (List ℕ)). codes "type" ∷ rest) (word_whole (codes "octile") (record { some = omega arith; plain = refl }));
      height_words = named (codes "height") (record { some = omega arith; plain = refl });
      width_words = named (codes "width") (record { some = omega arith; plain = refl });
      map_words = word_whole (codes "map") (record { some = omega arith; plain = refl });
      height_is = decimal_number side small;
      width_is = decimal_number side small;
      height_in = (some, most);
      width_in = (some, most);
      rows_are = record {
        count = is.count;
        widths = is.widths;
        classes = ap (map class_of_byte) is.whole ∙ classes_are cells (map_cells_are seed side);
      };
      blank = tt;
    }

-- ---- the scenario

scenario_spelled : (side : ℕ) → 1 ≤ side → side ≤ 2048 → SpellsScenario (scenario_text side) 0 side side (0, 0) (side - 1, side - 1)
scenario_spelled side some most =
    let last = side - 1 in
    let wide : side < 2 ^ 64 = omega arith in
    let small : side < 10 ^ 9 = omega arith in
    let wide_last : side - 1 < 2 ^ 64 = omega arith in
    let small_last : side - 1 < 10 ^ 9 = omega arith in
    let zero_word : IsPlainWord (codes "0") = record { some = omega arith; plain = refl } in
    let name_word : IsPlainWord (codes "made") = record { some = omega arith; plain = refl } in
    let zero_number : IsShortNumber (codes "0") 0 = record { some = omega arith; most = omega arith; digits = refl; value = refl } in
    let side_word = decimal_plain side wide in
    let last_word = decimal_plain (side - 1) wide_last in
    let words = codes "0" ∷ codes "made" ∷ decimal side ∷ decimal side ∷ codes "0" ∷ codes "0" ∷ decimal last ∷ decimal last ∷ codes "0" ∷ [] in
    let all : AllByRecursion IsPlainWord words =
    (zero_word, (name_word, (side_word, (side_word, (zero_word, (zero_word, (last_word, (last_word, (zero_word, tt))))))))) in
    record {
      version = codes " 1";
      before = [];
      chosen = scenario_row side;
      behind = [];
      lines = lines_back (codes "version 1" ∷ scenario_row side ∷ []) (refl, (joined_inner words all, tt));
      rows_before = refl;
      row_is = record {
        bucket = codes "0";
        name = codes "made" ∷ [];
        width_word = decimal side;
        height_word = decimal side;
        start_x = codes "0";
        start_y = codes "0";
        goal_x = decimal last;
        goal_y = decimal last;
        way = codes "0";
        words = words_joined words all;
        named = omega arith;
        width_is = decimal_number side small;
        height_is = decimal_number side small;
        start_is = (zero_number, zero_number);
        goal_is = (decimal_number last small_last, decimal_number last small_last);
      };
    }

-- ---- start and goal

free_at : (width height : ℕ) (cells : List Class) (x y at : ℕ) → x < width → y < height → y * width + x ≡ at → slice_get cells at ≡ Some Land
    → IsTrue (is_passable (if nat_lt x width && nat_lt y height then unwrap_or (slice_get cells (y * width + x)) Blocked else Blocked))
free_at width height cells x y at p q place land =
    let inside : (nat_lt x width && nat_lt y height) ≡ true = λ i. lt-ltb x width p i && lt-ltb y height q i in
    let class : slice_get cells (y * width + x) ≡ Some Land = ap (slice_get cells) place ∙ land in
    ap (λ test. is_passable (if test then unwrap_or (slice_get cells (y * width + x)) Blocked else Blocked)) inside ∙ ap (λ (found : Option Class). is_passable (unwrap_or found Blocked)) class

corner : (side : ℕ) → 1 ≤ side → (side - 1) * side + (side - 1) ≡ side * side - 1
corner zero some = absurd (omega arith)
corner (suc m) some = let e : suc m - 1 ≡ m = omega arith in rw e (omega arith)

pub made_maps_are_spelled : MadeMapsAreSpelled
unfolding map_spelled
made_maps_are_spelled seed side some most =
    let drawn = map cell (draws (side * side) seed) in
    let count = length-drawn seed side in
    let area : 1 * 1 ≤ side * side = mul-le 1 1 side side some some in
    let inside : side - 1 < side = omega arith in
    record {
      map_is = map_spelled seed side some most;
      swamp_is = ap (map (is_swamp_byte false)) (sym (cut side side (map_cells seed side) (length-map_cells seed side) (map_cells_are seed side)).whole);
      scenario_is = scenario_spelled side some most;
      start_on_map = (some, some);
      goal_on_map = (inside, inside);
      start_free = free_at side side (map class_of_cell (map_cells seed side)) 0 0 0 some some (omega arith) (first_is_land drawn (side * side) (omega (arith, count, area)));
      goal_free = free_at side side (map class_of_cell (map_cells seed side)) (side - 1) (side - 1) (side * side - 1) inside inside (corner side some)
          (last_is_land drawn (side * side) (omega (arith, area)) (sym count));
    }
