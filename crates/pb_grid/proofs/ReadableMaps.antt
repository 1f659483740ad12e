-- The map that a text spells is read.
use Rattle.std.proofs.Common.{◌≡◌, ℕ, ◌+◌, ◌≤◌, true, ◌&&◌, Some, Ok, List, [], ◌∷◌, ◌++◌, length, drop, map, leb, codes, refl, sym, ap, ◌∙◌}
use Rattle.std.specs.List.{concat, AllByRecursion}
use Rattle.std.proofs.lemmas.Bool.{le-leb, eq-eqb, and_from}
use Rattle.std.proofs.lemmas.List.{drop-drop, drop_at}
use Rattle.pb_lines.specs.ShortNumbers.{IsShortNumber}
use Rattle.pb_task.specs.declared.parts.Class.{Class}
use Rattle.pb_grid.specs.declared.error.GridError.TheVariants as errors
use Rattle.pb_grid.specs.Lines.{lines_of, line_at, words_of}
use Rattle.pb_grid.specs.Reading.{◌>>=◌, must, are_words, number_named, size_of_map, is_side, class_of_byte, cells_of, row_of_map, rows_of_map, below_map, map_reading}
use Rattle.pb_grid.specs.Form.{SpellsMap}
use Rattle.pb_grid.proofs.Steps.{is_blank_is, are_words_is, number_named_is}

-- ---- the first four lines

pub said_size : (lines : List (List ℕ)) (height_word width_word : List ℕ) (height width : ℕ) → words_of (line_at lines 1) ≡ codes "type" ∷ codes "octile" ∷ [] → words_of (line_at lines 2) ≡ codes "height" ∷ height_word ∷ []
    → words_of (line_at lines 3) ≡ codes "width" ∷ width_word ∷ [] → words_of (line_at lines 4) ≡ codes "map" ∷ [] → IsShortNumber height_word height → IsShortNumber width_word width → size_of_map lines ≡ Ok (height, width)
unfolding size_of_map
said_size lines height_word width_word height width a b c d height_is width_is =
    let p : are_words (words_of (line_at lines 1)) (codes "type" ∷ codes "octile" ∷ []) ≡ true = ap (λ (ws : List (List ℕ)). are_words ws (codes "type" ∷ codes "octile" ∷ [])) a ∙ are_words_is (codes "type" ∷ codes "octile" ∷ []) in
    let q : number_named (codes "height") (words_of (line_at lines 2)) ≡ Some height = ap (number_named (codes "height")) b ∙ number_named_is (codes "height") height_word height height_is in
    let r : number_named (codes "width") (words_of (line_at lines 3)) ≡ Some width = ap (number_named (codes "width")) c ∙ number_named_is (codes "width") width_word width width_is in
    let s : are_words (words_of (line_at lines 4)) (codes "map" ∷ []) ≡ true = ap (λ (ws : List (List ℕ)). are_words ws (codes "map" ∷ [])) d ∙ are_words_is (codes "map" ∷ []) in
    rw (p, q, r, s) refl

-- ---- the rows

heads : {A : Type 0} → (a b : A) (xs ys : List A) → a ∷ xs ≡ b ∷ ys → (a ≡ b) × (xs ≡ ys)
heads a b xs ys e = (cc, cc)

-- bytes that stand for cells, parted
record Parted (first rest : List ℕ) (cells : List Class) : Type 0 where
  pub front : List Class
  pub back : List Class
  pub front_is : map class_of_byte first ≡ map Some front
  pub back_is : map class_of_byte rest ≡ map Some back
  pub cells_are : cells ≡ front ++ back

parted : (first rest : List ℕ) (cells : List Class) → map class_of_byte (first ++ rest) ≡ map Some cells → Parted first rest cells
parted [] rest cells e = record { front = []; back = cells; front_is = refl; back_is = e; cells_are = refl }
parted (byte ∷ bytes) rest [] e = cc
parted (byte ∷ bytes) rest (cell ∷ cells) e =
    let parts : (class_of_byte byte ≡ Some cell) × (map class_of_byte (bytes ++ rest) ≡ map Some cells) = heads (class_of_byte byte) (Some cell) (map class_of_byte (bytes ++ rest)) (map Some cells) e in
    let more : Parted bytes rest cells = parted bytes rest cells parts.1 in
    record {
      front = cell ∷ more.front;
      back = more.back;
      front_is = (λ i. parts.0 i ∷ more.front_is i);
      back_is = more.back_is;
      cells_are = ap (λ (cs : List Class). cell ∷ cs) more.cells_are;
    }

cells_read : (line column : ℕ) (bytes : List ℕ) (cells : List Class) → map class_of_byte bytes ≡ map Some cells → cells_of line column bytes ≡ Ok cells
unfolding cells_of
cells_read line column [] [] e = refl
cells_read line column [] (cell ∷ cells) e = cc
cells_read line column (byte ∷ bytes) [] e = cc
cells_read line column (byte ∷ bytes) (cell ∷ cells) e =
    let parts : (class_of_byte byte ≡ Some cell) × (map class_of_byte bytes ≡ map Some cells) = heads (class_of_byte byte) (Some cell) (map class_of_byte bytes) (map Some cells) e in
    let rest : cells_of line (column + 1) bytes ≡ Ok cells = cells_read line (column + 1) bytes cells parts.1 in
    rw (parts.0, rest) refl

pub row_read : (width line : ℕ) (row : List ℕ) (cells : List Class) → length row ≡ width → map class_of_byte row ≡ map Some cells → row_of_map width line row ≡ Ok cells
unfolding row_of_map
row_read width line row cells wide is = ap (λ b. must (errors.Rows line) b >>= λ found. cells_of line 1 row) (eq-eqb (length row) width wide) ∙ cells_read line 1 row cells is

no_cells : (cells : List Class) → map class_of_byte [] ≡ map Some cells → cells ≡ []
no_cells [] e = refl
no_cells (cell ∷ cells) e = cc

rows_read : (width line : ℕ) (rows below : List (List ℕ)) (cells : List Class) → AllByRecursion (λ row. length row ≡ width) rows → map class_of_byte (concat rows) ≡ map Some cells
    → rows_of_map width (length rows) line (rows ++ below) ≡ Ok cells
unfolding rows_of_map
rows_read width line [] below cells wide is = ap Ok (sym (no_cells cells is))
rows_read width line (row ∷ rows) below cells wide is =
    let parts : Parted row (concat rows) cells = parted row (concat rows) cells is in
    let here : row_of_map width line row ≡ Ok parts.front = row_read width line row parts.front wide.0 parts.front_is in
    let there : rows_of_map width (length rows) (line + 1) (rows ++ below) ≡ Ok parts.back = rows_read width (line + 1) rows below parts.back wide.1 parts.back_is in
    rw (here, there) (ap Ok (sym parts.cells_are))

below_read : (line : ℕ) (lines : List (List ℕ)) → AllByRecursion (λ below. words_of below ≡ []) lines → below_map line lines ≡ Ok true
unfolding below_map
below_read line [] blank = refl
below_read line (below ∷ lines) blank = ap (λ b. must (errors.Rows line) b >>= λ found. below_map (line + 1) lines) (is_blank_is below blank.0) ∙ below_read (line + 1) lines blank.1

pub side_read : (cells : ℕ) → (1 ≤ cells) × (cells ≤ 2048) → is_side cells ≡ true
side_read cells within = and_from (leb 1 cells) (leb cells 2048) (le-leb 1 cells within.0) (le-leb cells 2048 within.1)

-- ---- the whole map

steps : (lines : List (List ℕ)) (height width : ℕ) (cells : List Class) → size_of_map lines ≡ Ok (height, width) → (is_side height && is_side width) ≡ true → rows_of_map width height 5 (drop 4 lines) ≡ Ok cells
    → below_map (5 + height) (drop (4 + height) lines) ≡ Ok true → map_reading lines ≡ Ok (record { width = width; height = height; cells = cells })
unfolding map_reading
steps lines height width cells size sides rows below = rw (size, sides, rows, below) refl

pub map_read : (text : List ℕ) (width height : ℕ) (cells : List Class) → SpellsMap text width height cells → map_reading (lines_of text) ≡ Ok (record { width = width; height = height; cells = cells })
map_read text width height cells is =
    let lines : List (List ℕ) = is.type_line ∷ is.height_line ∷ is.width_line ∷ is.map_line ∷ (is.rows ++ is.below) in
    let rows : rows_of_map width height 5 (is.rows ++ is.below) ≡ Ok cells =
    ap (λ n. rows_of_map width n 5 (is.rows ++ is.below)) (sym is.rows_are.count) ∙ rows_read width 5 is.rows is.below cells is.rows_are.widths is.rows_are.classes in
    let below : drop (4 + height) lines ≡ is.below = sym (drop-drop height 4 lines) ∙ drop_at is.rows is.below height is.rows_are.count in
    ap map_reading is.lines
    ∙ steps lines height width cells (said_size lines is.height_word is.width_word height width is.type_words is.height_words is.width_words is.map_words is.height_is is.width_is)
    (and_from (is_side height) (is_side width) (side_read height is.height_in) (side_read width is.width_in)) rows (ap (below_map (5 + height)) below ∙ below_read (5 + height) is.below is.blank)
