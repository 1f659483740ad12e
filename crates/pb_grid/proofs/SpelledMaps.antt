-- What is read of a map without a refusal is the map that its text spells.
use Rattle.std.proofs.Common.{◌≡◌, ℕ, zero, suc, ◌+◌, ◌≤◌, Bool, true, ◌&&◌, Some, Ok, List, [], ◌∷◌, ◌++◌, length, take, drop, map, eqb, leb, codes, refl, sym, subst, ap, ◌∙◌}
use Rattle.std.specs.List.{concat, AllByRecursion}
use Rattle.std.proofs.lemmas.Bool.{leb-true, eqb-true, and_parts}
use Rattle.std.proofs.lemmas.List.{map-append, take-append-drop, drop-drop}
use Rattle.pb_task.specs.declared.parts.Class.{Class}
use Rattle.pb_grid.specs.declared.error.GridError.TheVariants as errors
use Rattle.pb_grid.specs.declared.map.MapParts.{MapParts}
use Rattle.pb_grid.specs.Lines.{lines_of, line_at, words_of, is_blank_line}
use Rattle.pb_grid.specs.Reading.{wanted, must, are_words, number_named, size_of_map, is_side, class_of_byte, cells_of, row_of_map, rows_of_map, below_map, map_reading}
use Rattle.pb_grid.specs.Form.{AreRows, SpellsMap}
use Rattle.pb_grid.proofs.Parting.{no_words}
use Rattle.pb_grid.proofs.Steps.{ok_is, bind_ok, must_ok, wanted_ok, blank_is, words_are, Named, named_is}

-- ---- the first four lines

pub record SaysSize (lines : List (List ℕ)) (height width : ℕ) : Type 0 where
  pub type : words_of (line_at lines 1) ≡ codes "type" ∷ codes "octile" ∷ []
  pub height_is : Named (codes "height") (words_of (line_at lines 2)) height
  pub width_is : Named (codes "width") (words_of (line_at lines 3)) width
  pub last : words_of (line_at lines 4) ≡ codes "map" ∷ []

pub says_size : (lines : List (List ℕ)) (size : ℕ × ℕ) → size_of_map lines ≡ Ok size → SaysSize lines size.0 size.1
unfolding size_of_map
says_size lines size e =
    let a = bind_ok (must (errors.Header 1) (are_words (words_of (line_at lines 1)) (codes "type" ∷ codes "octile" ∷ []))) _ size e in
    let b = bind_ok (wanted (errors.Header 2) (number_named (codes "height") (words_of (line_at lines 2)))) _ size a.2 in
    let c = bind_ok (wanted (errors.Header 3) (number_named (codes "width") (words_of (line_at lines 3)))) _ size b.2 in
    let d = bind_ok (must (errors.Header 4) (are_words (words_of (line_at lines 4)) (codes "map" ∷ []))) _ size c.2 in
    subst (λ (s : ℕ × ℕ). SaysSize lines s.0 s.1) (ok_is (b.0, c.0) size d.2) (record {
      type = words_are (words_of (line_at lines 1)) (codes "type" ∷ codes "octile" ∷ []) (must_ok (errors.Header 1) _ a.0 a.1);
      height_is = named_is (codes "height") (words_of (line_at lines 2)) b.0 (wanted_ok (errors.Header 2) _ b.0 b.1);
      width_is = named_is (codes "width") (words_of (line_at lines 3)) c.0 (wanted_ok (errors.Header 3) _ c.0 c.1);
      last = words_are (words_of (line_at lines 4)) (codes "map" ∷ []) (must_ok (errors.Header 4) _ d.0 d.1);
    })

-- a fourth line with a word is there, and so are those before it
four_lines : (lines : List (List ℕ)) → (words_of (line_at lines 4) ≡ [] → ⊥) → lines ≡ line_at lines 1 ∷ line_at lines 2 ∷ line_at lines 3 ∷ line_at lines 4 ∷ drop 4 lines
four_lines [] some = absurd (some no_words)
four_lines (a ∷ []) some = absurd (some no_words)
four_lines (a ∷ b ∷ []) some = absurd (some no_words)
four_lines (a ∷ b ∷ c ∷ []) some = absurd (some no_words)
four_lines (a ∷ b ∷ c ∷ d ∷ more) some = refl

-- ---- the rows

cells_are : (line column : ℕ) (bytes : List ℕ) (cells : List Class) → cells_of line column bytes ≡ Ok cells → map class_of_byte bytes ≡ map Some cells
unfolding cells_of
cells_are line column [] cells e = ap (map Some) (ok_is [] cells e)
cells_are line column (byte ∷ bytes) cells e =
    let a = bind_ok (wanted (errors.Cell line column) (class_of_byte byte)) _ cells e in
    let b = bind_ok (cells_of line (column + 1) bytes) _ cells a.2 in
    let here : class_of_byte byte ≡ Some a.0 = wanted_ok (errors.Cell line column) (class_of_byte byte) a.0 a.1 in
    let there : map class_of_byte bytes ≡ map Some b.0 = cells_are line (column + 1) bytes b.0 b.1 in
    (λ i. here i ∷ there i) ∙ ap (map Some) (ok_is (a.0 ∷ b.0) cells b.2)

pub row_is : (width line : ℕ) (row : List ℕ) (cells : List Class) → row_of_map width line row ≡ Ok cells → (length row ≡ width) × (map class_of_byte row ≡ map Some cells)
unfolding row_of_map
row_is width line row cells e =
    let a = bind_ok (must (errors.Rows line) (eqb (length row) width)) _ cells e in
    (eqb-true (length row) width (must_ok (errors.Rows line) (eqb (length row) width) a.0 a.1), cells_are line 1 row cells a.2)

rows_are : (width count line : ℕ) (lines : List (List ℕ)) (cells : List Class) → rows_of_map width count line lines ≡ Ok cells → AreRows width count (take count lines) cells
unfolding rows_of_map
rows_are width zero line lines cells e = record { count = refl; widths = _; classes = ap (map Some) (ok_is [] cells e) }
rows_are width (suc count) line [] cells e = cc
rows_are width (suc count) line (row ∷ lines) cells e =
    let a = bind_ok (row_of_map width line row) _ cells e in
    let b = bind_ok (rows_of_map width count (line + 1) lines) _ cells a.2 in
    let here = row_is width line row a.0 a.1 in
    let there = rows_are width count (line + 1) lines b.0 b.1 in
    subst (AreRows width (suc count) (row ∷ take count lines)) (ok_is (a.0 ++ b.0) cells b.2) (record {
      count = ap suc there.count;
      widths = (here.0, there.widths);
      classes = map-append class_of_byte row (concat (take count lines)) ∙ (λ i. here.1 i ++ there.classes i) ∙ sym (map-append Some a.0 b.0);
    })

blank_below : (line : ℕ) (lines : List (List ℕ)) (found : Bool) → below_map line lines ≡ Ok found → AllByRecursion (λ below. words_of below ≡ []) lines
unfolding below_map
blank_below line [] found e = _
blank_below line (below ∷ lines) found e =
    let a = bind_ok (must (errors.Rows line) (is_blank_line below)) _ found e in
    (blank_is below (must_ok (errors.Rows line) (is_blank_line below) a.0 a.1), blank_below (line + 1) lines found a.2)

pub side_is : (cells : ℕ) → is_side cells ≡ true → (1 ≤ cells) × (cells ≤ 2048)
side_is cells e = let parts = and_parts (leb 1 cells) (leb cells 2048) e in (leb-true 1 cells parts.0, leb-true cells 2048 parts.1)

-- ---- the whole map

pub map_spelled : (text : List ℕ) (parts : MapParts) → map_reading (lines_of text) ≡ Ok parts → SpellsMap text parts.width parts.height parts.cells
unfolding map_reading
map_spelled text parts e = go (lines_of text) refl e where
  go : (lines : List (List ℕ)) → lines_of text ≡ lines → map_reading lines ≡ Ok parts → SpellsMap text parts.width parts.height parts.cells
  go lines is e =
      let a = bind_ok (size_of_map lines) _ parts e in
      let b = bind_ok (must errors.Size (is_side a.0.0 && is_side a.0.1)) _ parts a.2 in
      let c = bind_ok (rows_of_map a.0.1 a.0.0 5 (drop 4 lines)) _ parts b.2 in
      let d = bind_ok (below_map (5 + a.0.0) (drop (4 + a.0.0) lines)) _ parts c.2 in
      let size : SaysSize lines a.0.0 a.0.1 = says_size lines a.0 a.1 in
      let sides = and_parts (is_side a.0.0) (is_side a.0.1) (must_ok errors.Size (is_side a.0.0 && is_side a.0.1) b.0 b.1) in
      let below : AllByRecursion (λ line. words_of line ≡ []) (drop a.0.0 (drop 4 lines)) =
      subst (AllByRecursion (λ line. words_of line ≡ [])) (sym (drop-drop a.0.0 4 lines)) (blank_below (5 + a.0.0) (drop (4 + a.0.0) lines) d.0 d.1) in
      subst (λ (p : MapParts). SpellsMap text p.width p.height p.cells) (ok_is (record { width = a.0.1; height = a.0.0; cells = c.0 }) parts d.2) (record {
        type_line = line_at lines 1;
        height_line = line_at lines 2;
        width_line = line_at lines 3;
        map_line = line_at lines 4;
        rows = take a.0.0 (drop 4 lines);
        below = drop a.0.0 (drop 4 lines);
        height_word = size.height_is.word;
        width_word = size.width_is.word;
        lines = is ∙ four_lines lines (λ none. nonempty (sym size.last ∙ none))
            ∙ ap (λ (ls : List (List ℕ)). line_at lines 1 ∷ line_at lines 2 ∷ line_at lines 3 ∷ line_at lines 4 ∷ ls) (sym (take-append-drop a.0.0 (drop 4 lines)));
        type_words = size.type;
        height_words = size.height_is.words_are;
        width_words = size.width_is.words_are;
        map_words = size.last;
        height_is = size.height_is.number_is;
        width_is = size.width_is.number_is;
        height_in = side_is a.0.0 sides.0;
        width_in = side_is a.0.1 sides.1;
        rows_are = rows_are a.0.1 a.0.0 5 (drop 4 lines) c.0 c.1;
        blank = below;
      })
    where
      nonempty : codes "map" ∷ [] ≡ [] → ⊥
      nonempty e = cc
