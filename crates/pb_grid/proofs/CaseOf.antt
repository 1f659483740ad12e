-- Each refusal is told only in its case.
use Rattle.std.proofs.Common.{◌≡◌, ◌≢◌, ℕ, zero, suc, ◌+◌, ◌<◌, ◌≤◌, Bool, true, false, ◌&&◌, not, cond, Option, Some, None, Result, Ok, Err, List, [], ◌∷◌, ◌++◌, length, take, drop, map, reverse, eqb, codes, nat_eq, ◌⊎◌, inl, inr, refl, sym, subst, ap, ◌∙◌, arith}
use Rattle.std.specs.List.{AllByRecursion, slice_get, starts_with, filter}
use Rattle.std.proofs.lemmas.Bool.{eq-eqb, eqb-true, and_parts, and_from, both_ways}
use Rattle.std.proofs.lemmas.Bool.Decides.{Decides-eqb}
use Rattle.std.proofs.lemmas.List.{take-append-drop, drop-drop}
use Rattle.std.proofs.lemmas.Slice.Eq.{starts_is}
use Rattle.pb_task.specs.declared.parts.Class.{Class}
use Rattle.pb_task.specs.declared.parts.GridParts.{GridParts}
use Rattle.pb_grid.specs.declared.error.GridError.{GridError}
use Rattle.pb_grid.specs.declared.error.GridError.TheVariants as errors
use Rattle.pb_grid.specs.declared.map.MapParts.{MapParts}
use Rattle.pb_grid.specs.declared.scenario.ScenarioParts.{ScenarioParts}
use Rattle.pb_grid.specs.Lines.{lines_of, line_at, words_of, is_blank_line}
use Rattle.pb_grid.specs.Reading.{◌>>=◌, wanted, must, are_words, number_named, size_of_map, is_side, class_of_byte, cells_of, row_of_map, rows_of_map, below_map, map_reading, rows_of_scenario, scenario_of_words, scenario_reading, swamp_of, is_on_map, is_free, grid_of_parts, grid_reading}
use Rattle.pb_grid.specs.Form.{SpellsMap, SpellsRow, SpellsScenario}
use Rattle.pb_grid.specs.Cases.{NamesNumber, SaysType, SaysHeight, SaysWidth, HasHeader, IsSide, IsRow, IsRowFault, IsCellFault, BeginsWithVersion, count_of_rows, IsCaseOf}
use Rattle.pb_grid.proofs.Chosen.{rows_from}
use Rattle.pb_grid.proofs.Steps.{bind_ok, must_ok, wanted_ok, blank_is, is_blank_is, words_are, are_words_is, Named, named_is, number_named_is}
use Rattle.pb_grid.proofs.SpelledMaps.{SaysSize, says_size, row_is, side_is, map_spelled}
use Rattle.pb_grid.proofs.SpelledScenarios.{Picks, picked, scenario_spelled}
use Rattle.pb_grid.proofs.ReadableMaps.{side_read}
use Rattle.pb_grid.proofs.ReadableScenarios.{row_read}
use Rattle.pb_grid.proofs.Grids.{joined, on_map, is_on}

-- ---- results

bind_case : {A B : Type 0} → (r : Result A GridError) (f : A → Result B GridError) (error : GridError) (P : Type 0) → (r ≡ Err error → P) → ((x : A) → r ≡ Ok x → f x ≡ Err error → P) → (r >>= f) ≡ Err error → P
bind_case (Ok x) f error P one two e = two x refl e
bind_case (Err other) f error P one two e = let same : other ≡ error = cc in one (ap Err same)

must_case : (error other : GridError) (holds : Bool) → must error holds ≡ Err other → (holds ≡ false) × (error ≡ other)
must_case error other true e = cc
must_case error other false e = (refl, cc)

wanted_case : {A : Type 0} → (error other : GridError) (o : Option A) → wanted error o ≡ Err other → (o ≡ None) × (error ≡ other)
wanted_case error other (Some x) e = cc
wanted_case error other None e = (refl, cc)

not_ok : {A : Type 0} → (x : A) (error : GridError) (P : Type 0) → Ok x ≡ Err error → P
not_ok x error P e = cc

-- ---- the first four lines

not_words : (words want : List (List ℕ)) → are_words words want ≡ false → words ≡ want → ⊥
not_words words want differs e = both_ways (are_words words want) differs (ap (λ (ws : List (List ℕ)). are_words ws want) e ∙ are_words_is want)

not_named : (name : List ℕ) (words : List (List ℕ)) → number_named name words ≡ None → (number : ℕ) → NamesNumber name words number → ⊥
not_named name words none number (word, is, number_is) = let some : number_named name words ≡ Some number = ap (number_named name) is ∙ number_named_is name word number number_is in cc

pub names : (name : List ℕ) (words : List (List ℕ)) (number : ℕ) → Named name words number → NamesNumber name words number
names name words number is = (is.word, is.words_are, is.number_is)

header : (lines : List (List ℕ)) (height width : ℕ) → SaysSize lines height width → HasHeader lines height width
header lines height width is = record {
  type = is.type;
  height_is = names (codes "height") (words_of (line_at lines 2)) height is.height_is;
  width_is = names (codes "width") (words_of (line_at lines 3)) width is.width_is;
  map_is = is.last;
}

module _ (map_text scenario_text : List ℕ) (row : ℕ) (error : GridError) where
  size_case : size_of_map (lines_of map_text) ≡ Err error → IsCaseOf map_text scenario_text row error
  unfolding size_of_map
  size_case =
      let lines = lines_of map_text in
      let Case : GridError → Type 0 = IsCaseOf map_text scenario_text row in
      let one = are_words (words_of (line_at lines 1)) (codes "type" ∷ codes "octile" ∷ []) in
      let two = number_named (codes "height") (words_of (line_at lines 2)) in
      let three = number_named (codes "width") (words_of (line_at lines 3)) in
      let four = are_words (words_of (line_at lines 4)) (codes "map" ∷ []) in
      bind_case (must (errors.Header 1) one) _ error (Case error) (λ h. let k = must_case (errors.Header 1) error one h in subst Case k.1 (not_words (words_of (line_at lines 1)) (codes "type" ∷ codes "octile" ∷ []) k.0)) (λ a p.
      let type : SaysType lines = words_are (words_of (line_at lines 1)) (codes "type" ∷ codes "octile" ∷ []) (must_ok (errors.Header 1) one a p) in
      bind_case (wanted (errors.Header 2) two) _ error (Case error) (λ h. let k = wanted_case (errors.Header 2) error two h in subst Case k.1 (type, not_named (codes "height") (words_of (line_at lines 2)) k.0)) (λ height q.
      let height_is : SaysHeight lines height = names (codes "height") (words_of (line_at lines 2)) height (named_is (codes "height") (words_of (line_at lines 2)) height (wanted_ok (errors.Header 2) two height q)) in
      bind_case (wanted (errors.Header 3) three) _ error (Case error) (λ h. let k = wanted_case (errors.Header 3) error three h in subst Case k.1 (height, type, height_is, not_named (codes "width") (words_of (line_at lines 3)) k.0)) (λ width r.
      let width_is : SaysWidth lines width = names (codes "width") (words_of (line_at lines 3)) width (named_is (codes "width") (words_of (line_at lines 3)) width (wanted_ok (errors.Header 3) three width r)) in
      bind_case (must (errors.Header 4) four) _ error (Case error) (λ h. let k = must_case (errors.Header 4) error four h in subst Case k.1 (height, width, type, height_is, width_is, not_words (words_of (line_at lines 4)) (codes "map" ∷ []) k.0)) (λ b s.
      not_ok (height, width) error (Case error)))))

-- ---- cells and rows

-- the fault of a byte of a row
record ByteFault (column : ℕ) (bytes : List ℕ) (col : ℕ) : Type 0 where
  pub front : List ℕ
  pub byte : ℕ
  pub back : List ℕ
  pub bytes_are : bytes ≡ front ++ byte ∷ back
  pub cells : List Class
  pub classes : map class_of_byte front ≡ map Some cells
  pub place : col ≡ column + length front
  pub unknown : class_of_byte byte ≡ None

cells_case : (line column : ℕ) (bytes : List ℕ) (error : GridError) → cells_of line column bytes ≡ Err error → (col : ℕ) × (errors.Cell line col ≡ error) × ByteFault column bytes col
unfolding cells_of
cells_case line column [] error e = cc
cells_case line column (byte ∷ bytes) error e =
    bind_case (wanted (errors.Cell line column) (class_of_byte byte)) _ error ((col : ℕ) × (errors.Cell line col ≡ error) × ByteFault column (byte ∷ bytes) col)
    (λ h. let k = wanted_case (errors.Cell line column) error (class_of_byte byte) h in (column, k.1, record { front = []; byte = byte; back = bytes; bytes_are = refl; cells = []; classes = refl; place = omega arith; unknown = k.0 }))
    (λ cell p. bind_case (cells_of line (column + 1) bytes) _ error ((col : ℕ) × (errors.Cell line col ≡ error) × ByteFault column (byte ∷ bytes) col)
    (λ h.
    let more = cells_case line (column + 1) bytes error h in
    let there : ByteFault (column + 1) bytes more.0 = more.2 in
    let here : class_of_byte byte ≡ Some cell = wanted_ok (errors.Cell line column) (class_of_byte byte) cell p in (
      more.0,
      more.1,
      record {
        front = byte ∷ there.front;
        byte = there.byte;
        back = there.back;
        bytes_are = ap (λ (bs : List ℕ). byte ∷ bs) there.bytes_are;
        cells = cell ∷ there.cells;
        classes = (λ i. here i ∷ there.classes i);
        place = let place : more.0 ≡ column + 1 + length there.front = there.place in omega (arith, place);
        unknown = there.unknown;
      },
    ))
    (λ cells q. not_ok (cell ∷ cells) error ((col : ℕ) × (errors.Cell line col ≡ error) × ByteFault column (byte ∷ bytes) col))) e

-- the fault of a row among so many
abbrev RowsFault : (first height width : ℕ) → (lines : List (List ℕ)) → GridError → Type 0
RowsFault first height width lines error =
    ((line : ℕ) × (errors.Rows line ≡ error) × IsRowFault first lines height width line) ⊎ ((line : ℕ) × (col : ℕ) × (errors.Cell line col ≡ error) × IsCellFault first lines height width line col)

row_case : (first height width : ℕ) (row : List ℕ) (lines : List (List ℕ)) (error : GridError) → row_of_map width first row ≡ Err error → RowsFault first (suc height) width (row ∷ lines) error
unfolding row_of_map
row_case first height width row lines error e =
    let here : first ≡ first + 0 = omega arith in
    let few : 0 < suc height = omega arith in
    bind_case (must (errors.Rows first) (eqb (length row) width)) _ error (RowsFault first (suc height) width (row ∷ lines) error)
    (λ h. let k = must_case (errors.Rows first) error (eqb (length row) width) h in
    inl (first, k.1, record { before = []; rows = _; few = few; place = here; fault = inr (row, lines, refl, λ wide. both_ways (eqb (length row) width) k.0 (eq-eqb (length row) width wide)) }))
    (λ found p q.
    let byte = cells_case first 1 row error q in
    let is : ByteFault 1 row byte.0 = byte.2 in
    inr (
      first,
      byte.0,
      byte.1,
      record {
        before = [];
        row = row;
        behind = lines;
        lines_are = refl;
        rows = _;
        few = few;
        place = here;
        wide = eqb-true (length row) width (must_ok (errors.Rows first) (eqb (length row) width) found p);
        front = is.front;
        byte = is.byte;
        back = is.back;
        bytes_are = is.bytes_are;
        cells = is.cells;
        classes = is.classes;
        column = is.place;
        unknown = is.unknown;
      },
    )) e

-- the fault of the rows behind a row
behind_row : (first height width : ℕ) (row : List ℕ) (lines : List (List ℕ)) (error : GridError) → IsRow width row → RowsFault (first + 1) height width lines error → RowsFault first (suc height) width (row ∷ lines) error
behind_row first height width row lines error is (inl (line, same, fault)) = inl (
  line,
  same,
  record {
    before = row ∷ fault.before;
    rows = (is, fault.rows);
    few = let few : length fault.before < height = fault.few in omega (arith, few);
    place = let place : line ≡ first + 1 + length fault.before = fault.place in omega (arith, place);
    fault = shifted fault.before fault.fault;
  },
) where
  shifted : (before : List (List ℕ)) → (lines ≡ before) ⊎ ((other : List ℕ) × (behind : List (List ℕ)) × (lines ≡ before ++ other ∷ behind) × (length other ≢ width))
      → (row ∷ lines ≡ row ∷ before) ⊎ ((other : List ℕ) × (behind : List (List ℕ)) × (row ∷ lines ≡ (row ∷ before) ++ other ∷ behind) × (length other ≢ width))
  shifted before (inl e) = inl (ap (λ (ls : List (List ℕ)). row ∷ ls) e)
  shifted before (inr (other, behind, e, differs)) = inr (other, behind, ap (λ (ls : List (List ℕ)). row ∷ ls) e, differs)
behind_row first height width row lines error is (inr (line, col, same, fault)) = inr (
  line,
  col,
  same,
  record {
    before = row ∷ fault.before;
    row = fault.row;
    behind = fault.behind;
    lines_are = ap (λ (ls : List (List ℕ)). row ∷ ls) fault.lines_are;
    rows = (is, fault.rows);
    few = let few : length fault.before < height = fault.few in omega (arith, few);
    place = let place : line ≡ first + 1 + length fault.before = fault.place in omega (arith, place);
    wide = fault.wide;
    front = fault.front;
    byte = fault.byte;
    back = fault.back;
    bytes_are = fault.bytes_are;
    cells = fault.cells;
    classes = fault.classes;
    column = fault.column;
    unknown = fault.unknown;
  },
)

is_row : (width line : ℕ) (row : List ℕ) (cells : List Class) → row_of_map width line row ≡ Ok cells → IsRow width row
is_row width line row cells e = let is = row_is width line row cells e in record { wide = is.0; cells = cells; classes = is.1 }

rows_case : (first height width : ℕ) (lines : List (List ℕ)) (error : GridError) → rows_of_map width height first lines ≡ Err error → RowsFault first height width lines error
unfolding rows_of_map
rows_case first zero width lines error e = cc
rows_case first (suc height) width [] error e =
    let same : errors.Rows first ≡ error = cc in inl (first, same, record { before = []; rows = _; few = omega arith; place = omega arith; fault = inl refl })
rows_case first (suc height) width (row ∷ lines) error e =
    bind_case (row_of_map width first row) _ error (RowsFault first (suc height) width (row ∷ lines) error) (row_case first height width row lines error) (λ cells p.
    bind_case (rows_of_map width height (first + 1) lines) _ error (RowsFault first (suc height) width (row ∷ lines) error)
    (λ h. behind_row first height width row lines error (is_row width first row cells p) (rows_case (first + 1) height width lines error h))
    (λ others q. not_ok (cells ++ others) error (RowsFault first (suc height) width (row ∷ lines) error))) e

rows_right : (first height width : ℕ) (lines : List (List ℕ)) (cells : List Class) → rows_of_map width height first lines ≡ Ok cells → AllByRecursion (IsRow width) (take height lines) × (length (take height lines) ≡ height)
unfolding rows_of_map
rows_right first zero width lines cells e = (_, refl)
rows_right first (suc height) width [] cells e = cc
rows_right first (suc height) width (row ∷ lines) cells e =
    let a = bind_ok (row_of_map width first row) _ cells e in
    let b = bind_ok (rows_of_map width height (first + 1) lines) _ cells a.2 in
    let more = rows_right (first + 1) height width lines b.0 b.1 in
    ((is_row width first row a.0 a.1, more.0), ap suc more.1)

-- ---- below the rows

record LineFault (first : ℕ) (lines : List (List ℕ)) (line : ℕ) : Type 0 where
  pub blanks : List (List ℕ)
  pub below : List ℕ
  pub behind : List (List ℕ)
  pub lines_are : lines ≡ blanks ++ below ∷ behind
  pub blank : AllByRecursion (λ line. words_of line ≡ []) blanks
  pub place : line ≡ first + length blanks
  pub fault : words_of below ≢ []

below_case : (first : ℕ) (lines : List (List ℕ)) (error : GridError) → below_map first lines ≡ Err error → (line : ℕ) × (errors.Rows line ≡ error) × LineFault first lines line
unfolding below_map
below_case first [] error e = cc
below_case first (below ∷ lines) error e =
    bind_case (must (errors.Rows first) (is_blank_line below)) _ error ((line : ℕ) × (errors.Rows line ≡ error) × LineFault first (below ∷ lines) line)
    (λ h. let k = must_case (errors.Rows first) error (is_blank_line below) h in
    (first, k.1, record { blanks = []; below = below; behind = lines; lines_are = refl; blank = _; place = omega arith; fault = λ none. both_ways (is_blank_line below) k.0 (is_blank_is below none) }))
    (λ found p q.
    let more = below_case (first + 1) lines error q in
    let there : LineFault (first + 1) lines more.0 = more.2 in (
      more.0,
      more.1,
      record {
        blanks = below ∷ there.blanks;
        below = there.below;
        behind = there.behind;
        lines_are = ap (λ (ls : List (List ℕ)). below ∷ ls) there.lines_are;
        blank = (blank_is below (must_ok (errors.Rows first) (is_blank_line below) found p), there.blank);
        place = let place : more.0 ≡ first + 1 + length there.blanks = there.place in omega (arith, place);
        fault = there.fault;
      },
    )) e

-- ---- the whole map

not_sides : (height width : ℕ) → (is_side height && is_side width) ≡ false → IsSide height × IsSide width → ⊥
not_sides height width differs within = both_ways (is_side height && is_side width) differs (and_from (is_side height) (is_side width) (side_read height within.0) (side_read width within.1))

module _ (map_text scenario_text : List ℕ) (row : ℕ) (error : GridError) where
  map_case : map_reading (lines_of map_text) ≡ Err error → IsCaseOf map_text scenario_text row error
  unfolding map_reading
  map_case =
      let lines = lines_of map_text in
      let Case : GridError → Type 0 = IsCaseOf map_text scenario_text row in
      bind_case (size_of_map lines) _ error (Case error) (size_case map_text scenario_text row error) (λ size p.
      let head : HasHeader lines size.0 size.1 = header lines size.0 size.1 (says_size lines size p) in
      bind_case (must errors.Size (is_side size.0 && is_side size.1)) _ error (Case error)
      (λ h. let k = must_case errors.Size error (is_side size.0 && is_side size.1) h in subst Case k.1 (size.0, size.1, head, not_sides size.0 size.1 k.0)) (λ found q.
      let sides = and_parts (is_side size.0) (is_side size.1) (must_ok errors.Size (is_side size.0 && is_side size.1) found q) in
      let high : IsSide size.0 = side_is size.0 sides.0 in
      let wide : IsSide size.1 = side_is size.1 sides.1 in
      bind_case (rows_of_map size.1 size.0 5 (drop 4 lines)) _ error (Case error) (λ h. of_rows size head high wide (rows_case 5 size.0 size.1 (drop 4 lines) error h)) (λ cells r.
      bind_case (below_map (5 + size.0) (drop (4 + size.0) lines)) _ error (Case error)
      (λ h. of_below size head high wide (rows_right 5 size.0 size.1 (drop 4 lines) cells r) (below_case (5 + size.0) (drop (4 + size.0) lines) error h)) (λ blank s.
      not_ok (record { width = size.1; height = size.0; cells = cells }) error (Case error))))) where
        of_rows : (size : ℕ × ℕ) → HasHeader (lines_of map_text) size.0 size.1 → IsSide size.0 → IsSide size.1 → RowsFault 5 size.0 size.1 (drop 4 (lines_of map_text)) error → IsCaseOf map_text scenario_text row error
        of_rows size head high wide (inl (line, same, fault)) = subst (IsCaseOf map_text scenario_text row) same (size.0, size.1, head, high, wide, inl fault)
        of_rows size head high wide (inr (line, col, same, fault)) = subst (IsCaseOf map_text scenario_text row) same (size.0, size.1, head, high, wide, fault)

        of_below : (size : ℕ × ℕ) → HasHeader (lines_of map_text) size.0 size.1 → IsSide size.0 → IsSide size.1
            → AllByRecursion (IsRow size.1) (take size.0 (drop 4 (lines_of map_text))) × (length (take size.0 (drop 4 (lines_of map_text))) ≡ size.0)
            → (line : ℕ) × (errors.Rows line ≡ error) × LineFault (5 + size.0) (drop (4 + size.0) (lines_of map_text)) line → IsCaseOf map_text scenario_text row error
        of_below size head high wide rows (line, same, fault) = subst (IsCaseOf map_text scenario_text row) same (
          size.0,
          size.1,
          head,
          high,
          wide,
          inr (record {
            before = take size.0 (drop 4 (lines_of map_text));
            blanks = fault.blanks;
            below = fault.below;
            behind = fault.behind;
            lines_are = sym (take-append-drop size.0 (drop 4 (lines_of map_text))) ∙ ap (λ (ls : List (List ℕ)). take size.0 (drop 4 (lines_of map_text)) ++ ls) (drop-drop size.0 4 (lines_of map_text) ∙ fault.lines_are);
            rows = rows.0;
            all = rows.1;
            blank = fault.blank;
            place = fault.place;
            fault = fault.fault;
          }),
        )

-- ---- a scenario

pub count_of : (number : ℕ) (lines : List (List ℕ)) → length (rows_from number lines) ≡ count_of_rows lines
count_of number [] = refl
count_of number (line ∷ lines) = go (is_blank_line line) (count_of (number + 1) lines) where
  go : (b : Bool) → length (rows_from (number + 1) lines) ≡ count_of_rows lines
      → length (cond (not b) ((number, line) ∷ rows_from (number + 1) lines) (rows_from (number + 1) lines)) ≡ length (cond (not b) (line ∷ filter (λ line. not (is_blank_line line)) lines) (filter (λ line. not (is_blank_line line)) lines))
  go true e = e
  go false e = ap suc e

past : {A : Type 0} → (xs : List A) (i : ℕ) → slice_get xs i ≡ None → length xs ≤ i
past [] i e = omega arith
past (x ∷ xs) zero e = cc
past (x ∷ xs) (suc i) e = let le : length xs ≤ i = past xs i e in omega (arith, le)

no_version : (lines : List (List ℕ)) → starts_with nat_eq (line_at lines 1) (codes "version") ≡ false → BeginsWithVersion lines → ⊥
no_version lines differs (version, e) =
    both_ways (starts_with nat_eq (line_at lines 1) (codes "version")) differs ((starts_is Decides-eqb (line_at lines 1) (codes "version") (starts_with nat_eq (line_at lines 1) (codes "version")) refl).1 version e)

has_version : (lines : List (List ℕ)) → starts_with nat_eq (line_at lines 1) (codes "version") ≡ true → BeginsWithVersion lines
has_version lines e = (drop 7 (line_at lines 1), (starts_is Decides-eqb (line_at lines 1) (codes "version") (starts_with nat_eq (line_at lines 1) (codes "version")) refl).0 e)

module _ (map_text scenario_text : List ℕ) (row : ℕ) (error : GridError) (parts : MapParts) (spelled : SpellsMap map_text parts.width parts.height parts.cells) where
  scenario_case : scenario_reading (lines_of scenario_text) row ≡ Err error → IsCaseOf map_text scenario_text row error
  unfolding scenario_reading
  scenario_case =
      let lines = lines_of scenario_text in
      let Case : GridError → Type 0 = IsCaseOf map_text scenario_text row in
      let begins = starts_with nat_eq (line_at lines 1) (codes "version") in
      bind_case (must (errors.Scenario 1) begins) _ error (Case error)
      (λ h. let k = must_case (errors.Scenario 1) error begins h in subst Case k.1 (parts.width, parts.height, parts.cells, spelled, inl (refl, no_version lines k.0))) (λ found p.
      let version : BeginsWithVersion lines = has_version lines (must_ok (errors.Scenario 1) begins found p) in
      bind_case (wanted (errors.NoRow row (length (rows_of_scenario lines))) (slice_get (rows_of_scenario lines) row)) _ error (Case error)
      (λ h. let k = wanted_case (errors.NoRow row (length (rows_of_scenario lines))) error (slice_get (rows_of_scenario lines) row) h in
      subst Case k.1 (parts.width, parts.height, parts.cells, spelled, (refl, (version, count_of 2 (drop 1 lines), past (rows_of_scenario lines) row k.0)))) (λ chosen q h.
      let k = wanted_case (errors.Scenario chosen.0) error (scenario_of_words (reverse (words_of chosen.1))) h in
      let pick : Picks (drop 1 lines) 2 row chosen = picked (drop 1 lines) 2 row chosen (wanted_ok (errors.NoRow row (length (rows_of_scenario lines))) (slice_get (rows_of_scenario lines) row) chosen q) in
      subst Case k.1 (
        parts.width,
        parts.height,
        parts.cells,
        spelled,
        inr (record {
          version = version;
          before = pick.before;
          chosen = chosen.1;
          behind = pick.behind;
          lines_are = pick.lines_are;
          rows_before = pick.rows_before;
          filled = λ none. both_ways (is_blank_line chosen.1) pick.filled (is_blank_is chosen.1 none);
          place = pick.place;
          fault = no_numbers chosen.1 k.0;
        }),
      ))) where
        no_numbers : (line : List ℕ) → scenario_of_words (reverse (words_of line)) ≡ None → (width height : ℕ) (start goal : ℕ × ℕ) → SpellsRow line width height start goal → ⊥
        no_numbers line none width height start goal is = let some : scenario_of_words (reverse (words_of line)) ≡ Some (record { width = width; height = height; start = start; goal = goal }) = row_read line width height start goal is in cc

-- ---- both

not_both : (a b : Bool) → (a && b) ≡ false → a ≡ true → b ≡ true → ⊥
not_both a b differs x y = both_ways (a && b) differs (and_from a b x y)

module _ (map_text scenario_text : List ℕ) (row : ℕ) (error : GridError) (map : MapParts) (spelled : SpellsMap map_text map.width map.height map.cells) (scenario : ScenarioParts)
    (scene : SpellsScenario scenario_text row scenario.width scenario.height scenario.start scenario.goal) (swamp : List Bool) where
  grid_case : grid_of_parts map swamp scenario ≡ Err error → IsCaseOf map_text scenario_text row error
  unfolding grid_of_parts
  grid_case =
      let Case : GridError → Type 0 = IsCaseOf map_text scenario_text row in
      let grid : GridParts = joined map swamp scenario in
      bind_case (must errors.ScenarioSize (eqb scenario.width map.width && eqb scenario.height map.height)) _ error (Case error)
      (λ h. let k = must_case errors.ScenarioSize error (eqb scenario.width map.width && eqb scenario.height map.height) h in
      subst Case k.1 (
        map.width,
        map.height,
        map.cells,
        scenario.width,
        scenario.height,
        scenario.start,
        scenario.goal,
        spelled,
        scene,
        λ same. not_both (eqb scenario.width map.width) (eqb scenario.height map.height) k.0 (eq-eqb scenario.width map.width same.0) (eq-eqb scenario.height map.height same.1),
      )) (λ a p.
      let sizes = and_parts (eqb scenario.width map.width) (eqb scenario.height map.height) (must_ok errors.ScenarioSize (eqb scenario.width map.width && eqb scenario.height map.height) a p) in
      let fits : SpellsScenario scenario_text row map.width map.height scenario.start scenario.goal =
      subst (λ w. SpellsScenario scenario_text row w map.height scenario.start scenario.goal) (eqb-true scenario.width map.width sizes.0)
      (subst (λ h. SpellsScenario scenario_text row scenario.width h scenario.start scenario.goal) (eqb-true scenario.height map.height sizes.1) scene) in
      bind_case (must errors.Outside (is_on_map map.width map.height scenario.start && is_on_map map.width map.height scenario.goal)) _ error (Case error)
      (λ h. let k = must_case errors.Outside error (is_on_map map.width map.height scenario.start && is_on_map map.width map.height scenario.goal) h in
      subst Case k.1 (grid, spelled, fits, λ on. not_both (is_on_map map.width map.height scenario.start) (is_on_map map.width map.height scenario.goal) k.0 (is_on map.width map.height scenario.start on.0) (is_on map.width map.height scenario.goal on.1))) (λ b q.
      let on = and_parts (is_on_map map.width map.height scenario.start) (is_on_map map.width map.height scenario.goal) (must_ok errors.Outside (is_on_map map.width map.height scenario.start && is_on_map map.width map.height scenario.goal) b q) in
      let start_on = on_map map.width map.height scenario.start on.0 in
      let goal_on = on_map map.width map.height scenario.goal on.1 in
      bind_case (must errors.StartBlocked (is_free grid scenario.start)) _ error (Case error)
      (λ h. let k = must_case errors.StartBlocked error (is_free grid scenario.start) h in subst Case k.1 (grid, spelled, fits, (start_on, goal_on, k.0))) (λ c r.
      bind_case (must errors.GoalBlocked (is_free grid scenario.goal)) _ error (Case error)
      (λ h. let k = must_case errors.GoalBlocked error (is_free grid scenario.goal) h in subst Case k.1 (grid, spelled, fits, (start_on, goal_on, must_ok errors.StartBlocked (is_free grid scenario.start) c r, k.0))) (λ d s.
      not_ok grid error (Case error)))))

pub case_of : (map_text scenario_text : List ℕ) (row : ℕ) (swamp : Bool) (error : GridError) → grid_reading map_text scenario_text row swamp ≡ Err error → IsCaseOf map_text scenario_text row error
unfolding grid_reading
case_of map_text scenario_text row swamp error =
    bind_case (map_reading (lines_of map_text)) _ error (IsCaseOf map_text scenario_text row error) (map_case map_text scenario_text row error) (λ map p.
    let spelled : SpellsMap map_text map.width map.height map.cells = map_spelled map_text map p in
    bind_case (scenario_reading (lines_of scenario_text) row) _ error (IsCaseOf map_text scenario_text row error) (scenario_case map_text scenario_text row error map spelled) (λ scenario q.
    grid_case map_text scenario_text row error map spelled scenario (scenario_spelled scenario_text row scenario q) (swamp_of swamp map.height (lines_of map_text))))
