-- In its case, each refusal is told.
use Rattle.std.proofs.Common.{◌≡◌, ◌≢◌, ℕ, zero, suc, ◌+◌, ◌<◌, Bool, true, false, ◌&&◌, Option, Some, None, Ok, Err, List, [], ◌∷◌, ◌++◌, length, drop, map, reverse, eqb, codes, nat_eq, ◌⊎◌, inl, inr, refl, sym, ap, ◌∙◌, arith}
use Rattle.std.specs.List.{AllByRecursion, slice_get, starts_with}
use Rattle.std.proofs.lemmas.Bool.{eqb-true, eq-eqb, and_parts, and_from, false_from_ne_true}
use Rattle.std.proofs.lemmas.Bool.Decides.{Decides-eqb}
use Rattle.std.proofs.lemmas.List.{append-nil, drop-drop, drop_at}
use Rattle.std.proofs.lemmas.Option.{slice_get_past}
use Rattle.std.proofs.lemmas.Slice.Eq.{starts_is}
use Rattle.pb_task.specs.declared.parts.Class.{Class}
use Rattle.pb_task.specs.declared.parts.GridParts.{GridParts}
use Rattle.pb_grid.specs.declared.error.GridError.{GridError}
use Rattle.pb_grid.specs.declared.error.GridError.TheVariants as errors
use Rattle.pb_grid.specs.declared.map.MapParts.{MapParts}
use Rattle.pb_grid.specs.declared.scenario.ScenarioParts.{ScenarioParts}
use Rattle.pb_grid.specs.Lines.{lines_of, line_at, words_of, is_blank_line}
use Rattle.pb_grid.specs.Reading.{◌>>=◌, wanted, are_words, number_named, size_of_map, is_side, class_of_byte, cells_of, row_of_map, rows_of_map, below_map, map_reading, rows_of_scenario, scenario_of_words, scenario_reading, swamp_of, is_on_map, is_free, grid_of_parts, grid_reading}
use Rattle.pb_grid.specs.Form.{SpellsMap, SpellsScenario}
use Rattle.pb_grid.specs.Cases.{NamesNumber, IsHeaderFault, HasHeader, IsSide, IsSizeFault, IsRow, IsRowFault, IsCellFault, IsBelowFault, BeginsWithVersion, IsNoRow, IsChosenFault, IsOnMap, IsCaseOf}
use Rattle.pb_grid.specs.Laws.{RefusalsHaveTheirCase}
use Rattle.pb_grid.proofs.Chosen.{rows_from}
use Rattle.pb_grid.proofs.Steps.{is_blank_is, blank_is, words_are, are_words_is, named_is, number_named_is}
use Rattle.pb_grid.proofs.SpelledMaps.{side_is}
use Rattle.pb_grid.proofs.SpelledScenarios.{row_of}
use Rattle.pb_grid.proofs.ReadableMaps.{said_size, row_read, side_read, map_read}
use Rattle.pb_grid.proofs.ReadableScenarios.{found, scenario_read}
use Rattle.pb_grid.proofs.CaseOf.{names, count_of, case_of}
use Rattle.pb_grid.proofs.Grids.{on_map, is_on}

-- ---- the first four lines

words_differ : (words want : List (List ℕ)) → (words ≡ want → ⊥) → are_words words want ≡ false
words_differ words want differs = false_from_ne_true (are_words words want) (λ e. differs (words_are words want e))

words_same : (words want : List (List ℕ)) → words ≡ want → are_words words want ≡ true
words_same words want e = ap (λ (ws : List (List ℕ)). are_words ws want) e ∙ are_words_is want

no_number : (name : List ℕ) (words : List (List ℕ)) → ((number : ℕ) → NamesNumber name words number → ⊥) → number_named name words ≡ None
no_number name words none = go (number_named name words) refl where
  go : (o : Option ℕ) → number_named name words ≡ o → o ≡ None
  go None e = refl
  go (Some number) e = absurd (none number (names name words number (named_is name words number e)))

a_number : (name : List ℕ) (words : List (List ℕ)) (number : ℕ) → NamesNumber name words number → number_named name words ≡ Some number
a_number name words number (word, is, number_is) = ap (number_named name) is ∙ number_named_is name word number number_is

header_told : (lines : List (List ℕ)) (line : ℕ) → IsHeaderFault lines line → size_of_map lines ≡ Err (errors.Header line)
unfolding size_of_map
header_told lines zero fault = absurd fault
header_told lines (suc zero) fault = let p = words_differ (words_of (line_at lines 1)) (codes "type" ∷ codes "octile" ∷ []) fault in rw p refl
header_told lines (suc (suc zero)) (type, none) =
    let p = words_same (words_of (line_at lines 1)) (codes "type" ∷ codes "octile" ∷ []) type in
    let q = no_number (codes "height") (words_of (line_at lines 2)) none in
    rw (p, q) refl
header_told lines (suc (suc (suc zero))) (height, type, height_is, none) =
    let p = words_same (words_of (line_at lines 1)) (codes "type" ∷ codes "octile" ∷ []) type in
    let q = a_number (codes "height") (words_of (line_at lines 2)) height height_is in
    let r = no_number (codes "width") (words_of (line_at lines 3)) none in
    rw (p, q, r) refl
header_told lines (suc (suc (suc (suc zero)))) (height, width, type, height_is, width_is, differs) =
    let p = words_same (words_of (line_at lines 1)) (codes "type" ∷ codes "octile" ∷ []) type in
    let q = a_number (codes "height") (words_of (line_at lines 2)) height height_is in
    let r = a_number (codes "width") (words_of (line_at lines 3)) width width_is in
    let s = words_differ (words_of (line_at lines 4)) (codes "map" ∷ []) differs in
    rw (p, q, r, s) refl
header_told lines (suc (suc (suc (suc (suc more))))) fault = absurd fault

said : (lines : List (List ℕ)) (height width : ℕ) → HasHeader lines height width → size_of_map lines ≡ Ok (height, width)
said lines height width is = said_size lines is.height_is.0 is.width_is.0 height width is.type is.height_is.1 is.width_is.1 is.map_is is.height_is.2 is.width_is.2

-- ---- rows

cells_told : (line column : ℕ) (front : List ℕ) (byte : ℕ) (back : List ℕ) (cells : List Class) → map class_of_byte front ≡ map Some cells → class_of_byte byte ≡ None
    → cells_of line column (front ++ byte ∷ back) ≡ Err (errors.Cell line (column + length front))
unfolding cells_of
cells_told line column [] byte back cells known unknown =
    let n : column ≡ column + 0 = omega arith in ap (λ (o : Option Class). wanted (errors.Cell line column) o >>= λ cell. cells_of line (column + 1) back >>= λ cells. Ok (cell ∷ cells)) unknown ∙ ap (λ k. Err (errors.Cell line k)) n
cells_told line column (first ∷ front) byte back [] known unknown = cc
cells_told line column (first ∷ front) byte back (cell ∷ cells) known unknown =
    let here : class_of_byte first ≡ Some cell = cc known in
    let there : map class_of_byte front ≡ map Some cells = cc known in
    let more = cells_told line (column + 1) front byte back cells there unknown in
    let n : column + 1 + length front ≡ column + suc (length front) = omega arith in
    rw (here, more) (ap (λ k. Err (errors.Cell line k)) n)

row_ok : (width line : ℕ) (row : List ℕ) → (is : IsRow width row) → row_of_map width line row ≡ Ok is.cells
row_ok width line row is = row_read width line row is.cells is.wide is.classes

rows_told : (before rest : List (List ℕ)) (first height width : ℕ) (error : GridError) → AllByRecursion (IsRow width) before → length before < height
    → ((count : ℕ) → rows_of_map width (suc count) (first + length before) rest ≡ Err error) → rows_of_map width height first (before ++ rest) ≡ Err error
unfolding rows_of_map
rows_told before rest first zero width error rows few at = absurd (omega arith)
rows_told [] rest first (suc height) width error rows few at = let n : first + 0 ≡ first = omega arith in ap (λ k. rows_of_map width (suc height) k rest) (sym n) ∙ at height
rows_told (row ∷ before) rest first (suc height) width error rows few at =
    let n : first + suc (length before) ≡ first + 1 + length before = omega arith in
    let here : row_of_map width first row ≡ Ok rows.0.cells = row_ok width first row rows.0 in
    let there : rows_of_map width height (first + 1) (before ++ rest) ≡ Err error =
    rows_told before rest (first + 1) height width error rows.1 (omega (arith, few)) (λ count. ap (λ k. rows_of_map width (suc count) k rest) (sym n) ∙ at count) in
    rw (here, there) refl

missing : (first height width : ℕ) (before : List (List ℕ)) → AllByRecursion (IsRow width) before → length before < height → rows_of_map width height first before ≡ Err (errors.Rows (first + length before))
unfolding rows_of_map
missing first height width before rows few = ap (rows_of_map width height first) (sym (append-nil before)) ∙ rows_told before [] first height width (errors.Rows (first + length before)) rows few (λ count. refl)

wrong : (first height width : ℕ) (before : List (List ℕ)) (row : List ℕ) (behind : List (List ℕ)) → AllByRecursion (IsRow width) before → length before < height → length row ≢ width
    → rows_of_map width height first (before ++ row ∷ behind) ≡ Err (errors.Rows (first + length before))
unfolding rows_of_map row_of_map
wrong first height width before row behind rows few differs =
    let p : eqb (length row) width ≡ false = false_from_ne_true (eqb (length row) width) (λ e. differs (eqb-true (length row) width e)) in
    rows_told before (row ∷ behind) first height width (errors.Rows (first + length before)) rows few (λ count. rw p refl)

unknown : (first height width line col : ℕ) (lines : List (List ℕ)) → IsCellFault first lines height width line col → rows_of_map width height first lines ≡ Err (errors.Cell line col)
unfolding rows_of_map row_of_map
unknown first height width line col lines is =
    let p : eqb (length is.row) width ≡ true = eq-eqb (length is.row) width is.wide in
    let q : cells_of line 1 is.row ≡ Err (errors.Cell line col) = ap (cells_of line 1) is.bytes_are ∙ cells_told line 1 is.front is.byte is.back is.cells is.classes is.unknown ∙ ap (λ k. Err (errors.Cell line k)) (sym is.column) in
    ap (rows_of_map width height first) is.lines_are ∙ rows_told is.before (is.row ∷ is.behind) first height width (errors.Cell line col) is.rows is.few (λ count. rw (← is.place) (rw (p, q) refl))

row_fault : (first height width line : ℕ) (lines : List (List ℕ)) → IsRowFault first lines height width line → rows_of_map width height first lines ≡ Err (errors.Rows line)
row_fault first height width line lines is = go is.fault ∙ ap (λ k. Err (errors.Rows k)) (sym is.place) where
  go : (lines ≡ is.before) ⊎ ((row : List ℕ) × (behind : List (List ℕ)) × (lines ≡ is.before ++ row ∷ behind) × (length row ≢ width)) → rows_of_map width height first lines ≡ Err (errors.Rows (first + length is.before))
  go (inl e) = ap (rows_of_map width height first) e ∙ missing first height width is.before is.rows is.few
  go (inr (row, behind, e, differs)) = ap (rows_of_map width height first) e ∙ wrong first height width is.before row behind is.rows is.few differs

record AllRead (first width : ℕ) (before rest : List (List ℕ)) : Type 0 where
  pub cells : List Class
  pub is : rows_of_map width (length before) first (before ++ rest) ≡ Ok cells

all_read : (first width : ℕ) (before rest : List (List ℕ)) → AllByRecursion (IsRow width) before → AllRead first width before rest
unfolding rows_of_map
all_read first width [] rest rows = record { cells = []; is = refl }
all_read first width (row ∷ before) rest rows =
    let more = all_read (first + 1) width before rest rows.1 in
    let here : row_of_map width first row ≡ Ok rows.0.cells = row_ok width first row rows.0 in
    let there : rows_of_map width (length before) (first + 1) (before ++ rest) ≡ Ok more.cells = more.is in
    record { cells = rows.0.cells ++ more.cells; is = rw (here, there) refl }

below_told : (first : ℕ) (blanks : List (List ℕ)) (below : List ℕ) (behind : List (List ℕ)) → AllByRecursion (λ line. words_of line ≡ []) blanks → words_of below ≢ []
    → below_map first (blanks ++ below ∷ behind) ≡ Err (errors.Rows (first + length blanks))
unfolding below_map
below_told first [] below behind blank fault =
    let n : first ≡ first + 0 = omega arith in
    let p : is_blank_line below ≡ false = false_from_ne_true (is_blank_line below) (λ e. fault (blank_is below e)) in
    rw p (ap (λ k. Err (errors.Rows k)) n)
below_told first (line ∷ blanks) below behind blank fault =
    let n : first + 1 + length blanks ≡ first + suc (length blanks) = omega arith in
    let p : is_blank_line line ≡ true = is_blank_is line blank.0 in
    rw p (below_told (first + 1) blanks below behind blank.1 fault ∙ ap (λ k. Err (errors.Rows k)) n)

-- ---- the whole map

map_header : (lines : List (List ℕ)) (line : ℕ) → IsHeaderFault lines line → map_reading lines ≡ Err (errors.Header line)
unfolding map_reading
map_header lines line fault = let p = header_told lines line fault in rw p refl

map_size : (lines : List (List ℕ)) → IsSizeFault lines → map_reading lines ≡ Err errors.Size
unfolding map_reading
map_size lines (height, width, head, fault) =
    let p = said lines height width head in
    let q : (is_side height && is_side width) ≡ false = false_from_ne_true (is_side height && is_side width) (λ e. let parts = and_parts (is_side height) (is_side width) e in fault (side_is height parts.0, side_is width parts.1)) in
    rw (p, q) refl

sides : (height width : ℕ) → IsSide height → IsSide width → (is_side height && is_side width) ≡ true
sides height width high wide = and_from (is_side height) (is_side width) (side_read height high) (side_read width wide)

map_rows : (lines : List (List ℕ)) (height width : ℕ) (error : GridError) → HasHeader lines height width → IsSide height → IsSide width → rows_of_map width height 5 (drop 4 lines) ≡ Err error → map_reading lines ≡ Err error
unfolding map_reading
map_rows lines height width error head high wide fault = let p = said lines height width head in let q = sides height width high wide in rw (p, q, fault) refl

map_below : (lines : List (List ℕ)) (height width line : ℕ) → HasHeader lines height width → IsSide height → IsSide width → IsBelowFault 5 (drop 4 lines) height width line → map_reading lines ≡ Err (errors.Rows line)
unfolding map_reading
map_below lines height width line head high wide is =
    let p = said lines height width head in
    let q = sides height width high wide in
    let all = all_read 5 width is.before (is.blanks ++ is.below ∷ is.behind) is.rows in
    let r : rows_of_map width height 5 (drop 4 lines) ≡ Ok all.cells = ap (rows_of_map width height 5) is.lines_are ∙ ap (λ n. rows_of_map width n 5 (is.before ++ (is.blanks ++ is.below ∷ is.behind))) (sym is.all) ∙ all.is in
    let rest : drop (4 + height) lines ≡ is.blanks ++ is.below ∷ is.behind = sym (drop-drop height 4 lines) ∙ ap (drop height) is.lines_are ∙ drop_at is.before (is.blanks ++ is.below ∷ is.behind) height is.all in
    let s : below_map (5 + height) (drop (4 + height) lines) ≡ Err (errors.Rows line) =
    ap (below_map (5 + height)) rest ∙ below_told (5 + height) is.blanks is.below is.behind is.blank is.fault ∙ ap (λ k. Err (errors.Rows k)) (sym is.place) in
    rw (p, q, r, s) refl

-- ---- a scenario

version_missing : (lines : List (List ℕ)) → (BeginsWithVersion lines → ⊥) → starts_with nat_eq (line_at lines 1) (codes "version") ≡ false
version_missing lines none =
    false_from_ne_true (starts_with nat_eq (line_at lines 1) (codes "version")) (λ e. none (drop 7 (line_at lines 1), (starts_is Decides-eqb (line_at lines 1) (codes "version") (starts_with nat_eq (line_at lines 1) (codes "version")) refl).0 e))

version_there : (lines : List (List ℕ)) → BeginsWithVersion lines → starts_with nat_eq (line_at lines 1) (codes "version") ≡ true
version_there lines (version, e) = (starts_is Decides-eqb (line_at lines 1) (codes "version") (starts_with nat_eq (line_at lines 1) (codes "version")) refl).1 version e

no_version_told : (lines : List (List ℕ)) (row line : ℕ) → line ≡ 1 → (BeginsWithVersion lines → ⊥) → scenario_reading lines row ≡ Err (errors.Scenario line)
unfolding scenario_reading
no_version_told lines row line e none = let p = version_missing lines none in rw p (ap (λ k. Err (errors.Scenario k)) (sym e))

no_row_told : (lines : List (List ℕ)) (row rows : ℕ) → IsNoRow lines row rows → scenario_reading lines row ≡ Err (errors.NoRow row rows)
unfolding scenario_reading
no_row_told lines row rows (version, count, over) =
    let p = version_there lines version in
    let c : length (rows_of_scenario lines) ≡ rows = count_of 2 (drop 1 lines) ∙ sym count in
    let q : slice_get (rows_of_scenario lines) row ≡ None = slice_get_past (rows_of_scenario lines) row (omega (arith, c, over)) in
    rw (p, q) (ap (λ k. Err (errors.NoRow row k)) c)

chosen_told : (lines : List (List ℕ)) (row line : ℕ) → IsChosenFault lines row line → scenario_reading lines row ≡ Err (errors.Scenario line)
unfolding scenario_reading
chosen_told lines row line is =
    let p = version_there lines is.version in
    let filled : is_blank_line is.chosen ≡ false = false_from_ne_true (is_blank_line is.chosen) (λ e. is.filled (blank_is is.chosen e)) in
    let q : slice_get (rows_of_scenario lines) row ≡ Some (line, is.chosen) =
    ap (λ (ls : List (List ℕ)). slice_get (rows_from 2 ls) row) is.lines_are ∙ ap (slice_get (rows_from 2 (is.before ++ is.chosen ∷ is.behind))) (sym is.rows_before) ∙ found 2 is.before is.behind is.chosen filled
    ∙ ap (λ k. Some (k, is.chosen)) (sym is.place) in
    let r : scenario_of_words (reverse (words_of is.chosen)) ≡ None = none (scenario_of_words (reverse (words_of is.chosen))) refl in
    rw (p, q, r) refl
  where
    none : (o : Option ScenarioParts) → scenario_of_words (reverse (words_of is.chosen)) ≡ o → o ≡ None
    none None e = refl
    none (Some parts) e = absurd (is.fault parts.width parts.height parts.start parts.goal (row_of is.chosen parts (reverse (words_of is.chosen)) refl e))

-- ---- both

behind_map : (map_text scenario_text : List ℕ) (row width height : ℕ) (swamp : Bool) (cells : List Class) (error : GridError) → SpellsMap map_text width height cells → scenario_reading (lines_of scenario_text) row ≡ Err error
    → grid_reading map_text scenario_text row swamp ≡ Err error
unfolding grid_reading
behind_map map_text scenario_text row width height swamp cells error spelled e = let p = map_read map_text width height cells spelled in rw (p, e) refl

in_map : (map_text scenario_text : List ℕ) (row : ℕ) (swamp : Bool) (error : GridError) → map_reading (lines_of map_text) ≡ Err error → grid_reading map_text scenario_text row swamp ≡ Err error
unfolding grid_reading
in_map map_text scenario_text row swamp error e = rw e refl

behind_both : (map_text scenario_text : List ℕ) (row : ℕ) (swamp : Bool) (map : MapParts) (scenario : ScenarioParts) (error : GridError) → SpellsMap map_text map.width map.height map.cells
    → SpellsScenario scenario_text row scenario.width scenario.height scenario.start scenario.goal → grid_of_parts map (swamp_of swamp map.height (lines_of map_text)) scenario ≡ Err error → grid_reading map_text scenario_text row swamp ≡ Err error
unfolding grid_reading
behind_both map_text scenario_text row swamp map scenario error spelled scene e =
    let p = map_read map_text map.width map.height map.cells spelled in
    let q = scenario_read scenario_text row scenario.width scenario.height scenario.start scenario.goal scene in
    rw (p, q) e

size_told : (map : MapParts) (swamp : List Bool) (scenario : ScenarioParts) → ((scenario.width ≡ map.width) × (scenario.height ≡ map.height) → ⊥) → grid_of_parts map swamp scenario ≡ Err errors.ScenarioSize
unfolding grid_of_parts
size_told map swamp scenario differs =
    let p : (eqb scenario.width map.width && eqb scenario.height map.height) ≡ false =
    false_from_ne_true (eqb scenario.width map.width && eqb scenario.height map.height) (λ e. let parts = and_parts (eqb scenario.width map.width) (eqb scenario.height map.height) e in differs (eqb-true scenario.width map.width parts.0, eqb-true scenario.height map.height parts.1)) in
    rw p refl

module _ (grid : GridParts) where
  abbrev map_of : MapParts
  map_of = record { width = grid.width; height = grid.height; cells = grid.cells }

  abbrev scenario_of : ScenarioParts
  scenario_of = record { width = grid.width; height = grid.height; start = grid.start; goal = grid.goal }

  same_size : (eqb grid.width grid.width && eqb grid.height grid.height) ≡ true
  same_size = and_from (eqb grid.width grid.width) (eqb grid.height grid.height) (eq-eqb grid.width grid.width refl) (eq-eqb grid.height grid.height refl)

  both_on : IsOnMap grid grid.start → IsOnMap grid grid.goal → (is_on_map grid.width grid.height grid.start && is_on_map grid.width grid.height grid.goal) ≡ true
  both_on start goal = and_from (is_on_map grid.width grid.height grid.start) (is_on_map grid.width grid.height grid.goal) (is_on grid.width grid.height grid.start start) (is_on grid.width grid.height grid.goal goal)

  outside_told : (swamp : List Bool) → (IsOnMap grid grid.start × IsOnMap grid grid.goal → ⊥) → grid_of_parts map_of swamp scenario_of ≡ Err errors.Outside
  unfolding grid_of_parts
  outside_told swamp fault =
      let p = same_size in
      let q : (is_on_map grid.width grid.height grid.start && is_on_map grid.width grid.height grid.goal) ≡ false =
      false_from_ne_true (is_on_map grid.width grid.height grid.start && is_on_map grid.width grid.height grid.goal)
      (λ e. let parts = and_parts (is_on_map grid.width grid.height grid.start) (is_on_map grid.width grid.height grid.goal) e in fault (on_map grid.width grid.height grid.start parts.0, on_map grid.width grid.height grid.goal parts.1)) in
      rw (p, q) refl

  start_told : (swamp : List Bool) → IsOnMap grid grid.start → IsOnMap grid grid.goal → is_free grid grid.start ≡ false → grid_of_parts map_of swamp scenario_of ≡ Err errors.StartBlocked
  unfolding grid_of_parts
  start_told swamp start goal fault = let p = same_size in let q = both_on start goal in rw (p, q, fault) refl

  goal_told : (swamp : List Bool) → IsOnMap grid grid.start → IsOnMap grid grid.goal → is_free grid grid.start ≡ true → is_free grid grid.goal ≡ false → grid_of_parts map_of swamp scenario_of ≡ Err errors.GoalBlocked
  unfolding grid_of_parts
  goal_told swamp start goal free fault = let p = same_size in let q = both_on start goal in rw (p, q, free, fault) refl

pub told : (map_text scenario_text : List ℕ) (row : ℕ) (swamp : Bool) (error : GridError) → IsCaseOf map_text scenario_text row error → grid_reading map_text scenario_text row swamp ≡ Err error
told map_text scenario_text row swamp (errors.Header line) fault = in_map map_text scenario_text row swamp (errors.Header line) (map_header (lines_of map_text) line fault)
told map_text scenario_text row swamp errors.Size fault = in_map map_text scenario_text row swamp errors.Size (map_size (lines_of map_text) fault)
told map_text scenario_text row swamp (errors.Rows line) (height, width, head, high, wide, inl fault) =
    in_map map_text scenario_text row swamp (errors.Rows line) (map_rows (lines_of map_text) height width (errors.Rows line) head high wide (row_fault 5 height width line (drop 4 (lines_of map_text)) fault))
told map_text scenario_text row swamp (errors.Rows line) (height, width, head, high, wide, inr fault) = in_map map_text scenario_text row swamp (errors.Rows line) (map_below (lines_of map_text) height width line head high wide fault)
told map_text scenario_text row swamp (errors.Cell line col) (height, width, head, high, wide, fault) =
    in_map map_text scenario_text row swamp (errors.Cell line col) (map_rows (lines_of map_text) height width (errors.Cell line col) head high wide (unknown 5 height width line col (drop 4 (lines_of map_text)) fault))
told map_text scenario_text row swamp (errors.Scenario line) (width, height, cells, spelled, inl fault) = behind_map map_text scenario_text row width height swamp cells (errors.Scenario line) spelled (no_version_told (lines_of scenario_text) row line fault.0 fault.1)
told map_text scenario_text row swamp (errors.Scenario line) (width, height, cells, spelled, inr fault) = behind_map map_text scenario_text row width height swamp cells (errors.Scenario line) spelled (chosen_told (lines_of scenario_text) row line fault)
told map_text scenario_text row swamp (errors.NoRow asked rows) (width, height, cells, spelled, fault) =
    behind_map map_text scenario_text row width height swamp cells (errors.NoRow asked rows) spelled (no_row_told (lines_of scenario_text) row rows fault.1 ∙ ap (λ k. Err (errors.NoRow k rows)) (sym fault.0))
told map_text scenario_text row swamp errors.ScenarioSize (width, height, cells, other_width, other_height, start, goal, spelled, scene, differs) =
    let map : MapParts = record { width = width; height = height; cells = cells } in
    let scenario : ScenarioParts = record { width = other_width; height = other_height; start = start; goal = goal } in
    behind_both map_text scenario_text row swamp map scenario errors.ScenarioSize spelled scene (size_told map (swamp_of swamp map.height (lines_of map_text)) scenario differs)
told map_text scenario_text row swamp errors.Outside (grid, spelled, scene, fault) = behind_both map_text scenario_text row swamp (map_of grid) (scenario_of grid) errors.Outside spelled scene (outside_told grid (swamp_of swamp grid.height (lines_of map_text)) fault)
told map_text scenario_text row swamp errors.StartBlocked (grid, spelled, scene, fault) = behind_both map_text scenario_text row swamp (map_of grid) (scenario_of grid) errors.StartBlocked spelled scene (start_told grid (swamp_of swamp grid.height (lines_of map_text)) fault.0 fault.1 fault.2)
told map_text scenario_text row swamp errors.GoalBlocked (grid, spelled, scene, fault) =
    behind_both map_text scenario_text row swamp (map_of grid) (scenario_of grid) errors.GoalBlocked spelled scene (goal_told grid (swamp_of swamp grid.height (lines_of map_text)) fault.0 fault.1 fault.2 fault.3)
told map_text scenario_text row swamp errors.Memory fault = absurd fault

pub refusals_have_their_case : RefusalsHaveTheirCase
refusals_have_their_case map_text scenario_text row swamp error = (case_of map_text scenario_text row swamp error, told map_text scenario_text row swamp error)

-- in the case of a refusal no other is told, and no grid is read
pub same_refusal : (map_text scenario_text : List ℕ) (row : ℕ) (swamp : Bool) (error other : GridError) → IsCaseOf map_text scenario_text row error → grid_reading map_text scenario_text row swamp ≡ Err other → error ≡ other
same_refusal map_text scenario_text row swamp error other is e = let mine : grid_reading map_text scenario_text row swamp ≡ Err error = told map_text scenario_text row swamp error is in cc

pub no_grid : (map_text scenario_text : List ℕ) (row : ℕ) (swamp : Bool) (error : GridError) (grid : GridParts) → IsCaseOf map_text scenario_text row error → grid_reading map_text scenario_text row swamp ≡ Ok grid → ⊥
no_grid map_text scenario_text row swamp error grid is e = let mine : grid_reading map_text scenario_text row swamp ≡ Err error = told map_text scenario_text row swamp error is in cc
