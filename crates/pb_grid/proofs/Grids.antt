-- Grids: what is read is what is spelled.
use Rattle.std.proofs.Common.{◌≡◌, ℕ, suc, ◌+◌, ◌*◌, ◌<◌, Bool, true, ◌&&◌, Some, Result, Ok, Err, List, [], ◌∷◌, ◌++◌, length, map, eqb, ltb, refl, sym, subst, ap, ◌∙◌, arith, length-append}
use Rattle.std.specs.List.{concat, AllByRecursion}
use Rattle.std.proofs.lemmas.Bool.{eqb-true, eq-eqb, ltb-true, lt-ltb, and_parts, and_from}
use Rattle.pb_task.specs.declared.parts.Class.{Class}
use Rattle.pb_task.specs.declared.parts.GridParts.{GridParts}
use Rattle.pb_task.specs.Grid.{IsGrid}
use Rattle.pb_grid.specs.declared.error.GridError.{GridError}
use Rattle.pb_grid.specs.declared.error.GridError.TheVariants as errors
use Rattle.pb_grid.specs.declared.map.MapParts.{MapParts}
use Rattle.pb_grid.specs.declared.scenario.ScenarioParts.{ScenarioParts}
use Rattle.pb_grid.specs.Lines.{lines_of}
use Rattle.pb_grid.specs.Reading.{◌>>=◌, must, map_reading, scenario_reading, swamp_of, is_swamp_byte, is_on_map, is_free, grid_of_parts, grid_reading, class_of_byte}
use Rattle.pb_grid.specs.Form.{AreRows, SpellsScenario, SpellsGrid}
use Rattle.pb_grid.specs.Laws.{ReadAsSpelled, SpelledGridsAreUnique, SwampChangesMarksAlone, SpelledGridsAreGrids}
use Rattle.pb_grid.proofs.Steps.{ok_is, bind_ok, must_ok}
use Rattle.pb_grid.proofs.Swamps.{marks_are}
use Rattle.pb_grid.proofs.SpelledMaps.{map_spelled}
use Rattle.pb_grid.proofs.SpelledScenarios.{scenario_spelled}
use Rattle.pb_grid.proofs.ReadableMaps.{map_read}
use Rattle.pb_grid.proofs.ReadableScenarios.{scenario_read}

-- the grid of a map, its swamp and a scenario
abbrev pub joined : MapParts → (swamp : List Bool) → ScenarioParts → GridParts
joined m swamp s = record { width = m.width; height = m.height; cells = m.cells; swamp = swamp; start = s.start; goal = s.goal }

pub on_map : (width height : ℕ) (cell : ℕ × ℕ) → is_on_map width height cell ≡ true → (cell.0 < width) × (cell.1 < height)
on_map width height cell e = let parts = and_parts (ltb cell.0 width) (ltb cell.1 height) e in (ltb-true cell.0 width parts.0, ltb-true cell.1 height parts.1)

pub is_on : (width height : ℕ) (cell : ℕ × ℕ) → (cell.0 < width) × (cell.1 < height) → is_on_map width height cell ≡ true
is_on width height cell within = and_from (ltb cell.0 width) (ltb cell.1 height) (lt-ltb cell.0 width within.0) (lt-ltb cell.1 height within.1)

-- ---- from a reading to the texts

pub spelled : (map_text scenario_text : List ℕ) (row : ℕ) (swamp : Bool) (grid : GridParts) → grid_reading map_text scenario_text row swamp ≡ Ok grid → SpellsGrid map_text scenario_text row swamp grid
unfolding grid_reading grid_of_parts
spelled map_text scenario_text row swamp grid e =
    let a = bind_ok (map_reading (lines_of map_text)) _ grid e in
    let b = bind_ok (scenario_reading (lines_of scenario_text) row) _ grid a.2 in
    let marks = swamp_of swamp a.0.height (lines_of map_text) in
    let map_is = map_spelled map_text a.0 a.1 in
    let c = bind_ok (must errors.ScenarioSize (eqb b.0.width a.0.width && eqb b.0.height a.0.height)) _ grid b.2 in
    let d = bind_ok (must errors.Outside (is_on_map a.0.width a.0.height b.0.start && is_on_map a.0.width a.0.height b.0.goal)) _ grid c.2 in
    let f = bind_ok (must errors.StartBlocked (is_free (joined a.0 marks b.0) b.0.start)) _ grid d.2 in
    let g = bind_ok (must errors.GoalBlocked (is_free (joined a.0 marks b.0) b.0.goal)) _ grid f.2 in
    let sizes = and_parts (eqb b.0.width a.0.width) (eqb b.0.height a.0.height) (must_ok errors.ScenarioSize _ c.0 c.1) in
    let cells = and_parts (is_on_map a.0.width a.0.height b.0.start) (is_on_map a.0.width a.0.height b.0.goal) (must_ok errors.Outside _ d.0 d.1) in
    let scene : SpellsScenario scenario_text row a.0.width a.0.height b.0.start b.0.goal =
    subst (λ w. SpellsScenario scenario_text row w a.0.height b.0.start b.0.goal) (eqb-true b.0.width a.0.width sizes.0)
    (subst (λ h. SpellsScenario scenario_text row b.0.width h b.0.start b.0.goal) (eqb-true b.0.height a.0.height sizes.1) (scenario_spelled scenario_text row b.0 b.1)) in
    subst (SpellsGrid map_text scenario_text row swamp) (ok_is (joined a.0 marks b.0) grid g.2) (record {
      map_is = map_is;
      swamp_is = marks_are swamp map_text a.0.width a.0.height a.0.cells map_is;
      scenario_is = scene;
      start_on_map = on_map a.0.width a.0.height b.0.start cells.0;
      goal_on_map = on_map a.0.width a.0.height b.0.goal cells.1;
      start_free = must_ok errors.StartBlocked (is_free (joined a.0 marks b.0) b.0.start) f.0 f.1;
      goal_free = must_ok errors.GoalBlocked (is_free (joined a.0 marks b.0) b.0.goal) g.0 g.1;
    })

-- ---- from the texts to a reading

steps : (map : MapParts) (swamp : List Bool) (scenario : ScenarioParts) → (eqb scenario.width map.width && eqb scenario.height map.height) ≡ true
    → (is_on_map map.width map.height scenario.start && is_on_map map.width map.height scenario.goal) ≡ true → is_free (joined map swamp scenario) scenario.start ≡ true → is_free (joined map swamp scenario) scenario.goal ≡ true
    → grid_of_parts map swamp scenario ≡ Ok (joined map swamp scenario)
unfolding grid_of_parts
steps map swamp scenario size inside start goal = rw (size, inside, start, goal) refl

pub readable : (map_text scenario_text : List ℕ) (row : ℕ) (swamp : Bool) (grid : GridParts) → SpellsGrid map_text scenario_text row swamp grid → grid_reading map_text scenario_text row swamp ≡ Ok grid
unfolding grid_reading
readable map_text scenario_text row swamp grid is =
    let map : MapParts = record { width = grid.width; height = grid.height; cells = grid.cells } in
    let scene : ScenarioParts = record { width = grid.width; height = grid.height; start = grid.start; goal = grid.goal } in
    let marks = swamp_of swamp grid.height (lines_of map_text) in
    let same : marks ≡ grid.swamp = marks_are swamp map_text grid.width grid.height grid.cells is.map_is ∙ sym is.swamp_is in
    let one : map_reading (lines_of map_text) ≡ Ok map = map_read map_text grid.width grid.height grid.cells is.map_is in
    let two : scenario_reading (lines_of scenario_text) row ≡ Ok scene = scenario_read scenario_text row grid.width grid.height grid.start grid.goal is.scenario_is in
    ap (λ (r : Result MapParts GridError). r >>= λ m. scenario_reading (lines_of scenario_text) row >>= λ s. grid_of_parts m (swamp_of swamp m.height (lines_of map_text)) s) one ∙ ap (λ (r : Result ScenarioParts GridError). r >>= λ s. grid_of_parts map marks s) two
    ∙ ap (λ (m : List Bool). grid_of_parts map m scene) same ∙ steps map grid.swamp scene (and_from (eqb grid.width grid.width) (eqb grid.height grid.height) (eq-eqb grid.width grid.width refl) (eq-eqb grid.height grid.height refl))
    (and_from (is_on_map grid.width grid.height grid.start) (is_on_map grid.width grid.height grid.goal) (is_on grid.width grid.height grid.start is.start_on_map) (is_on grid.width grid.height grid.goal is.goal_on_map))
    is.start_free is.goal_free

-- ---- how many cells there are

bytes_of_rows : (width : ℕ) (rows : List (List ℕ)) → AllByRecursion (λ row. length row ≡ width) rows → length (concat rows) ≡ width * length rows
bytes_of_rows width [] wide = grind arith
bytes_of_rows width (row ∷ rows) wide =
    let more : length (concat rows) ≡ width * length rows = bytes_of_rows width rows wide.1 in
    let here : length row ≡ width = wide.0 in
    let all : length (row ++ concat rows) ≡ length row + length (concat rows) = length-append row (concat rows) in
    let product : width * suc (length rows) ≡ width + width * length rows = grind arith in
    omega (arith, more, here, all, product)

map_length : {A B : Type 0} (f : A → B) (xs : List A) → length (map f xs) ≡ length xs
map_length f [] = refl
map_length f (x ∷ xs) = ap suc (map_length f xs)

cells_of_rows : (width height : ℕ) (rows : List (List ℕ)) (cells : List Class) → AreRows width height rows cells → length cells ≡ width * height
cells_of_rows width height rows cells are =
    sym (map_length Some cells) ∙ ap length (sym are.classes) ∙ map_length class_of_byte (concat rows) ∙ bytes_of_rows width rows are.widths ∙ ap (λ n. width * n) are.count

marks_of_rows : (swamp : Bool) (width height : ℕ) (rows : List (List ℕ)) (cells : List Class) → AreRows width height rows cells → length (map (is_swamp_byte swamp) (concat rows)) ≡ width * height
marks_of_rows swamp width height rows cells are = map_length (is_swamp_byte swamp) (concat rows) ∙ bytes_of_rows width rows are.widths ∙ ap (λ n. width * n) are.count

-- ---- the laws

pub read_as_spelled : ReadAsSpelled
read_as_spelled map_text scenario_text row swamp grid = (spelled map_text scenario_text row swamp grid, readable map_text scenario_text row swamp grid)

pub spelled_grids_are_unique : SpelledGridsAreUnique
spelled_grids_are_unique map_text scenario_text row swamp grid other one two =
    ok_is grid other (sym (readable map_text scenario_text row swamp grid one) ∙ readable map_text scenario_text row swamp other two)

pub swamp_changes_marks_alone : SwampChangesMarksAlone
swamp_changes_marks_alone map_text scenario_text row swamp other grid e =
    let is = spelled map_text scenario_text row swamp grid e in
    readable map_text scenario_text row other (record grid { swamp = swamp_of other grid.height (lines_of map_text) }) (record {
      map_is = is.map_is;
      swamp_is = marks_are other map_text grid.width grid.height grid.cells is.map_is;
      scenario_is = is.scenario_is;
      start_on_map = is.start_on_map;
      goal_on_map = is.goal_on_map;
      start_free = is.start_free;
      goal_free = is.goal_free;
    })

pub spelled_grids_are_grids : SpelledGridsAreGrids
spelled_grids_are_grids map_text scenario_text row swamp grid is = record {
  width = is.map_is.width_in;
  height = is.map_is.height_in;
  area = cells_of_rows grid.width grid.height is.map_is.rows grid.cells is.map_is.rows_are;
  swamp = ap length is.swamp_is ∙ marks_of_rows swamp grid.width grid.height is.map_is.rows grid.cells is.map_is.rows_are;
  start = is.start_free;
  goal = is.goal_free;
}

-- what is read makes up a task
pub read_grids_are_grids : (map_text scenario_text : List ℕ) (row : ℕ) (swamp : Bool) (grid : GridParts) → grid_reading map_text scenario_text row swamp ≡ Ok grid → IsGrid grid
read_grids_are_grids map_text scenario_text row swamp grid e = spelled_grids_are_grids map_text scenario_text row swamp grid (spelled map_text scenario_text row swamp grid e)

-- texts that spell a grid are not refused
pub not_refused : (map_text scenario_text : List ℕ) (row : ℕ) (swamp : Bool) (grid : GridParts) (error : GridError) → SpellsGrid map_text scenario_text row swamp grid → grid_reading map_text scenario_text row swamp ≡ Err error → ⊥
not_refused map_text scenario_text row swamp grid error is e = let other : grid_reading map_text scenario_text row swamp ≡ Ok grid = readable map_text scenario_text row swamp grid is in cc

-- texts spell no other grid than what is read
pub same_grid : (map_text scenario_text : List ℕ) (row : ℕ) (swamp : Bool) (grid other : GridParts) → SpellsGrid map_text scenario_text row swamp grid → grid_reading map_text scenario_text row swamp ≡ Ok other → grid ≡ other
same_grid map_text scenario_text row swamp grid other is e = ok_is grid other (sym (readable map_text scenario_text row swamp grid is) ∙ e)
