-- No text is refused for want of memory.
use Rattle.std.proofs.Common.{◌≡◌, ◌≢◌, ℕ, zero, suc, ◌+◌, Bool, true, false, ◌&&◌, Option, Some, None, Result, Ok, Err, List, [], ◌∷◌, ◌++◌, length, drop, reverse, eqb, codes, nat_eq, ap}
use Rattle.std.specs.List.{slice_get, starts_with}
use Rattle.pb_task.specs.declared.parts.GridParts.{GridParts}
use Rattle.pb_grid.specs.declared.error.GridError.{GridError}
use Rattle.pb_grid.specs.declared.error.GridError.TheVariants as errors
use Rattle.pb_grid.specs.declared.map.MapParts.{MapParts}
use Rattle.pb_grid.specs.declared.scenario.ScenarioParts.{ScenarioParts}
use Rattle.pb_grid.specs.Lines.{lines_of, line_at, words_of, is_blank_line}
use Rattle.pb_grid.specs.Reading.{◌>>=◌, wanted, must, are_words, number_named, size_of_map, is_side, class_of_byte, cells_of, row_of_map, rows_of_map, below_map, map_reading, rows_of_scenario, scenario_of_words, scenario_reading, swamp_of, is_on_map, is_free, grid_of_parts, grid_reading}
use Rattle.pb_grid.specs.Laws.{RefusalsAreOfTexts}

bound : {A B : Type 0} → (r : Result A GridError) (f : A → Result B GridError) → (r ≡ Err errors.Memory → ⊥) → ((x : A) → f x ≡ Err errors.Memory → ⊥) → (r >>= f) ≡ Err errors.Memory → ⊥
bound (Ok x) f one two e = two x e
bound (Err error) f one two e = let same : error ≡ errors.Memory = cc in one (ap Err same)

no_ok : {A : Type 0} → (x : A) → Ok x ≡ Err errors.Memory → ⊥
no_ok x e = cc

must_not : (error : GridError) (holds : Bool) → error ≢ errors.Memory → must error holds ≡ Err errors.Memory → ⊥
must_not error true differs e = cc
must_not error false differs e = let same : error ≡ errors.Memory = cc in differs same

wanted_not : {A : Type 0} → (error : GridError) (o : Option A) → error ≢ errors.Memory → wanted error o ≡ Err errors.Memory → ⊥
wanted_not error (Some x) differs e = cc
wanted_not error None differs e = let same : error ≡ errors.Memory = cc in differs same

size_not : (lines : List (List ℕ)) → size_of_map lines ≡ Err errors.Memory → ⊥
unfolding size_of_map
size_not lines =
    bound (must (errors.Header 1) (are_words (words_of (line_at lines 1)) (codes "type" ∷ codes "octile" ∷ []))) _ (must_not (errors.Header 1) _ (λ e. cc)) (λ first.
    bound (wanted (errors.Header 2) (number_named (codes "height") (words_of (line_at lines 2)))) _ (wanted_not (errors.Header 2) _ (λ e. cc)) (λ height.
    bound (wanted (errors.Header 3) (number_named (codes "width") (words_of (line_at lines 3)))) _ (wanted_not (errors.Header 3) _ (λ e. cc)) (λ width.
    bound (must (errors.Header 4) (are_words (words_of (line_at lines 4)) (codes "map" ∷ []))) _ (must_not (errors.Header 4) _ (λ e. cc)) (λ fourth. no_ok (height, width)))))

cells_not : (line column : ℕ) (bytes : List ℕ) → cells_of line column bytes ≡ Err errors.Memory → ⊥
unfolding cells_of
cells_not line column [] = no_ok []
cells_not line column (byte ∷ bytes) =
    bound (wanted (errors.Cell line column) (class_of_byte byte)) _ (wanted_not (errors.Cell line column) (class_of_byte byte) (λ e. cc)) (λ cell.
    bound (cells_of line (column + 1) bytes) _ (cells_not line (column + 1) bytes) (λ cells. no_ok (cell ∷ cells)))

row_not : (width line : ℕ) (row : List ℕ) → row_of_map width line row ≡ Err errors.Memory → ⊥
unfolding row_of_map
row_not width line row = bound (must (errors.Rows line) (eqb (length row) width)) _ (must_not (errors.Rows line) _ (λ e. cc)) (λ whole. cells_not line 1 row)

rows_not : (width count line : ℕ) (lines : List (List ℕ)) → rows_of_map width count line lines ≡ Err errors.Memory → ⊥
unfolding rows_of_map
rows_not width zero line lines = no_ok []
rows_not width (suc count) line [] = λ e. cc
rows_not width (suc count) line (row ∷ lines) =
    bound (row_of_map width line row) _ (row_not width line row) (λ cells. bound (rows_of_map width count (line + 1) lines) _ (rows_not width count (line + 1) lines) (λ others. no_ok (cells ++ others)))

below_not : (line : ℕ) (lines : List (List ℕ)) → below_map line lines ≡ Err errors.Memory → ⊥
unfolding below_map
below_not line [] = no_ok true
below_not line (below ∷ lines) = bound (must (errors.Rows line) (is_blank_line below)) _ (must_not (errors.Rows line) _ (λ e. cc)) (λ blank. below_not (line + 1) lines)

map_not : (lines : List (List ℕ)) → map_reading lines ≡ Err errors.Memory → ⊥
unfolding map_reading
map_not lines =
    bound (size_of_map lines) _ (size_not lines) (λ size.
    bound (must errors.Size (is_side size.0 && is_side size.1)) _ (must_not errors.Size _ (λ e. cc)) (λ sides.
    bound (rows_of_map size.1 size.0 5 (drop 4 lines)) _ (rows_not size.1 size.0 5 (drop 4 lines)) (λ cells.
    bound (below_map (5 + size.0) (drop (4 + size.0) lines)) _ (below_not (5 + size.0) (drop (4 + size.0) lines)) (λ below. no_ok (record { width = size.1; height = size.0; cells = cells })))))

scenario_not : (lines : List (List ℕ)) (row : ℕ) → scenario_reading lines row ≡ Err errors.Memory → ⊥
unfolding scenario_reading
scenario_not lines row =
    bound (must (errors.Scenario 1) (starts_with nat_eq (line_at lines 1) (codes "version"))) _ (must_not (errors.Scenario 1) _ (λ e. cc)) (λ version.
    bound (wanted (errors.NoRow row (length (rows_of_scenario lines))) (slice_get (rows_of_scenario lines) row)) _ (wanted_not (errors.NoRow row (length (rows_of_scenario lines))) _ (λ e. cc)) (λ chosen.
    wanted_not (errors.Scenario chosen.0) (scenario_of_words (reverse (words_of chosen.1))) (λ e. cc)))

grid_not : (map : MapParts) (swamp : List Bool) (scenario : ScenarioParts) → grid_of_parts map swamp scenario ≡ Err errors.Memory → ⊥
unfolding grid_of_parts
grid_not map swamp scenario =
    let grid : GridParts = record { width = map.width; height = map.height; cells = map.cells; swamp = swamp; start = scenario.start; goal = scenario.goal } in
    bound (must errors.ScenarioSize (eqb scenario.width map.width && eqb scenario.height map.height)) _ (must_not errors.ScenarioSize _ (λ e. cc)) (λ sizes.
    bound (must errors.Outside (is_on_map map.width map.height scenario.start && is_on_map map.width map.height scenario.goal)) _ (must_not errors.Outside _ (λ e. cc)) (λ inside.
    bound (must errors.StartBlocked (is_free grid scenario.start)) _ (must_not errors.StartBlocked _ (λ e. cc)) (λ start.
    bound (must errors.GoalBlocked (is_free grid scenario.goal)) _ (must_not errors.GoalBlocked _ (λ e. cc)) (λ goal. no_ok grid))))

pub refusals_are_of_texts : RefusalsAreOfTexts
unfolding grid_reading
refusals_are_of_texts map_text scenario_text row swamp =
    bound (map_reading (lines_of map_text)) _ (map_not (lines_of map_text)) (λ map. bound (scenario_reading (lines_of scenario_text) row) _ (scenario_not (lines_of scenario_text) row) (λ scenario. grid_not map (swamp_of swamp map.height (lines_of map_text)) scenario))
