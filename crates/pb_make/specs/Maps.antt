-- A square map of drawn cells, and a scenario from its first cell to its last, in MovingAI's
-- formats (Sturtevant, "Benchmarks for grid-based pathfinding", 2012).
use Rattle.std.specs.Prelude.{ℕ, ◌-◌, ◌*◌, ◌%◌, ◌==◌, List, [], ◌∷◌, ◌++◌, map, codes, slice_set, if◌then◌else◌}
use Rattle.std.specs.List.{join_with_byte}
use Rattle.std.specs.Fmt.{decimal}
use Rattle.pb_make.specs.Draws.{draws}
use Rattle.pb_make.specs.Lines.{lines, rows_of}

-- one cell of four is blocked, `@`, and three are land, `.`
abbrev pub cell : (draw : ℕ) → ℕ
cell draw = if draw % 4 == 0 then 64 else 46

-- the cells with the first and the last made land
abbrev pub opened : (count : ℕ) → (cells : List ℕ) → List ℕ
opened count cells = slice_set (slice_set cells 0 46) (count - 1) 46

-- the cells of a map, row by row, each of them drawn
abbrev pub map_cells : (seed side : ℕ) → List ℕ
map_cells seed side = opened (side * side) (map cell (draws (side * side) seed))

-- the four lines before the rows
abbrev pub map_header : (side : ℕ) → List ℕ
map_header side =
    lines (codes "type octile" ∷ (codes "height " ++ decimal side)
    ∷ (codes "width " ++ decimal side) ∷ codes "map" ∷ [])

abbrev pub map_text : (seed side : ℕ) → List ℕ
map_text seed side = map_header side ++ lines (rows_of side side (map_cells seed side))

-- bucket 0, the map's name, its width and height, the start's column and row, the goal's column and
-- row, and 0 for the length, with tabs
abbrev pub scenario_row : (side : ℕ) → List ℕ
scenario_row side =
    join_with_byte 9 (codes "0" ∷ codes "made" ∷ decimal side ∷ decimal side ∷ codes "0" ∷ codes "0"
    ∷ decimal (side - 1) ∷ decimal (side - 1) ∷ codes "0" ∷ [])

abbrev pub scenario_text : (side : ℕ) → List ℕ
scenario_text side = lines (codes "version 1" ∷ scenario_row side ∷ [])
