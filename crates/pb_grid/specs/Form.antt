-- How the texts of a MovingAI map and scenario (Sturtevant, "Benchmarks for grid-based
-- pathfinding", 2012) spell a grid.
use Rattle.std.specs.Prelude.{◌≡◌, ℕ, ◌≤◌, ◌<◌, Bool, IsTrue, List, [], ◌∷◌, ◌++◌, length, map, filter, codes, Some, not}
use Rattle.std.specs.List.{concat, AllByRecursion}
use Rattle.pb_task.specs.declared.parts.GridParts.{GridParts}
use Rattle.pb_task.specs.declared.parts.Class.{Class}
use Rattle.pb_lines.specs.ShortNumbers.{IsShortNumber}
use Rattle.pb_grid.specs.Lines.{lines_of, words_of, is_blank_line}
use Rattle.pb_grid.specs.Reading.{class_of_byte, is_swamp_byte, is_free}

-- ---- maps

-- There are as many rows as the map is high, and each has as many bytes as the map is wide. The
-- bytes represent the cells, row by row.
pub record AreRows (width height : ℕ) (rows : List (List ℕ)) (cells : List Class) : Type 0 where
  pub count : length rows ≡ height
  pub widths : AllByRecursion (λ row. length row ≡ width) rows
  pub classes : map class_of_byte (concat rows) ≡ map Some cells

-- A map is four lines, then its rows, and then blank lines. The four lines say that it is a map,
-- how high and how wide it is, and that its rows begin.
pub record SpellsMap (text : List ℕ) (width height : ℕ) (cells : List Class) : Type 0 where
  pub type_line : List ℕ
  pub height_line : List ℕ
  pub width_line : List ℕ
  pub map_line : List ℕ
  pub rows : List (List ℕ)
  pub below : List (List ℕ)
  pub height_word : List ℕ
  pub width_word : List ℕ
  pub lines : lines_of text ≡ type_line ∷ height_line ∷ width_line ∷ map_line ∷ (rows ++ below)
  pub type_words : words_of type_line ≡ codes "type" ∷ codes "octile" ∷ []
  pub height_words : words_of height_line ≡ codes "height" ∷ height_word ∷ []
  pub width_words : words_of width_line ≡ codes "width" ∷ width_word ∷ []
  pub map_words : words_of map_line ≡ codes "map" ∷ []
  pub height_is : IsShortNumber height_word height
  pub width_is : IsShortNumber width_word width
  pub height_in : (1 ≤ height) × (height ≤ 2048)
  pub width_in : (1 ≤ width) × (width ≤ 2048)
  pub rows_are : AreRows width height rows cells
  pub blank : AllByRecursion (λ line. words_of line ≡ []) below

-- ---- scenarios

-- The words of a row of a scenario: a bucket, the map's name, the map's width and height, the
-- start's column and row, the goal's column and row, and the length of a shortest way. The name is
-- one word or more. Only the six numbers before the length are looked at.
pub record SpellsRow (line : List ℕ) (width height : ℕ) (start goal : ℕ × ℕ) : Type 0 where
  pub bucket : List ℕ
  pub name : List (List ℕ)
  pub width_word : List ℕ
  pub height_word : List ℕ
  pub start_x : List ℕ
  pub start_y : List ℕ
  pub goal_x : List ℕ
  pub goal_y : List ℕ
  pub way : List ℕ
  pub words : words_of line ≡ bucket ∷ (name ++ width_word ∷ height_word ∷ start_x ∷ start_y
      ∷ goal_x ∷ goal_y ∷ way ∷ [])
  pub named : 1 ≤ length name
  pub width_is : IsShortNumber width_word width
  pub height_is : IsShortNumber height_word height
  pub start_is : IsShortNumber start_x start.0 × IsShortNumber start_y start.1
  pub goal_is : IsShortNumber goal_x goal.0 × IsShortNumber goal_y goal.1

-- A scenario is a line that begins with `version`, and then rows, counted from 0, among blank
-- lines. Only the chosen row is looked at.
pub record SpellsScenario (text : List ℕ) (row width height : ℕ) (start goal : ℕ × ℕ) : Type 0 where
  pub version : List ℕ
  pub before : List (List ℕ)
  pub chosen : List ℕ
  pub behind : List (List ℕ)
  pub lines : lines_of text ≡ (codes "version" ++ version) ∷ (before ++ chosen ∷ behind)
  pub rows_before : length (filter (λ line. not (is_blank_line line)) before) ≡ row
  pub row_is : SpellsRow chosen width height start goal

-- ---- both

-- The two texts spell the grid, with swamp or without. The scenario's sizes are the map's, and its
-- start and goal lie on the map and are not blocked. A cell is swamp exactly if swamp is asked for
-- and its byte is `S`.
pub record SpellsGrid (map_text scenario_text : List ℕ) (row : ℕ) (swamp : Bool)
    (grid : GridParts) : Type 0 where
  pub map_is : SpellsMap map_text grid.width grid.height grid.cells
  pub swamp_is : grid.swamp ≡ map (is_swamp_byte swamp) (concat map_is.rows)
  pub scenario_is : SpellsScenario scenario_text row grid.width grid.height grid.start grid.goal
  pub start_on_map : (grid.start.0 < grid.width) × (grid.start.1 < grid.height)
  pub goal_on_map : (grid.goal.0 < grid.width) × (grid.goal.1 < grid.height)
  pub start_free : IsTrue (is_free grid grid.start)
  pub goal_free : IsTrue (is_free grid grid.goal)
