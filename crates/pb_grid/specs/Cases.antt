-- The case of each refusal, in the formats' own words: all that is judged before the fault is
-- well-formed, and then comes the fault.
use Rattle.std.specs.Prelude.{◌≡◌, ◌≢◌, ℕ, zero, suc, ◌+◌, ◌≤◌, ◌<◌, false, IsTrue, List, [], ◌∷◌, ◌++◌, length, drop, map, filter, codes, Some, None, not, ◌⊎◌}
use Rattle.std.specs.List.{AllByRecursion}
use Rattle.pb_lines.specs.ShortNumbers.{IsShortNumber}
use Rattle.pb_task.specs.declared.parts.Class.{Class}
use Rattle.pb_task.specs.declared.parts.GridParts.{GridParts}
use Rattle.pb_grid.specs.declared.error.GridError.{GridError}
use Rattle.pb_grid.specs.declared.error.GridError.TheVariants as errors
use Rattle.pb_grid.specs.Lines.{lines_of, line_at, words_of, is_blank_line}
use Rattle.pb_grid.specs.Reading.{class_of_byte, is_free}
use Rattle.pb_grid.specs.Form.{SpellsMap, SpellsRow, SpellsScenario}

-- ---- the first four lines of a map

-- the words are this name and a number
abbrev pub NamesNumber : (name : List ℕ) → (words : List (List ℕ)) → (number : ℕ) → Type 0
NamesNumber name words number =
    (word : List ℕ) × (words ≡ name ∷ word ∷ []) × IsShortNumber word number

abbrev pub SaysType : (lines : List (List ℕ)) → Type 0
SaysType lines = words_of (line_at lines 1) ≡ codes "type" ∷ codes "octile" ∷ []

abbrev pub SaysHeight : (lines : List (List ℕ)) → (height : ℕ) → Type 0
SaysHeight lines height = NamesNumber (codes "height") (words_of (line_at lines 2)) height

abbrev pub SaysWidth : (lines : List (List ℕ)) → (width : ℕ) → Type 0
SaysWidth lines width = NamesNumber (codes "width") (words_of (line_at lines 3)) width

abbrev pub SaysMap : (lines : List (List ℕ)) → Type 0
SaysMap lines = words_of (line_at lines 4) ≡ codes "map" ∷ []

-- the first of these lines that does not say what it must
abbrev pub IsHeaderFault : (lines : List (List ℕ)) → (line : ℕ) → Type 0
IsHeaderFault lines zero = ⊥
IsHeaderFault lines (suc zero) = SaysType lines → ⊥
IsHeaderFault lines (suc (suc zero)) = SaysType lines × ((height : ℕ) → SaysHeight lines height → ⊥)
IsHeaderFault lines (suc (suc (suc zero))) =
    (height : ℕ) × SaysType lines × SaysHeight lines height
    × ((width : ℕ) → SaysWidth lines width → ⊥)
IsHeaderFault lines (suc (suc (suc (suc zero)))) =
    (height : ℕ) × (width : ℕ) × SaysType lines × SaysHeight lines height × SaysWidth lines width
    × (SaysMap lines → ⊥)
IsHeaderFault lines (suc (suc (suc (suc (suc more))))) = ⊥

-- the lines say this height and this width
pub record HasHeader (lines : List (List ℕ)) (height width : ℕ) : Type 0 where
  pub type : SaysType lines
  pub height_is : SaysHeight lines height
  pub width_is : SaysWidth lines width
  pub map_is : SaysMap lines

abbrev pub IsSide : (cells : ℕ) → Type 0
IsSide cells = (1 ≤ cells) × (cells ≤ 2048)

abbrev pub IsSizeFault : (lines : List (List ℕ)) → Type 0
IsSizeFault lines =
    (height : ℕ) × (width : ℕ) × HasHeader lines height width × (IsSide height × IsSide width → ⊥)

-- ---- the lines after these four, the first of which has the number `first`

-- a row of the map: as many bytes as the map is wide, each of which represents a cell
pub record IsRow (width : ℕ) (row : List ℕ) : Type 0 where
  pub wide : length row ≡ width
  pub cells : List Class
  pub classes : map class_of_byte row ≡ map Some cells

-- The first line that should be a row and is none, because of its length: it is missing, or has too
-- few or too many bytes.
pub record IsRowFault (first : ℕ) (lines : List (List ℕ)) (height width line : ℕ) : Type 0 where
  pub before : List (List ℕ)
  pub rows : AllByRecursion (IsRow width) before
  pub few : length before < height
  pub place : line ≡ first + length before
  pub fault : (lines ≡ before) ⊎ ((row : List ℕ) × (behind : List (List ℕ))
      × (lines ≡ before ++ row ∷ behind) × (length row ≢ width))

-- The first line that should be a row and is none, because of a byte: this is its first byte that
-- represents no cell.
pub record IsCellFault (first : ℕ) (lines : List (List ℕ)) (height width line col : ℕ) : Type 0
  where
    pub before : List (List ℕ)
    pub row : List ℕ
    pub behind : List (List ℕ)
    pub lines_are : lines ≡ before ++ row ∷ behind
    pub rows : AllByRecursion (IsRow width) before
    pub few : length before < height
    pub place : line ≡ first + length before
    pub wide : length row ≡ width
    pub front : List ℕ
    pub byte : ℕ
    pub back : List ℕ
    pub bytes_are : row ≡ front ++ byte ∷ back
    pub cells : List Class
    pub classes : map class_of_byte front ≡ map Some cells
    pub column : col ≡ 1 + length front
    pub unknown : class_of_byte byte ≡ None

-- the first line below the last row that is not blank
pub record IsBelowFault (first : ℕ) (lines : List (List ℕ)) (height width line : ℕ) : Type 0 where
  pub before : List (List ℕ)
  pub blanks : List (List ℕ)
  pub below : List ℕ
  pub behind : List (List ℕ)
  pub lines_are : lines ≡ before ++ (blanks ++ below ∷ behind)
  pub rows : AllByRecursion (IsRow width) before
  pub all : length before ≡ height
  pub blank : AllByRecursion (λ line. words_of line ≡ []) blanks
  pub place : line ≡ first + height + length blanks
  pub fault : words_of below ≢ []

-- the fault of a line after the first four
abbrev pub IsLineFault : ((lines : List (List ℕ)) → (height width : ℕ) → Type 0)
    → (lines : List (List ℕ)) → Type 0
IsLineFault Fault lines =
    (height : ℕ) × (width : ℕ) × HasHeader lines height width × IsSide height × IsSide width
    × Fault (drop 4 lines) height width

-- ---- a scenario

abbrev pub BeginsWithVersion : (lines : List (List ℕ)) → Type 0
BeginsWithVersion lines = (version : List ℕ) × (line_at lines 1 ≡ codes "version" ++ version)

abbrev pub count_of_rows : (lines : List (List ℕ)) → ℕ
count_of_rows lines = length (filter (λ line. not (is_blank_line line)) lines)

abbrev pub IsNoRow : (lines : List (List ℕ)) → (row rows : ℕ) → Type 0
IsNoRow lines row rows =
    BeginsWithVersion lines × (rows ≡ count_of_rows (drop 1 lines)) × (rows ≤ row)

-- the chosen row is this line, and does not have nine words or more with six numbers in their
-- places
pub record IsChosenFault (lines : List (List ℕ)) (row line : ℕ) : Type 0 where
  pub version : BeginsWithVersion lines
  pub before : List (List ℕ)
  pub chosen : List ℕ
  pub behind : List (List ℕ)
  pub lines_are : drop 1 lines ≡ before ++ chosen ∷ behind
  pub rows_before : count_of_rows before ≡ row
  pub filled : words_of chosen ≢ []
  pub place : line ≡ 2 + length before
  pub fault : (width height : ℕ) (start goal : ℕ × ℕ) → SpellsRow chosen width height start goal → ⊥

-- the map is spelled, and the scenario has this fault
abbrev pub IsBehindMap : (map_text : List ℕ) → (Fault : Type 0) → Type 0
IsBehindMap map_text Fault =
    (width : ℕ) × (height : ℕ) × (cells : List Class) × SpellsMap map_text width height cells
    × Fault

-- ---- both

abbrev pub IsOnMap : GridParts → (cell : ℕ × ℕ) → Type 0
IsOnMap grid cell = (cell.0 < grid.width) × (cell.1 < grid.height)

-- map and scenario are spelled with one size, and this is wrong with the start and the goal
abbrev pub IsCellsFault : (map_text scenario_text : List ℕ) → (row : ℕ) → (GridParts → Type 0)
    → Type 0
IsCellsFault map_text scenario_text row Fault =
    (grid : GridParts) × SpellsMap map_text grid.width grid.height grid.cells
    × SpellsScenario scenario_text row grid.width grid.height grid.start grid.goal × Fault grid

-- the case of a refusal
abbrev pub IsCaseOf : (map_text scenario_text : List ℕ) → (row : ℕ) → GridError → Type 0
IsCaseOf map_text scenario_text row (errors.Header line) = IsHeaderFault (lines_of map_text) line
IsCaseOf map_text scenario_text row errors.Size = IsSizeFault (lines_of map_text)
IsCaseOf map_text scenario_text row (errors.Rows line) =
    IsLineFault (λ lines height width. IsRowFault 5 lines height width line
    ⊎ IsBelowFault 5 lines height width line) (lines_of map_text)
IsCaseOf map_text scenario_text row (errors.Cell line col) =
    IsLineFault (λ lines height width. IsCellFault 5 lines height width line col)
    (lines_of map_text)
IsCaseOf map_text scenario_text row (errors.Scenario line) =
    IsBehindMap map_text (((line ≡ 1) × (BeginsWithVersion (lines_of scenario_text) → ⊥))
    ⊎ IsChosenFault (lines_of scenario_text) row line)
IsCaseOf map_text scenario_text row (errors.NoRow asked rows) =
    IsBehindMap map_text ((asked ≡ row) × IsNoRow (lines_of scenario_text) row rows)
IsCaseOf map_text scenario_text row errors.ScenarioSize =
    (width : ℕ) × (height : ℕ) × (cells : List Class) × (other_width : ℕ) × (other_height : ℕ)
    × (start : ℕ × ℕ) × (goal : ℕ × ℕ) × SpellsMap map_text width height cells
    × SpellsScenario scenario_text row other_width other_height start goal
    × ((other_width ≡ width) × (other_height ≡ height) → ⊥)
IsCaseOf map_text scenario_text row errors.Outside =
    IsCellsFault map_text scenario_text row (λ grid. IsOnMap grid grid.start
    × IsOnMap grid grid.goal → ⊥)
IsCaseOf map_text scenario_text row errors.StartBlocked =
    IsCellsFault map_text scenario_text row (λ grid. IsOnMap grid grid.start
    × IsOnMap grid grid.goal × (is_free grid grid.start ≡ false))
IsCaseOf map_text scenario_text row errors.GoalBlocked =
    IsCellsFault map_text scenario_text row (λ grid. IsOnMap grid grid.start
    × IsOnMap grid grid.goal × IsTrue (is_free grid grid.start)
    × (is_free grid grid.goal ≡ false))
IsCaseOf map_text scenario_text row errors.Memory = ⊥
