-- How a text is read, and which refusal comes first.
use Rattle.std.specs.Prelude.{ℕ, ◌+◌, ◌*◌, Bool, true, false, not, ◌==◌, ◌&&◌, nat_lt, nat_le, List, [], ◌∷◌, ◌++◌, length, codes, Option, None, Some, Result, Ok, Err, if◌then◌else◌}
use Rattle.std.specs.List.{list_any, range_with_len}
use Rattle.std.specs.Option.{option_map_or}
use Rattle.std.specs.Str.{bytes_eq}
use Rattle.pb_task.specs.declared.parts.TilesParts.{TilesParts}
use Rattle.pb_tiles.specs.declared.error.TilesError.{TilesError}
use Rattle.pb_tiles.specs.declared.error.TilesError.TheVariants.{Syntax, Size, Count, Number, Twice}
use Rattle.pb_tiles.specs.Said.{Said}
use Rattle.pb_lines.specs.ShortNumbers.{short_number_of}
use Rattle.pb_tiles.specs.Words.{Word, words}

-- ---- what words say

abbrev pub nothing_said : Said
nothing_said = record { before = []; has_goal = false; behind = [] }

-- one more number is said
abbrev pub with_number : Said → (number : ℕ) → Said
with_number said number =
    if said.has_goal then record said { behind = said.behind ++ number ∷ [] }
    else record said { before = said.before ++ number ∷ [] }

-- the word `goal` may come once, after two numbers or more
abbrev pub may_have_goal : Said → Bool
may_have_goal said = not said.has_goal && nat_le 2 (length said.before)

-- what is said after one more word, which spells this number or is `goal`
abbrev pub with_word : Said → (number : Option ℕ) → (is_goal : Bool) → Option Said
with_word said (Some number) is_goal = Some (with_number said number)
with_word said None is_goal =
    if may_have_goal said && is_goal then Some (record said { has_goal = true }) else None

abbrev pub next : Said → (word : List ℕ) → Option Said
next said word = with_word said (short_number_of word) (bytes_eq word (codes "goal"))

-- what is said after more words, or the line of the first word that can't be at its place
abbrev pub said_by : Said → List Word → Result Said TilesError
said_by said [] = Ok said
said_by said (word ∷ more) =
    option_map_or (λ after. said_by after more) (next said word.text) (Err (Syntax word.line))

-- ---- what numbers mean

-- a board has 2 to 4 rows, and 2 to 4 columns
abbrev pub is_side : ℕ → Bool
is_side cells = nat_le 2 cells && nat_le cells 4

-- a board has as many numbers as cells
abbrev pub count_fault : (count : ℕ) → (board : List ℕ) → Option TilesError
count_fault count board = if length board == count then None else Some (Count (length board) count)

-- The first number of a board that can't follow these, which are the numbers before this place in
-- the text: it is not below `count`, or it came before.
abbrev pub board_fault : (count place : ℕ) → (before board : List ℕ) → Option TilesError
board_fault count place before [] = None
board_fault count place before (number ∷ board) =
    if nat_lt number count
    then (if list_any (λ other. other == number) before then Some (Twice number)
    else board_fault count (place + 1) (before ++ number ∷ []) board)
    else Some (Number place)

abbrev pub first_fault : Option TilesError → Option TilesError → Option TilesError
first_fault None later = later
first_fault (Some fault) later = Some fault

-- the first fault of a start and a goal: a board that is too short or too long comes before faults
-- of numbers
abbrev pub boards_fault : (count : ℕ) → (start goal : List ℕ) → Option TilesError
boards_fault count start goal =
    first_fault (count_fault count start)
    (first_fault (count_fault count goal)
    (first_fault (board_fault count 2 [] start) (board_fault count (2 + count) [] goal)))

abbrev pub unless_fault : Option TilesError → TilesParts → Result TilesParts TilesError
unless_fault None tiles = Ok tiles
unless_fault (Some fault) tiles = Err fault

abbrev pub boards_reading : (rows cols : ℕ) → (start goal : List ℕ) → Result TilesParts TilesError
boards_reading rows cols start goal =
    unless_fault (boards_fault (rows * cols) start goal)
    (record { rows = rows; cols = cols; start = start; goal = goal })

-- the numbers are rows, columns and the start; if no goal is said, it is 0, 1, 2 and so on
abbrev pub numbers_reading : (before : List ℕ) → (has_goal : Bool) → (behind : List ℕ)
    → Result TilesParts TilesError
numbers_reading [] has_goal behind = Err (Count 0 2)
numbers_reading (rows ∷ []) has_goal behind = Err (Count 1 2)
numbers_reading (rows ∷ cols ∷ start) has_goal behind =
    if is_side rows && is_side cols then boards_reading rows cols start
    (if has_goal then behind else range_with_len 0 (rows * cols)) else Err Size

abbrev pub reading : Said → Result TilesParts TilesError
reading said = numbers_reading said.before said.has_goal said.behind

-- what the text of tiles says, or the first reason why it says nothing
abbrev pub read_after : Result Said TilesError → Result TilesParts TilesError
read_after (Ok said) = reading said
read_after (Err e) = Err e

abbrev pub tiles_reading : (text : List ℕ) → Result TilesParts TilesError
tiles_reading text = read_after (said_by nothing_said (words text))
