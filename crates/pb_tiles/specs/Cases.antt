-- The case of each refusal, in the formats' own words: all that is judged before the fault is
-- well-formed, and then comes the fault.
use Rattle.std.specs.Prelude.{◌≡◌, ◌≢◌, ℕ, ◌+◌, ◌≤◌, ◌<◌, true, IsTrue, nat_lt, ◌==◌, ◌&&◌, List, [], ◌∷◌, ◌++◌, length, filter, codes, Contains, ◌⊎◌}
use Rattle.std.specs.List.{list_all}
use Rattle.pb_task.specs.Tiles.{cell_count, are_distinct, is_board}
use Rattle.pb_task.specs.declared.parts.TilesParts.{TilesParts}
use Rattle.pb_tiles.specs.declared.error.TilesError.{TilesError}
use Rattle.pb_tiles.specs.declared.error.TilesError.TheVariants.{Syntax, Size, Count, Number, Twice, Memory}
use Rattle.pb_tiles.specs.Words.{is_blank}
use Rattle.pb_tiles.specs.Spelling.{BeginsBlank, IsWord, AreWordsOf, AreNumbers, SaysTiles}

-- ---- words

-- each of the words is a number
abbrev pub AreAllNumbers : (words : List (List ℕ)) → Type 0
AreAllNumbers words = (numbers : List ℕ) × AreNumbers words numbers

-- A text may begin with these words: they are numbers, or at least two numbers, the word `goal`,
-- and then numbers.
abbrev pub MayBegin : (words : List (List ℕ)) → Type 0
MayBegin words =
    AreAllNumbers words
    ⊎ ((before : List (List ℕ)) × (behind : List (List ℕ))
    × (words ≡ before ++ codes "goal" ∷ behind) × (2 ≤ length before) × AreAllNumbers before
    × AreAllNumbers behind)

-- the text ends with a blank, or has no bytes
abbrev pub EndsBlank : List ℕ → Type 0
EndsBlank [] = Unit {0}
EndsBlank (byte ∷ []) = is_blank byte ≡ true
EndsBlank (byte ∷ next ∷ text) = EndsBlank (next ∷ text)

-- how many line feeds a text has
abbrev pub line_feeds : (text : List ℕ) → ℕ
line_feeds text = length (filter (λ byte. byte == 10) text)

-- The first word that can't stand at its place, and the line in which it stands: a text may begin
-- with the words before it, and not with these and this word.
pub record IsWordFault (text : List ℕ) (line : ℕ) : Type 0 where
  pub before : List ℕ
  pub word : List ℕ
  pub behind : List ℕ
  pub text_is : text ≡ before ++ (word ++ behind)
  pub ends : EndsBlank before
  pub is_word : IsWord word
  pub begins : BeginsBlank behind
  pub words : List (List ℕ)
  pub words_are : AreWordsOf before words
  pub place : line ≡ 1 + line_feeds before
  pub sound : MayBegin words
  pub fault : MayBegin (words ++ word ∷ []) → ⊥

-- the text has no other words than numbers, and fewer than two of them
abbrev pub IsTooShort : (text : List ℕ) → (seen : ℕ) → Type 0
IsTooShort text seen =
    (words : List (List ℕ)) × AreWordsOf text words × AreAllNumbers words × (seen ≡ length words)
    × (seen < 2)

-- ---- sizes

abbrev pub IsSide : (cells : ℕ) → Type 0
IsSide cells = (2 ≤ cells) × (cells ≤ 4)

abbrev pub HasSides : TilesParts → Type 0
HasSides tiles = IsSide tiles.rows × IsSide tiles.cols

-- the start doesn't have as many numbers as there are cells, or else the goal doesn't
abbrev pub IsMiscounted : TilesParts → (seen : ℕ) → Type 0
IsMiscounted tiles seen =
    (seen ≢ cell_count tiles) × ((seen ≡ length tiles.start)
    ⊎ ((length tiles.start ≡ cell_count tiles) × (seen ≡ length tiles.goal)))

-- sides are in range, and both boards have as many numbers as cells
abbrev pub HasSizes : TilesParts → Type 0
HasSizes tiles =
    HasSides tiles × (length tiles.start ≡ cell_count tiles) × (length tiles.goal ≡ cell_count tiles)

-- ---- boards

-- all are below `count`, and no two are alike
abbrev pub AreApart : (count : ℕ) → (numbers : List ℕ) → Type 0
AreApart count numbers =
    IsTrue (list_all (λ number. nat_lt number count) numbers && are_distinct numbers)

-- a number of a board that has this fault; those before it are apart
pub record HasFault (count : ℕ) (board : List ℕ)
    (Fault : (before : List ℕ) → (number : ℕ) → Type 0) : Type 0 where
  pub before : List ℕ
  pub number : ℕ
  pub behind : List ℕ
  pub board_is : board ≡ before ++ number ∷ behind
  pub apart : AreApart count before
  pub fault : Fault before number

-- The start has a number with this fault. Or the start has no fault, and the goal has such a
-- number. A number's place is counted among all numbers of the text, from 0, behind those of rows
-- and columns.
abbrev pub IsNumberFault : TilesParts
    → (Fault : (place : ℕ) → (before : List ℕ) → (number : ℕ) → Type 0) → Type 0
IsNumberFault tiles Fault =
    HasFault (cell_count tiles) tiles.start (λ before. Fault (2 + length before) before)
    ⊎ (IsTrue (is_board (cell_count tiles) tiles.start) × HasFault (cell_count tiles) tiles.goal
    (λ before. Fault (2 + cell_count tiles + length before) before))

-- ---- all

-- the text says numbers that have this fault
abbrev pub IsSaid : (text : List ℕ) → (Fault : TilesParts → Type 0) → Type 0
IsSaid text Fault = (tiles : TilesParts) × SaysTiles text tiles × Fault tiles

-- the case of a refusal
abbrev pub IsCaseOf : (text : List ℕ) → TilesError → Type 0
IsCaseOf text (Syntax line) = IsWordFault text line
IsCaseOf text Size = IsSaid text (λ tiles. HasSides tiles → ⊥)
IsCaseOf text (Count seen wanted) =
    ((wanted ≡ 2) × IsTooShort text seen)
    ⊎ IsSaid text (λ tiles. HasSides tiles × (wanted ≡ cell_count tiles) × IsMiscounted tiles seen)
IsCaseOf text (Number at) =
    IsSaid text (λ tiles. HasSizes tiles × IsNumberFault tiles (λ place before number.
    (at ≡ place) × (cell_count tiles ≤ number)))
IsCaseOf text (Twice twice) =
    IsSaid text (λ tiles. HasSizes tiles × IsNumberFault tiles (λ place before number.
    (twice ≡ number) × (number < cell_count tiles) × Contains before number))
IsCaseOf text Memory = ⊥
