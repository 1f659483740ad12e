-- How a text spells sliding tiles.
use Rattle.std.specs.Prelude.{◌≡◌, ℕ, ◌≤◌, true, false, ◌⊎◌, List, [], ◌∷◌, ◌++◌, length, codes}
use Rattle.std.specs.List.{range_with_len, AllByRecursion}
use Rattle.pb_task.specs.Tiles.{cell_count, IsTiles}
use Rattle.pb_task.specs.declared.parts.TilesParts.{TilesParts}
use Rattle.pb_lines.specs.ShortNumbers.{IsShortNumber}
use Rattle.pb_tiles.specs.Words.{is_blank}

-- ---- words

-- the text begins with a blank, or has no bytes
abbrev pub BeginsBlank : List ℕ → Type 0
BeginsBlank [] = Unit {0}
BeginsBlank (byte ∷ text) = is_blank byte ≡ true

abbrev pub AreBlanks : List ℕ → Type 0
AreBlanks text = AllByRecursion (λ byte. is_blank byte ≡ true) text

-- a word has bytes, and none of them is a blank
abbrev pub IsWord : List ℕ → Type 0
IsWord word = (1 ≤ length word) × AllByRecursion (λ byte. is_blank byte ≡ false) word

-- the text is these words, with blanks between each two, and maybe before the first and after the
-- last
abbrev pub AreWordsOf : (text : List ℕ) → (words : List (List ℕ)) → Type 0
AreWordsOf text [] = AreBlanks text
AreWordsOf text (word ∷ words) =
    (blanks : List ℕ) × (rest : List ℕ) × (text ≡ blanks ++ (word ++ rest)) × AreBlanks blanks
    × IsWord word × BeginsBlank rest × AreWordsOf rest words

-- ---- numbers

-- the words spell the numbers, one by one
abbrev pub AreNumbers : (words : List (List ℕ)) → (numbers : List ℕ) → Type 0
AreNumbers [] [] = Unit {0}
AreNumbers [] (number ∷ numbers) = ⊥
AreNumbers (word ∷ words) [] = ⊥
AreNumbers (word ∷ words) (number ∷ numbers) = IsShortNumber word number × AreNumbers words numbers

-- ---- tiles

-- the goal comes after the word `goal`, or nothing comes there and the goal is 0, 1, 2 and so on
abbrev pub SpellsGoal : (words : List (List ℕ)) → TilesParts → Type 0
SpellsGoal words tiles =
    ((words ≡ []) × (tiles.goal ≡ range_with_len 0 (cell_count tiles)))
    ⊎ ((numbers : List (List ℕ)) × (words ≡ codes "goal" ∷ numbers) × AreNumbers numbers tiles.goal)

-- The text is words: the numbers of rows and of columns, the start, row by row, and maybe the goal.
-- They say these numbers, which may make up tiles or not.
pub record SaysTiles (text : List ℕ) (tiles : TilesParts) : Type 0 where
  pub rows_word : List ℕ
  pub cols_word : List ℕ
  pub start_words : List (List ℕ)
  pub goal_words : List (List ℕ)
  pub words_are : AreWordsOf text (rows_word ∷ cols_word ∷ (start_words ++ goal_words))
  pub rows_is : IsShortNumber rows_word tiles.rows
  pub cols_is : IsShortNumber cols_word tiles.cols
  pub start_is : AreNumbers start_words tiles.start
  pub goal_is : SpellsGoal goal_words tiles

-- the text says numbers that make up tiles
pub record SpellsTiles (text : List ℕ) (tiles : TilesParts) : Type 0 where
  pub says : SaysTiles text tiles
  pub are_tiles : IsTiles tiles
