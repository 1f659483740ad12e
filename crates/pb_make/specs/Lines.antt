-- Lines of bytes, and the rows of a rectangle.
use Rattle.std.specs.Prelude.{ℕ, zero, suc, List, [], ◌∷◌, ◌++◌, take, drop}

-- a line with its line feed
abbrev pub line : List ℕ → List ℕ
line text = text ++ 10 ∷ []

-- the lines, one after another
abbrev pub lines : List (List ℕ) → List ℕ
lines [] = []
lines (text ∷ texts) = line text ++ lines texts

-- the first rows of cells that are listed row by row, each as long as the rectangle is wide
abbrev pub rows_of : (rows width : ℕ) → (cells : List ℕ) → List (List ℕ)
rows_of zero width cells = []
rows_of (suc rows) width cells = take width cells ∷ rows_of rows width (drop width cells)
