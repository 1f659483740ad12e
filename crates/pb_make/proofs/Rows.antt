-- Rows and pieces of a text one by one.
use Rattle.std.proofs.Common.{◌≡◌, ℕ, ◌+◌, ◌-◌, ◌*◌, ◌<◌, List, [], ◌∷◌, ◌++◌, suc, take, drop, codes, refl, ap, ◌∙◌, append_assoc, append-nil, arith}
use Rattle.pb_make.specs.Lines.{line, lines, rows_of}
use Rattle.pb_make.specs.Problems.{object, objects_from, facts_of, facts_from}

pub rows-more : (i rows width : ℕ) (cells : List ℕ) → i < rows → rows_of (rows - i) width cells ≡ take width cells ∷ rows_of (rows - (i + 1)) width (drop width cells)
rows-more i rows width cells below = let e : rows - i ≡ suc (rows - (i + 1)) = omega arith in rw e refl

-- the cells of the rows that are left
pub left-more : (i rows width : ℕ) → i < rows → (rows - i) * width ≡ width + (rows - (i + 1)) * width
left-more i rows width below = let e : rows - i ≡ suc (rows - (i + 1)) = omega arith in rw e (one_more (rows - (i + 1)))
  where
    one_more : (k : ℕ) → suc k * width ≡ width + k * width
    one_more k = omega arith

pub objects-more : (i count : ℕ) → i < count → objects_from i (count - i) ≡ object i ++ objects_from (i + 1) (count - (i + 1))
objects-more i count below = let e : count - i ≡ suc (count - (i + 1)) = omega arith in rw e refl

pub facts-more : (i count : ℕ) → i < count → facts_from i (count - i) ≡ facts_of i ++ facts_from (i + 1) (count - (i + 1))
facts-more i count below = let e : count - i ≡ suc (count - (i + 1)) = omega arith in rw e refl

-- the four lines before the rows of a map, if `side` are the digits of its side
pub header-with : (side : List ℕ)
    → lines (codes "type octile" ∷ (codes "height " ++ side) ∷ (codes "width " ++ side) ∷ codes "map" ∷ [])
    ≡ codes "type octile" ++ 10 ∷ (codes "height " ++ (side ++ 10 ∷ (codes "width " ++ (side ++ 10 ∷ (codes "map" ++ 10 ∷ [])))))
header-with side =
    ap (λ rest. codes "type octile" ++ 10 ∷ (codes "height " ++ rest))
    (append_assoc side (10 ∷ []) (line (codes "width " ++ side) ++ line (codes "map"))
    ∙ ap (λ rest. side ++ 10 ∷ (codes "width " ++ rest)) (append_assoc side (10 ∷ []) (line (codes "map"))))

-- seven pieces, one after another
pub seven-pieces : (a b c d e f g : List ℕ) → (((((a ++ b) ++ c) ++ d) ++ e) ++ f) ++ g ≡ a ++ (b ++ (c ++ (d ++ (e ++ (f ++ g)))))
seven-pieces a b c d e f g = simp append_assoc

-- a line and three lines more, one after another
pub four-lines : (a b c d : List ℕ) → ((a ++ b) ++ c) ++ d ≡ a ++ (b ++ (c ++ (d ++ [])))
four-lines a b c d = simp (append_assoc, append-nil)
