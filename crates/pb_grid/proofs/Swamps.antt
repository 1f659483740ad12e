-- The marks of swamp: how loops add them, and that they are those of the rows that a map has.
use Rattle.std.proofs.Common.{◌≡◌, ℕ, suc, ◌+◌, ◌-◌, ◌<◌, ◌≤◌, Bool, true, false, List, [], ◌∷◌, ◌++◌, length, length-append, take, drop, map, replicate, get_or, refl, sym, ap, ◌∙◌, arith, append_assoc}
use Rattle.std.specs.List.{concat}
use Rattle.std.proofs.lemmas.List.{append-nil, drop_more, drop_all, map-append}
use Rattle.std.proofs.Math.Seq.{take-append_seam}
use Rattle.pb_task.specs.declared.parts.Class.{Class}
use Rattle.pb_grid.specs.Lines.{lines_of}
use Rattle.pb_grid.specs.Reading.{is_swamp_byte, swamp_of}
use Rattle.pb_grid.specs.Form.{SpellsMap}

-- ---- the marks of a row

pub mark_added : (f : ℕ → Bool) (before total : List Bool) (row : List ℕ) (i : ℕ) → i < length row → before ++ map f (drop i row) ≡ total
    → (before ++ f (get_or row i 0) ∷ []) ++ map f (drop (i + 1) row) ≡ total
mark_added f before total row i less so_far =
    append_assoc before (f (get_or row i 0) ∷ []) (map f (drop (i + 1) row)) ∙ (sym (ap (λ (bytes : List ℕ). before ++ map f bytes) (drop_more row i 0 less)) ∙ so_far)

pub marks_done : (f : ℕ → Bool) (before total : List Bool) (row : List ℕ) (i : ℕ) → length row ≤ i → before ++ map f (drop i row) ≡ total → before ≡ total
marks_done f before total row i le so_far = sym (append-nil before) ∙ (sym (ap (λ (bytes : List ℕ). before ++ map f bytes) (drop_all i row le)) ∙ so_far)

none_marked : (row : List ℕ) → replicate (length row) false ≡ map (is_swamp_byte false) row
none_marked [] = refl
none_marked (byte ∷ row) = ap (λ (marks : List Bool). false ∷ marks) (none_marked row)

-- ---- the marks of rows

pub row_added : (f : ℕ → Bool) (before total : List Bool) (height y : ℕ) (lines behind : List (List ℕ)) (row : List ℕ) → y < height → lines ≡ row ∷ behind
    → before ++ map f (concat (take (height - y) lines)) ≡ total → (before ++ map f row) ++ map f (concat (take (height - (y + 1)) behind)) ≡ total
row_added f before total height y lines behind row less lines_are so_far =
    let left : ℕ = height - (y + 1) in
    let one_more : height - y ≡ suc (height - (y + 1)) = omega arith in
    let bytes : row ++ concat (take left behind) ≡ concat (take (height - y) lines) =
    ap (λ n. concat (take n (row ∷ behind))) (sym one_more) ∙ ap (λ (ls : List (List ℕ)). concat (take (height - y) ls)) (sym lines_are) in
    append_assoc before (map f row) (map f (concat (take left behind)))
    ∙ (ap (λ (marks : List Bool). before ++ marks) (sym (map-append f row (concat (take left behind))) ∙ ap (map f) bytes) ∙ so_far)

pub rows_marked : (f : ℕ → Bool) (before total : List Bool) (height y : ℕ) (lines : List (List ℕ)) → height ≤ y → before ++ map f (concat (take (height - y) lines)) ≡ total → before ≡ total
rows_marked f before total height y lines le so_far =
    let none : height - y ≡ 0 = omega (arith, le) in sym (append-nil before) ∙ (ap (λ n. before ++ map f (concat (take n lines))) (sym none) ∙ so_far)

-- one row's bytes more are counted
pub row_counted : (before after total height y : ℕ) (lines behind : List (List ℕ)) (row : List ℕ) → y < height → lines ≡ row ∷ behind
    → after ≡ before + length row → before + length (concat (take (height - y) lines)) ≡ total → after + length (concat (take (height - (y + 1)) behind)) ≡ total
row_counted before after total height y lines behind row less lines_are more so_far =
    let left : ℕ = height - (y + 1) in
    let one_more : height - y ≡ suc (height - (y + 1)) = omega arith in
    let bytes : row ++ concat (take left behind) ≡ concat (take (height - y) lines) =
    ap (λ n. concat (take n (row ∷ behind))) (sym one_more) ∙ ap (λ (ls : List (List ℕ)). concat (take (height - y) ls)) (sym lines_are) in
    let sum : length row + length (concat (take left behind)) ≡ length (concat (take (height - y) lines)) = sym (length-append row (concat (take left behind))) ∙ ap length bytes in
    omega (arith, more, so_far, sum)

-- which cells of all rows are swamp: those of the marks, and without swamp none
pub swamp_read : (swamp : Bool) (read marks : List Bool) (count height y : ℕ) (lines : List (List ℕ)) (bytes : List ℕ) → height ≤ y
    → (swamp ≡ true → read ≡ marks) → (swamp ≡ false → read ≡ replicate count false)
    → (swamp ≡ true → marks ++ map (is_swamp_byte true) (concat (take (height - y) lines)) ≡ map (is_swamp_byte true) bytes)
    → count + length (concat (take (height - y) lines)) ≡ length bytes → read ≡ map (is_swamp_byte swamp) bytes
swamp_read true read marks count height y lines bytes le with_marks without so_far counted =
    with_marks refl ∙ rows_marked (is_swamp_byte true) marks (map (is_swamp_byte true) bytes) height y lines le (so_far refl)
swamp_read false read marks count height y lines bytes le with_marks without so_far counted =
    let none : height - y ≡ 0 = omega (arith, le) in
    let all : count + 0 ≡ length bytes = ap (λ n. count + length (concat (take n lines))) (sym none) ∙ counted in
    let same : count ≡ length bytes = omega (arith, all) in
    without refl ∙ ap (λ n. replicate n false) same ∙ none_marked bytes

-- ---- the rows of a map that is spelled

pub marks_are : (swamp : Bool) (text : List ℕ) (width height : ℕ) (cells : List Class) (is : SpellsMap text width height cells)
    → swamp_of swamp height (lines_of text) ≡ map (is_swamp_byte swamp) (concat is.rows)
marks_are swamp text width height cells is =
    let rows : take height (drop 4 (lines_of text)) ≡ is.rows =
    ap (λ (ls : List (List ℕ)). take height (drop 4 ls)) is.lines ∙ (ap (λ n. take n (is.rows ++ is.below)) (sym is.rows_are.count) ∙ take-append_seam is.rows is.below) in
    ap (λ (ls : List (List ℕ)). map (is_swamp_byte swamp) (concat ls)) rows
