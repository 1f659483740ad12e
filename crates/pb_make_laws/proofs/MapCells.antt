-- The cells of a made map: as many as the square has, each `.` or `@`, and the first and the last `.`.
use Rattle.std.proofs.Common.{◌≡◌, ℕ, zero, suc, ◌-◌, ◌*◌, ◌%◌, ◌<◌, Bool, true, false, ◌||◌, ◌==◌, if◌then◌else◌, Some, slice_get, List, [], ◌∷◌, length, map, set, ◌⊎◌, inl, inr, refl, ap, sym, subst, arith, ◌∙◌}
use Rattle.std.proofs.lemmas.Bool.{and_parts, and_from}
use Rattle.std.proofs.lemmas.Bool.Decides.{nat_tests}
use Rattle.std.proofs.Math.ListN.{length-set}
use Rattle.std.proofs.lemmas.List.{length-map}
use Rattle.std.specs.List.{list_all}
use Rattle.pb_task.specs.declared.parts.Class.TheVariants.{Land}
use Rattle.pb_grid.specs.Reading.{class_of_byte}
use Rattle.pb_make.specs.Draws.{draws, next_number}
use Rattle.pb_make.specs.Maps.{cell, map_cells, opened}
use Rattle.pb_make_laws.specs.Made.{class_of_cell}
use Rattle.pb_make_laws.proofs.Words.{is_plain}

abbrev pub is_cell : (byte : ℕ) → Bool
is_cell byte = byte == 64 || byte == 46

pub cell_plain : (byte : ℕ) → is_cell byte ≡ true → is_plain byte ≡ true
cell_plain byte e = grind (arith, nat_tests, e)

drawn_cells : (ds : List ℕ) → list_all is_cell (map cell ds) ≡ true
drawn_cells [] = refl
drawn_cells (draw ∷ ds) = and_from (is_cell (cell draw)) (list_all is_cell (map cell ds)) (go (draw % 4 == 0)) (drawn_cells ds)
  where
    go : (test : Bool) → is_cell (if test then 64 else 46) ≡ true
    go true = refl
    go false = refl

set_cells : (xs : List ℕ) (i v : ℕ) → list_all is_cell xs ≡ true → is_cell v ≡ true → list_all is_cell (set xs i v) ≡ true
set_cells [] i v e f = refl
set_cells (x ∷ xs) zero v e f = and_from (is_cell v) (list_all is_cell xs) f (and_parts (is_cell x) (list_all is_cell xs) e).1
set_cells (x ∷ xs) (suc i) v e f = let parts = and_parts (is_cell x) (list_all is_cell xs) e in and_from (is_cell x) (list_all is_cell (set xs i v)) parts.0 (set_cells xs i v parts.1 f)

pub map_cells_are : (seed side : ℕ) → list_all is_cell (map_cells seed side) ≡ true
map_cells_are seed side =
    let drawn = map cell (draws (side * side) seed) in
    set_cells (set drawn 0 46) (side * side - 1) 46 (set_cells drawn 0 46 (drawn_cells (draws (side * side) seed)) refl) refl

pub length-draws : (count number : ℕ) → length (draws count number) ≡ count
length-draws zero number = refl
length-draws (suc count) number = ap suc (length-draws count (next_number number))

pub length-map_cells : (seed side : ℕ) → length (map_cells seed side) ≡ side * side
length-map_cells seed side =
    let drawn = map cell (draws (side * side) seed) in
    length-set (set drawn 0 46) (side * side - 1) 46 ∙ (length-set drawn 0 46 ∙ (length-map (draws (side * side) seed) cell ∙ length-draws (side * side) seed))

-- ---- classes

one_of : (a : ℕ) (test : Bool) → (a == 64) ≡ test → (test || a == 46) ≡ true → (a ≡ 64) ⊎ (a ≡ 46)
one_of a true is e = inl (grind (arith, nat_tests, is))
one_of a false is e = inr (grind (arith, nat_tests, e))

class_is : (byte : ℕ) → is_cell byte ≡ true → class_of_byte byte ≡ Some (class_of_cell byte)
unfolding class_of_byte
class_is byte e =
    elim (one_of byte (byte == 64) refl e) [
      | inl same ↦ subst (λ b. class_of_byte b ≡ Some (class_of_cell b)) (sym same) refl
      | inr same ↦ subst (λ b. class_of_byte b ≡ Some (class_of_cell b)) (sym same) refl
    ]

pub classes_are : (cells : List ℕ) → list_all is_cell cells ≡ true → map class_of_byte cells ≡ map Some (map class_of_cell cells)
classes_are [] e = refl
classes_are (byte ∷ cells) e =
    let parts = and_parts (is_cell byte) (list_all is_cell cells) e in
    let here : class_of_byte byte ≡ Some (class_of_cell byte) = class_is byte parts.0 in
    let there = classes_are cells parts.1 in
    λ i. here i ∷ there i

-- ---- the first and the last cell

-- the class of a cell that was made land
land_at : (xs : List ℕ) (i : ℕ) → i < length xs → slice_get (map class_of_cell (set xs i 46)) i ≡ Some Land
land_at [] i less = absurd (omega arith)
land_at (x ∷ xs) zero less = refl
land_at (x ∷ xs) (suc i) less = land_at xs i (omega arith)

-- it stays land where another is made land
land_kept : (xs : List ℕ) (i k : ℕ) → slice_get (map class_of_cell xs) i ≡ Some Land → slice_get (map class_of_cell (set xs k 46)) i ≡ Some Land
land_kept [] i k e = e
land_kept (x ∷ xs) zero zero e = refl
land_kept (x ∷ xs) zero (suc k) e = e
land_kept (x ∷ xs) (suc i) zero e = e
land_kept (x ∷ xs) (suc i) (suc k) e = land_kept xs i k e

pub first_is_land : (xs : List ℕ) (count : ℕ) → 0 < length xs → slice_get (map class_of_cell (opened count xs)) 0 ≡ Some Land
first_is_land xs count some = land_kept (set xs 0 46) 0 (count - 1) (land_at xs 0 some)

pub last_is_land : (xs : List ℕ) (count : ℕ) → 0 < count → count ≡ length xs → slice_get (map class_of_cell (opened count xs)) (count - 1) ≡ Some Land
last_is_land xs count some many = land_at (set xs 0 46) (count - 1) (let len : length (set xs 0 46) ≡ length xs = length-set xs 0 46 in omega (arith, len))

pub length-drawn : (seed side : ℕ) → length (map cell (draws (side * side) seed)) ≡ side * side
length-drawn seed side = length-map (draws (side * side) seed) cell ∙ length-draws (side * side) seed
