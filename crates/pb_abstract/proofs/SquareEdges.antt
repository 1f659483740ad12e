-- The edges of a square are those that are found along its border.
use Rattle.std.proofs.Common.{◌≡◌, ℕ, ◌+◌, ◌*◌, ◌/◌, ◌%◌, ◌<◌, Bool, true, false, IsTrue, Option, None, Some, List, [], ◌∷◌, ◌||◌, ◌==◌, ◌↔◌, if◌then◌else◌, refl, sym, ap, ◌∙◌, ◌⊎◌, inl, inr}
use Rattle.std.specs.Int.{div_ceil}
use Rattle.std.specs.List.{list_any}
use Rattle.std.proofs.lemmas.Bool.{or_left, or_right}
use Rattle.std.proofs.lemmas.Nat.{div-mul-add, mod-mul-add, div-add-mod'}
use Rattle.pb_model.proofs.Callers.{equal, equal_self, or_true}
use Rattle.pb_machine.proofs.Callers.{any_some, any_at}
use Rattle.pb_task.specs.Grid.{class_at, are_connected, cell_beside}
use Rattle.pb_task.specs.declared.parts.GridParts.{GridParts}
use Rattle.pb_task.proofs.Callers.{passable_from, on_map}
use Rattle.pb_abstract.specs.Squares.{IsSquareEdge}
use Rattle.pb_abstract.specs.Borders.{is_number, border_cell, is_joined, are_joined, crosses, number_in, beyond}
use Rattle.pb_abstract.proofs.Directions.{one_of_four, among_four, by_four}
use Rattle.pb_abstract.proofs.Squaring.{fits_parts, IsBorder, border_is, IsOnBorder, on_border}

-- ---- one direction

-- the cell beside a cell that can be left there
record Leaves (grid : GridParts) (x y action : ℕ) : Type 0 where
  cell : ℕ × ℕ
  beside : cell_beside x y action ≡ Some cell
  connected : are_connected (class_at grid x y) (class_at grid cell.0 cell.1) ≡ true

leaves : (grid : GridParts) (x y action : ℕ) → are_joined grid (x, y) action ≡ true → Leaves grid x y action
leaves grid x y action e = go (cell_beside x y action) refl e where
  go : (beside : Option (ℕ × ℕ)) → cell_beside x y action ≡ beside → is_joined grid (class_at grid x y) beside ≡ true → Leaves grid x y action
  go None is e = cc
  go (Some cell) is e = record { cell = cell; beside = is; connected = e }

-- what is found beyond a border is an edge
pub beyond_edge : (grid : GridParts) (side block action c : ℕ) → 0 < side → is_number (beyond grid side (div_ceil grid.width side) block action) c ≡ true → IsSquareEdge grid side block c
beyond_edge grid side block action c some e = go (crosses grid side (block % div_ceil grid.width side) (block / div_ceil grid.width side) action) refl e where
  to : (i : ℕ) → i < side
      → Leaves grid (border_cell side (block % div_ceil grid.width side) (block / div_ceil grid.width side) action i).0 (border_cell side (block % div_ceil grid.width side) (block / div_ceil grid.width side) action i).1 action
      → is_number (number_in (div_ceil grid.width side) (cell_beside (block % div_ceil grid.width side) (block / div_ceil grid.width side) action)) c ≡ true → IsSquareEdge grid side block c
  to i less l e =
      let columns = div_ceil grid.width side in
      let at : ℕ × ℕ = border_cell side (block % columns) (block / columns) action i in
      let b : IsBorder side (block % columns) (block / columns) action at.0 at.1 l.cell = border_is side (block % columns) (block / columns) action i l.cell less l.beside in
      let found : ((l.cell.1 / side) * columns + l.cell.0 / side == c) ≡ true = ap (λ square. is_number (number_in columns square) c) (sym b.beside) ∙ e in
      record {
        x = at.0;
        y = at.1;
        action = action;
        cell = l.cell;
        beside = l.beside;
        connected = l.connected;
        from = ap (λ n. n * columns + at.0 / side) b.row_is ∙ ap (λ n. (block / columns) * columns + n) b.column_is ∙ div-add-mod' block columns;
        to = equal ((l.cell.1 / side) * columns + l.cell.0 / side) c found;
      }

  go : (test : Bool) → crosses grid side (block % div_ceil grid.width side) (block / div_ceil grid.width side) action ≡ test
      → is_number (if test then number_in (div_ceil grid.width side) (cell_beside (block % div_ceil grid.width side) (block / div_ceil grid.width side) action) else None) c ≡ true → IsSquareEdge grid side block c
  go false is e = cc
  go true is e =
      let columns = div_ceil grid.width side in
      let found = any_some side (λ i. are_joined grid (border_cell side (block % columns) (block / columns) action i) action) is in
      to found.0 found.1 (leaves grid (border_cell side (block % columns) (block / columns) action found.0).0 (border_cell side (block % columns) (block / columns) action found.0).1 action found.2) e

-- an edge to another square is found beyond a border
pub edge_beyond : (grid : GridParts) (side block c : ℕ) → 0 < side → (edge : IsSquareEdge grid side block c)
    → (block ≡ c) ⊎ (is_number (beyond grid side (div_ceil grid.width side) block edge.action) c ≡ true)
edge_beyond grid side block c some edge = go (on_border side edge.x edge.y edge.action edge.cell some edge.beside) where
  within : edge.x / side < div_ceil grid.width side
  within = fits_parts grid.width side edge.x some (on_map grid edge.x edge.y (passable_from (class_at grid edge.x edge.y) (class_at grid edge.cell.0 edge.cell.1) edge.connected)).0

  column_is : block % div_ceil grid.width side ≡ edge.x / side
  column_is = ap (λ n. n % div_ceil grid.width side) (sym edge.from) ∙ mod-mul-add (edge.y / side) (div_ceil grid.width side) (edge.x / side) within

  row_is : block / div_ceil grid.width side ≡ edge.y / side
  row_is = ap (λ n. n / div_ceil grid.width side) (sym edge.from) ∙ div-mul-add (edge.y / side) (div_ceil grid.width side) (edge.x / side) within

  beyond_here : IsOnBorder side edge.x edge.y edge.action edge.cell → is_number (beyond grid side (div_ceil grid.width side) block edge.action) c ≡ true
  beyond_here b =
      let joined : are_joined grid (border_cell side (edge.x / side) (edge.y / side) edge.action b.i) edge.action ≡ true =
      ap (λ cell. are_joined grid cell edge.action) b.is ∙ ap (λ beside. is_joined grid (class_at grid edge.x edge.y) beside) edge.beside ∙ edge.connected in
      let crossed : crosses grid side (edge.x / side) (edge.y / side) edge.action ≡ true =
      any_at side b.i (λ i. are_joined grid (border_cell side (edge.x / side) (edge.y / side) edge.action i) edge.action) b.within joined in
      ap (λ column. is_number (if crosses grid side column (block / div_ceil grid.width side) edge.action then number_in (div_ceil grid.width side) (cell_beside column (block / div_ceil grid.width side) edge.action) else None) c) column_is
      ∙ ap (λ row. is_number (if crosses grid side (edge.x / side) row edge.action then number_in (div_ceil grid.width side) (cell_beside (edge.x / side) row edge.action) else None) c) row_is
      ∙ ap (λ test. is_number (if test then number_in (div_ceil grid.width side) (cell_beside (edge.x / side) (edge.y / side) edge.action) else None) c) crossed
      ∙ ap (λ square. is_number (number_in (div_ceil grid.width side) square) c) b.beside
      ∙ ap (λ n. n == c) edge.to ∙ equal_self c

  go : ((edge.cell.0 / side ≡ edge.x / side) × (edge.cell.1 / side ≡ edge.y / side)) ⊎ IsOnBorder side edge.x edge.y edge.action edge.cell
      → (block ≡ c) ⊎ (is_number (beyond grid side (div_ceil grid.width side) block edge.action) c ≡ true)
  go (inl stays) =
      inl (sym edge.from ∙ ap (λ n. n * div_ceil grid.width side + edge.x / side) (sym stays.1) ∙ ap (λ n. (edge.cell.1 / side) * div_ceil grid.width side + n) (sym stays.0) ∙ edge.to)
  go (inr b) = inr (beyond_here b)

-- ---- all directions

-- the blocks that a square's scope has are itself and those that an edge leads to
pub scope_is : (grid : GridParts) (side block c : ℕ) → 0 < side → (found : List (Option ℕ))
    → found ≡ (beyond grid side (div_ceil grid.width side) block 0 ∷ (beyond grid side (div_ceil grid.width side) block 1 ∷ (beyond grid side (div_ceil grid.width side) block 2 ∷ (beyond grid side (div_ceil grid.width side) block 3 ∷ []))))
    → IsTrue ((block == c) || list_any (λ other. is_number other c) found) ↔ ((block ≡ c) ⊎ IsSquareEdge grid side block c)
scope_is grid side block c some found is = (forth, back) where
  forth : IsTrue ((block == c) || list_any (λ other. is_number other c) found) → (block ≡ c) ⊎ IsSquareEdge grid side block c
  forth h = go (or_true (block == c) (list_any (λ other. is_number other c) found) h) where
    edge : ((action : ℕ) × (is_number (beyond grid side (div_ceil grid.width side) block action) c ≡ true)) → IsSquareEdge grid side block c
    edge w = beyond_edge grid side block w.0 c some w.1

    go : (((block == c) ≡ true) ⊎ (list_any (λ other. is_number other c) found ≡ true)) → (block ≡ c) ⊎ IsSquareEdge grid side block c
    go (inl e) = inl (equal block c e)
    go (inr e) = inr (edge (one_of_four (λ action. is_number (beyond grid side (div_ceil grid.width side) block action) c) (ap (list_any (λ other. is_number other c)) (sym is) ∙ e)))

  back : ((block ≡ c) ⊎ IsSquareEdge grid side block c) → IsTrue ((block == c) || list_any (λ other. is_number other c) found)
  back (inl e) = or_left (block == c) (list_any (λ other. is_number other c) found) (ap (λ n. n == c) e ∙ equal_self c)
  back (inr edge) = go (edge_beyond grid side block c some edge) where
    go : ((block ≡ c) ⊎ (is_number (beyond grid side (div_ceil grid.width side) block edge.action) c ≡ true)) → IsTrue ((block == c) || list_any (λ other. is_number other c) found)
    go (inl e) = or_left (block == c) (list_any (λ other. is_number other c) found) (ap (λ n. n == c) e ∙ equal_self c)
    go (inr e) =
        or_right (block == c) (list_any (λ other. is_number other c) found)
        (ap (list_any (λ other. is_number other c)) is
        ∙ among_four (λ action. is_number (beyond grid side (div_ceil grid.width side) block action) c) edge.action (by_four edge.x edge.y edge.action edge.cell edge.beside) e)
