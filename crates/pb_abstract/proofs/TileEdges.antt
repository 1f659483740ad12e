-- The edges of a block of boards are those that the blank's moves from one of its placings make.
use Rattle.std.proofs.Common.{◌≡◌, ℕ, ◌<◌, true, IsTrue, Option, None, Some, List, [], ◌∷◌, ◌||◌, ◌==◌, ◌↔◌, refl, sym, ap, ◌∙◌, arith, ◌⊎◌, inl, inr}
use Rattle.std.specs.List.{list_any}
use Rattle.std.proofs.lemmas.Bool.{or_left, or_right}
use Rattle.pb_model.proofs.Callers.{equal, equal_self, or_true}
use Rattle.pb_task.specs.declared.parts.TilesParts.{TilesParts}
use Rattle.pb_task.specs.Tiles.{cell_count, neighbour}
use Rattle.pb_task.proofs.Callers.{four_moves}
use Rattle.pb_abstract.specs.declared.placing.Placing.{Placing}
use Rattle.pb_abstract.specs.declared.projection.Projection.{Projection}
use Rattle.pb_abstract.specs.declared.projection.Projection.TheVariants.{Squares, Blank, BlankAndOne, BlankAndTwo, Atoms}
use Rattle.pb_abstract.specs.Placings.{IsPlacing, placing_count, placing_number, placing_after, number_after, IsTileEdge}
use Rattle.pb_abstract.specs.Borders.{is_number}
use Rattle.pb_abstract.proofs.Directions.{one_of_four, among_four}
use Rattle.pb_abstract.proofs.Ranks.{Agree, IsOfBoards, number_once, moves_agree, blanks_agree}

-- a projection that has a block of boards is one of boards
pub of_boards : (count : ℕ) (projection : Projection) (block : ℕ) → block < placing_count count projection → IsOfBoards projection
of_boards count (Squares side columns) block less = absurd (omega arith)
of_boards count Blank block less = tt
of_boards count BlankAndOne block less = tt
of_boards count BlankAndTwo block less = tt
of_boards count (Atoms atoms) block less = absurd (omega arith)

-- the move from a placing of the block is an edge
pub after_edge : (tiles : TilesParts) (projection : Projection) (block c : ℕ) (placing : Placing) (action : ℕ) → IsPlacing (cell_count tiles) placing → placing_number (cell_count tiles) projection placing ≡ block
    → is_number (number_after (cell_count tiles) projection placing (neighbour tiles.rows tiles.cols placing.blank action)) c ≡ true → IsTileEdge tiles projection block c
after_edge tiles projection block c placing action is number e = go (neighbour tiles.rows tiles.cols placing.blank action) refl e where
  go : (to : Option ℕ) → neighbour tiles.rows tiles.cols placing.blank action ≡ to → is_number (number_after (cell_count tiles) projection placing to) c ≡ true → IsTileEdge tiles projection block c
  go None beside e = cc
  go (Some cell) beside e = record {
    placing = placing;
    action = action;
    cell = cell;
    is = is;
    beside = beside;
    from = number;
    to = equal (placing_number (cell_count tiles) projection (placing_after placing cell)) c e;
  }

-- an edge is the move from each placing of the block
pub edge_after : (tiles : TilesParts) (projection : Projection) (block c : ℕ) (placing : Placing) → IsPlacing (cell_count tiles) placing → placing_number (cell_count tiles) projection placing ≡ block
    → IsOfBoards projection → (edge : IsTileEdge tiles projection block c)
    → is_number (number_after (cell_count tiles) projection placing (neighbour tiles.rows tiles.cols placing.blank edge.action)) c ≡ true
edge_after tiles projection block c placing is number boards edge =
    let agree : Agree projection placing edge.placing = number_once (cell_count tiles) projection placing edge.placing is edge.is (number ∙ sym edge.from) in
    let blank : placing.blank ≡ edge.placing.blank = blanks_agree projection placing edge.placing boards agree in
    ap (λ n. is_number (number_after (cell_count tiles) projection placing (neighbour tiles.rows tiles.cols n edge.action)) c) blank
    ∙ ap (λ to. is_number (number_after (cell_count tiles) projection placing to) c) edge.beside
    ∙ ap (λ n. n == c) (moves_agree (cell_count tiles) projection placing edge.placing edge.cell agree ∙ edge.to) ∙ equal_self c

abbrev pub beyond_placing : (tiles : TilesParts) → Projection → Placing → (action : ℕ) → Option ℕ
beyond_placing tiles projection placing action = number_after (cell_count tiles) projection placing (neighbour tiles.rows tiles.cols placing.blank action)

-- the blocks that a scope has are the block and those that an edge leads to
pub scope_is : (tiles : TilesParts) (projection : Projection) (block c : ℕ) (placing : Placing) → IsPlacing (cell_count tiles) placing → placing_number (cell_count tiles) projection placing ≡ block
    → block < placing_count (cell_count tiles) projection → (found : List (Option ℕ))
    → found
    ≡ (beyond_placing tiles projection placing 0 ∷ (beyond_placing tiles projection placing 1 ∷ (beyond_placing tiles projection placing 2 ∷ (beyond_placing tiles projection placing 3 ∷ []))))
    → IsTrue ((block == c) || list_any (λ other. is_number other c) found) ↔ ((block ≡ c) ⊎ IsTileEdge tiles projection block c)
scope_is tiles projection block c placing at number less found is = (forth, back) where
  edge : ((action : ℕ) × (is_number (beyond_placing tiles projection placing action) c ≡ true)) → IsTileEdge tiles projection block c
  edge w = after_edge tiles projection block c placing w.0 at number w.1

  which : (((block == c) ≡ true) ⊎ (list_any (λ other. is_number other c) found ≡ true)) → (block ≡ c) ⊎ IsTileEdge tiles projection block c
  which (inl e) = inl (equal block c e)
  which (inr e) = inr (edge (one_of_four (λ action. is_number (beyond_placing tiles projection placing action) c) (ap (list_any (λ other. is_number other c)) (sym is) ∙ e)))

  forth : IsTrue ((block == c) || list_any (λ other. is_number other c) found) → (block ≡ c) ⊎ IsTileEdge tiles projection block c
  forth h = which (or_true (block == c) (list_any (λ other. is_number other c) found) h)

  back : ((block ≡ c) ⊎ IsTileEdge tiles projection block c) → IsTrue ((block == c) || list_any (λ other. is_number other c) found)
  back (inl e) = or_left (block == c) (list_any (λ other. is_number other c) found) (ap (λ n. n == c) e ∙ equal_self c)
  back (inr e) =
      or_right (block == c) (list_any (λ other. is_number other c) found)
      (ap (list_any (λ other. is_number other c)) is
      ∙ among_four (λ action. is_number (beyond_placing tiles projection placing action) c) e.action (four_moves tiles.rows tiles.cols e.placing.blank e.action e.cell e.beside)
      (edge_after tiles projection block c placing at number (of_boards (cell_count tiles) projection block less) e))
