-- How a plan is read off the rows: from a state back to the start, from each row to its parent.
use Rattle.std.specs.Prelude.{◌≡◌, ℕ, ◌==◌, IsFalse, List, [], ◌∷◌, Some}
use Rattle.pb_model.specs.declared.row.Row.{Row}
use Rattle.pb_model.specs.Space.{Space}
use Rattle.pb_model.specs.Guide.{Guide}
use Rattle.pb_model.specs.Store.{Store, row_at}

-- The actions of the rows on the way from the state back to the start, the state's own first. The
-- way ends where it comes to the start.
abbrev pub TracesBack : Space → Guide → Store → (state : ℕ) → List ℕ → Type 0
TracesBack space guide store state [] = state ≡ space.start
TracesBack space guide store state (action ∷ actions) =
    IsFalse (state == space.start)
    × ((row : Row) × (parent : ℕ) × (row_at guide store state ≡ Some row) × (row.action ≡ action)
    × (row.parent ≡ Some parent) × TracesBack space guide store parent actions)
