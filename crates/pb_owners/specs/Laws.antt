-- A law on whole searches by owners. It is proved, as the contract of the public function that has
-- its name.
use Rattle.std.specs.Prelude.{◌≡◌, ℕ, ◌<◌, Option, Some, None}
use Rattle.pb_model.specs.declared.row.Row.{Row}
use Rattle.pb_model.specs.Space.{Space}
use Rattle.pb_model.specs.Weight.{Weight}
use Rattle.pb_model.specs.Guide.{Guide}
use Rattle.pb_model.specs.Store.{Part}
use Rattle.pb_machine.specs.declared.event.End.{End}
use Rattle.pb_hashed.specs.Mailed.{Owner}
use Rattle.pb_owners.specs.Between.{IsSearched}
use Rattle.pb_owners.specs.Shares.{IsEnd}

-- a row but for the step that it was offered by
abbrev pub without_step : Option Row → Option Row
without_step None = None
without_step (Some row) = Some (record row { parent = None; action = 0 })

-- the same states have rows, and these differ at most in their parents and actions
abbrev pub AreAlike : Part → Part → Type 0
AreAlike part other = (state : ℕ) → without_step (part state) ≡ without_step (other state)

-- A search came to this end, by so many expansions, and left these shares.
pub record Ended (space : Space) (guide : Guide) (weight : Weight) (owners lot budget spent : ℕ)
    (at : ℕ → Owner) (end : End) : Type 0 where
  pub searched : IsSearched space guide weight owners lot budget spent at
  pub end_is : IsEnd budget spent at end

-- The schedule changes no more than parents and actions: of two searches with the same owners, lot
-- and budget both came to the same end, by the same number of expansions, with the same incumbent,
-- and with rows that are alike.
abbrev pub SearchesAreAlike : Type 0
SearchesAreAlike =
    (space : Space) (guide : Guide) (weight : Weight) (owners lot budget spent other_spent : ℕ)
    (at other_at : ℕ → Owner) (end other_end : End)
    → Ended space guide weight owners lot budget spent at end
    → Ended space guide weight owners lot budget other_spent other_at other_end
    → (spent ≡ other_spent) × (end ≡ other_end)
    × ((owner : ℕ) → AreAlike (at owner).part (other_at owner).part)
    × ((owner : ℕ) → owner < owners → (at owner).incumbent ≡ (other_at owner).incumbent)
