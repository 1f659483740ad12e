-- What contracts see of a store whose rows are in several parts, and what they ask of it.
use Rattle.std.specs.Prelude.{◌≡◌, ℕ, ◌-◌, ◌^◌, ◌≤◌, Option, None, Some}
use Rattle.pb_model.specs.declared.row.Estimate.{Estimate}
use Rattle.pb_model.specs.declared.row.Estimate.TheVariants.{Cost}
use Rattle.pb_model.specs.declared.row.Row.{Row}
use Rattle.pb_model.specs.Space.{Space}
use Rattle.pb_model.specs.Weight.{Weight}
use Rattle.pb_model.specs.Guide.{Guide}
use Rattle.pb_model.specs.Plan.{IncumbentHolds}
use Rattle.pb_model.specs.Store.{Part, Rows, Store, IsShown, IsQuiet, CostsAtMost}
use Rattle.pb_model.specs.Sound.{IsSound}
use Rattle.pb_lists.specs.Bundle.{Content, store_of}

-- the store of these rows
abbrev pub store_with : Rows → Weight → (incumbent : Option ℕ) → Store
store_with rows weight incumbent = record { rows = rows; incumbent = incumbent; weight = weight }

-- what a search looks up, with these estimates and homes
abbrev pub guide_with : (estimate : ℕ → Estimate) → (homes : ℕ → ℕ) → Guide
guide_with estimate homes = record { estimate = estimate; home = homes }

-- the same, if the estimates are not looked at
abbrev pub guide_to : (homes : ℕ → ℕ) → Guide
guide_to homes = guide_with (λ state. Cost 0) homes

-- the row of each state in the part that is its home
abbrev pub rows_at_home : (homes : ℕ → ℕ) → Rows → Part
rows_at_home homes rows state = rows (homes state) state

-- each row is in the part that is its state's home
abbrev pub IsPlaced : (homes : ℕ → ℕ) → Rows → Type 0
IsPlaced homes rows = (home state : ℕ) (row : Row) → rows home state ≡ Some row → home ≡ homes state

-- no part from this number on has a row
abbrev pub HasNoneFrom : Rows → (parts : ℕ) → Type 0
HasNoneFrom rows parts = (home state : ℕ) → parts ≤ home → rows home state ≡ None

-- the rows are those of a sound store, whatever the estimates and the incumbent
abbrev pub IsSoundAt : Space → (homes : ℕ → ℕ) → Rows → Weight → Type 0
IsSoundAt space homes rows weight =
    (estimate : ℕ → Estimate) × (incumbent : Option ℕ)
    × IsSound space (guide_with estimate homes) (store_with rows weight incumbent)

-- the rows of a search that has them all in one bundle: those of part 0
abbrev pub one_part_rows : Content → Rows
one_part_rows content = (store_of content None).rows

-- The rows of a search of this space that came to a quiet end, wherever they are. They are a sound
-- store without an Opened row, and no g leaves 61 bits. The incumbent is shown by a goal's row, some
-- plan costs no more, and no plan costs less than the incumbent divided by the weight. Without an
-- incumbent there is no plan.
pub record IsQuietEnd (space : Space) (guide : Guide) (store : Store) : Type 0 where
  pub sound : IsSound space guide store
  pub quiet : IsQuiet store
  pub shown : IsShown space guide store
  pub holds : IncumbentHolds space store.weight store.incumbent
  pub small : CostsAtMost store (2 ^ 61 - 1)
