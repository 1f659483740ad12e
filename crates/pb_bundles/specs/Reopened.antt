-- The bundles at home, opened again with another weight.
use Rattle.std.specs.Prelude.{◌≡◌, ℕ, ◌<◌, List, [], ◌∷◌, Option, Some, None, IsSome, length, option_map}
use Rattle.pb_model.specs.Weight.{Weight}
use Rattle.pb_lists.specs.Bundle.{Content}
use Rattle.pb_lists.specs.Reopened.{weight_in, bound_in, reopened, IsPreparedFrom}
use Rattle.pb_lists.specs.declared.reopening.OpenedSet.{OpenedSet}
use Rattle.pb_bundles.specs.Homes.{HomeTable, content_at}

-- no bundle is away
abbrev pub AreAllHome : HomeTable → Type 0
AreAllHome table = (block : ℕ) → block < length table.bundles → IsSome (content_at table block)

-- the set was prepared from this content, for this weight and this incumbent
pub record IsPreparedFor (weight : Weight) (bound : ℕ) (content : Content) (set : OpenedSet)
    : Type 0 where
  pub from : IsPreparedFrom content set
  pub weight_is : weight_in set ≡ weight
  pub bound_is : bound_in set ≡ bound

-- the bundle is at home, and the set was prepared from it
abbrev pub IsReady : Weight → (bound : ℕ) → Option Content → OpenedSet → Type 0
IsReady weight bound None set = ⊥
IsReady weight bound (Some content) set = IsPreparedFor weight bound content set

-- the same for the first so many bundles
abbrev pub AreReady : Weight → (bound : ℕ) → List (Option Content) → List OpenedSet → Type 0
AreReady weight bound bundles [] = Unit {0}
AreReady weight bound [] (set ∷ sets) = ⊥
AreReady weight bound (found ∷ bundles) (set ∷ sets) =
    IsReady weight bound found set × AreReady weight bound bundles sets

-- there is a set for each bundle, which was prepared from it for this weight and this incumbent
pub record ArePrepared (weight : Weight) (bound : ℕ) (table : HomeTable) (sets : List OpenedSet)
    : Type 0 where
  pub ready : AreReady weight bound table.bundles sets
  pub count : length sets ≡ length table.bundles

-- the first bundles after they adopted these sets
abbrev pub adopted : List (Option Content) → List OpenedSet → List (Option Content)
adopted bundles [] = bundles
adopted [] (set ∷ sets) = []
adopted (found ∷ bundles) (set ∷ sets) =
    option_map (reopened (weight_in set) (bound_in set)) found ∷ adopted bundles sets

-- the content after the reopening, if the bundle is at home
abbrev pub reopened_if : Weight → (bound : ℕ) → Option Content → Option Content
reopened_if weight bound found = option_map (reopened weight bound) found
