-- Which instances and which ground atoms there are, without their order.
use Rattle.std.specs.Prelude.{◌≡◌, ℕ, Bool, true, false, ◌&&◌, nat_lt, List, [], ◌∷◌, length, Option, Some, None, slice_get, slice_index}
use Rattle.std.specs.List.{list_any}
use Rattle.std.specs.Str.{bytes_eq}
use Rattle.pb_lifted.specs.Tree.{comes_to}
use Rattle.pb_lifted.specs.declared.lifted.Lifted.{Lifted}
use Rattle.pb_ground.specs.declared.atoms.GroundAtom.{GroundAtom}
use Rattle.pb_ground.specs.Atoms.{is_fluent, ground_atoms}
use Rattle.pb_ground.specs.Instances.{instances}
use Rattle.pb_ground.specs.Steps.{is_in}

-- an object of this type or of a type below it
abbrev pub is_fitting : Lifted → ℕ → ℕ → Bool
is_fitting lifted kind object =
    nat_lt object (length lifted.objects) && comes_to lifted.types (length lifted.types)
    (slice_index lifted.objects object) kind

-- to each parameter such an object
abbrev pub is_instance : Lifted → List ℕ → List ℕ → Bool
is_instance lifted [] [] = true
is_instance lifted [] (object ∷ objects) = false
is_instance lifted (kind ∷ kinds) [] = false
is_instance lifted (kind ∷ kinds) (object ∷ objects) =
    is_fitting lifted kind object && is_instance lifted kinds objects

-- the same for the types of a declared predicate's parameters
abbrev pub is_instance_of : Lifted → Option (List ℕ) → List ℕ → Bool
is_instance_of lifted None objects = false
is_instance_of lifted (Some kinds) objects = is_instance lifted kinds objects

-- The instances are all lists of fitting objects, and no others.
abbrev pub InstancesAreAll : Type 0
InstancesAreAll =
    (lifted : Lifted) (kinds objects : List ℕ)
    → list_any (bytes_eq objects) (instances lifted kinds) ≡ is_instance lifted kinds objects

-- The ground atoms are all instances of fluent predicates, and no others.
abbrev pub AtomsAreAll : Type 0
AtomsAreAll =
    (lifted : Lifted) (atom : GroundAtom) → is_in atom (ground_atoms lifted)
    ≡ (is_fluent lifted atom.predicate && is_instance_of lifted
    (slice_get lifted.predicates atom.predicate) atom.objects)
