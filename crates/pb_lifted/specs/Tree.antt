-- The tree of types in numbers.
use Rattle.std.specs.Prelude.{◌≡◌, ◌<◌, ℕ, zero, suc, Bool, not, ◌||◌, nat_eq, if◌then◌else◌, List, ◌∷◌, length, map, unwrap_or, slice_index}
use Rattle.pb_pddl.specs.declared.tree.Typed.{Typed}
use Rattle.pb_lifted.specs.declared.tree.Tree.{Tree}
use Rattle.pb_lifted.specs.Names.{number_of}
use Rattle.pb_lifted.specs.Types.{is_object, name_text, kind_text, type_names}

-- for object and each declared type the number of the type above it
abbrev pub parent_numbers : List (List ℕ) → List Typed → List ℕ
parent_numbers names types = 0 ∷ map (λ t. unwrap_or (number_of (kind_text t) names) 0) types

pub record IsTree (tree : Tree) (types : List Typed) : Type 0 where
  pub names : tree.names ≡ type_names types
  pub parents : tree.parents.items ≡ parent_numbers (type_names types) types

-- so many steps up
abbrev pub climb : List ℕ → ℕ → ℕ → ℕ
climb parents zero i = i
climb parents (suc n) i = climb parents n (slice_index parents i)

-- the number, or one that is at most this many steps up, is this one
abbrev pub comes_to : List ℕ → ℕ → ℕ → ℕ → Bool
comes_to parents zero i j = nat_eq i j
comes_to parents (suc n) i j = nat_eq i j || comes_to parents n (slice_index parents i) j

-- a step of the first, and then one of the second
abbrev pub followed : List ℕ → List ℕ → List ℕ
followed first second = map (λ i. slice_index second i) first

-- where so many steps up lead from each place
pub record IsFar (parents : List ℕ) (n : ℕ) (far : List ℕ) : Type 0 where
  pub each : (i : ℕ) → i < length far → slice_index far i ≡ climb parents n i

-- the whole way up from a type does not come to object; far has where that way leads from each
-- number
abbrev pub does_not_lead : List (List ℕ) → List ℕ → Typed → Bool
does_not_lead names far t =
    if is_object (name_text t) then not (is_object (kind_text t))
    else not (nat_eq (slice_index far (unwrap_or (number_of (name_text t) names) 0)) 0)
