-- The tree of types under object.
use Rattle.std.specs.Prelude.{ℕ, zero, suc, Bool, not, ◌&&◌, ◌||◌, if◌then◌else◌, List, [], ◌∷◌, ◌++◌, length, map, filter, flat_map, codes, Option, Some, None}
use Rattle.std.specs.Str.{bytes_eq}
use Rattle.pb_pddl.specs.declared.tree.Name.{Name}
use Rattle.pb_pddl.specs.declared.tree.Typed.{Typed}
use Rattle.pb_lifted.specs.Names.{is_among, fault_if}

-- the root of the tree
abbrev pub object : List ℕ
object = codes "object"

abbrev pub name_text : Typed → List ℕ
name_text typed = typed.name.text

abbrev pub kind_or : Option Name → List ℕ
kind_or None = object
kind_or (Some kind) = kind.text

-- the type after the -, or object
abbrev pub kind_text : Typed → List ℕ
kind_text typed = kind_or typed.kind

abbrev pub is_object : List ℕ → Bool
is_object text = bytes_eq text object

-- an entry of the types that only says that object is a type
abbrev pub is_idle : Typed → Bool
is_idle typed = is_object (name_text typed) && is_object (kind_text typed)

-- the types that are declared
abbrev pub declared_types : List Typed → List Typed
declared_types types = filter (λ t. not (is_idle t)) types

-- the names after the -
abbrev pub kind_names : Option Name → List (List ℕ)
kind_names None = []
kind_names (Some kind) = kind.text ∷ []

abbrev pub kinds_of : List Typed → List (List ℕ)
kinds_of types = flat_map (λ t. kind_names t.kind) types

-- all types: object, those that are declared, and those above one of these; a name may be there
-- more than once
abbrev pub type_names : List Typed → List (List ℕ)
type_names types = object ∷ map name_text types ++ kinds_of types

-- the type above: if a type is declared, the one after its first -, else object
abbrev pub above_in : List Typed → List ℕ → List ℕ
above_in [] text = object
above_in (t ∷ types) text = if bytes_eq text (name_text t) then kind_text t else above_in types text

-- above object there is object again
abbrev pub above : List Typed → List ℕ → List ℕ
above types text = if is_object text then object else above_in types text

-- so many steps up
abbrev pub ancestor : List Typed → ℕ → List ℕ → List ℕ
ancestor types zero text = text
ancestor types (suc n) text = ancestor types n (above types text)

-- No way up is longer unless it comes to a type twice.
abbrev pub height : List Typed → ℕ
height types = suc (length types)

-- the type, or a type above it within so many steps, is this one
abbrev pub is_within : List Typed → ℕ → List ℕ → List ℕ → Bool
is_within types zero text high = bytes_eq text high
is_within types (suc n) text high = bytes_eq text high || is_within types n (above types text) high

-- a type is this one or below it
abbrev pub is_below : List Typed → List ℕ → List ℕ → Bool
is_below types text high = is_within types (height types) text high

-- the way up from a declared type does not come to object, or object itself has another type above
-- it
abbrev pub is_cyclic : List Typed → Typed → Bool
is_cyclic types t =
    if is_object (name_text t) then not (is_object (kind_text t))
    else not (is_object (ancestor types (height types) (name_text t)))

abbrev pub cyclic_in : List Typed → List Typed → List ℕ
cyclic_in types list = flat_map (λ t. fault_if (is_cyclic types t) t.name.at) list

abbrev pub cyclic_types : List Typed → List ℕ
cyclic_types types = cyclic_in types types

-- a name after a - that is no type
abbrev pub unknown_kind : List Typed → Option Name → List ℕ
unknown_kind types None = []
unknown_kind types (Some kind) = fault_if (not (is_among kind.text (type_names types))) kind.at

abbrev pub unknown_kinds : List Typed → List Typed → List ℕ
unknown_kinds types list = flat_map (λ t. unknown_kind types t.kind) list
