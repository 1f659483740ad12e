-- Names: their numbers, and those that are declared twice; the first of some places.
use Rattle.std.specs.Prelude.{ℕ, suc, min, Bool, true, false, List, [], ◌∷◌, ◌++◌, if◌then◌else◌, Option, Some, None, option_map}
use Rattle.std.specs.List.{list_any}
use Rattle.std.specs.Str.{bytes_eq}
use Rattle.pb_pddl.specs.declared.tree.Name.{Name}

-- the number of a name: its first place in a list, counted from 0
abbrev pub number_of : List ℕ → List (List ℕ) → Option ℕ
number_of text [] = None
number_of text (name ∷ names) =
    if bytes_eq text name then Some 0 else option_map suc (number_of text names)

-- whether the name is in the list
abbrev pub is_among : List ℕ → List (List ℕ) → Bool
is_among text names = list_any (bytes_eq text) names

-- this place if there is a fault
abbrev pub fault_if : Bool → ℕ → List ℕ
fault_if true at = at ∷ []
fault_if false at = []

-- the places of the names that are declared twice: before the list, or earlier in it
abbrev pub repeated : List (List ℕ) → List Name → List ℕ
repeated before [] = []
repeated before (name ∷ names) =
    fault_if (is_among name.text before) name.at ++ repeated (before ++ name.text ∷ []) names

-- the earlier of a place, if there is one, and another
abbrev pub earlier : Option ℕ → ℕ → ℕ
earlier None at = at
earlier (Some first) at = min first at

-- the earliest place of all
abbrev pub earliest : Option ℕ → List ℕ → Option ℕ
earliest first [] = first
earliest first (at ∷ places) = earliest (Some (earlier first at)) places
