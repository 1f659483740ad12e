-- The ground atoms: the facts that a step can change.
use Rattle.std.specs.Prelude.{ℕ, suc, Bool, ◌&&◌, nat_eq, cond, if◌then◌else◌, List, [], ◌∷◌, ◌++◌, map, flat_map, Option, Some, None, option_map}
use Rattle.std.specs.List.{list_any, filter}
use Rattle.std.specs.Str.{bytes_eq}
use Rattle.pb_lifted.specs.declared.lifted.Lifted.{Lifted}
use Rattle.pb_lifted.specs.declared.lifted.LiftedAtom.{LiftedAtom}
use Rattle.pb_lifted.specs.declared.lifted.Schema.{Schema}
use Rattle.pb_lifted.specs.Facts.{value_of}
use Rattle.pb_ground.specs.declared.atoms.GroundAtom.{GroundAtom}
use Rattle.pb_ground.specs.Instances.{instances}

abbrev pub predicate_of : LiftedAtom → ℕ
predicate_of atom = atom.predicate

-- the predicates of an effect
abbrev pub changed_by : Schema → List ℕ
changed_by schema = map predicate_of schema.adds ++ map predicate_of schema.deletes

-- a predicate is fluent if it is in an effect, else static
abbrev pub is_fluent : Lifted → ℕ → Bool
is_fluent lifted predicate = list_any (nat_eq predicate) (flat_map changed_by lifted.actions)

abbrev pub atom_of : ℕ → List ℕ → GroundAtom
atom_of predicate objects = record { predicate = predicate; objects = objects }

-- the atoms of a predicate whose parameters are of these types
abbrev pub atoms_of : Lifted → ℕ → List ℕ → List GroundAtom
atoms_of lifted predicate kinds =
    cond (is_fluent lifted predicate) (map (λ objects. atom_of predicate objects)
    (instances lifted kinds)) []

-- those of the predicates from this number on
abbrev pub atoms_from : Lifted → ℕ → List (List ℕ) → List GroundAtom
atoms_from lifted predicate [] = []
atoms_from lifted predicate (kinds ∷ later) =
    atoms_of lifted predicate kinds ++ atoms_from lifted (suc predicate) later

-- the ground atoms in the order of their numbers
abbrev pub ground_atoms : Lifted → List GroundAtom
ground_atoms lifted = atoms_from lifted 0 lifted.predicates

-- those of them that are kept, in the same order: an atom's number is its place here
abbrev pub kept_atoms : Lifted → (kept : GroundAtom → Bool) → List GroundAtom
kept_atoms lifted kept = filter kept (ground_atoms lifted)

abbrev pub same_atom : GroundAtom → GroundAtom → Bool
same_atom a b = nat_eq a.predicate b.predicate && bytes_eq a.objects b.objects

-- the number of an atom: its first place, counted from 0
abbrev pub number_in : GroundAtom → List GroundAtom → Option ℕ
number_in atom [] = None
number_in atom (first ∷ later) =
    if same_atom atom first then Some 0 else option_map suc (number_in atom later)

-- what an atom of a schema becomes, if these objects are given to the parameters
abbrev pub grounded : List ℕ → LiftedAtom → GroundAtom
grounded given atom = atom_of atom.predicate (map (λ a. value_of given a) atom.arguments)
