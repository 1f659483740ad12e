-- Steps by atoms, and by the numbers of atoms (Fikes and Nilsson, STRIPS: a new approach to the
-- application of theorem proving to problem solving, 1971).
use Rattle.std.specs.Prelude.{◌≡◌, ℕ, Bool, true, false, not, ◌&&◌, ◌||◌, nat_eq, List, [], ◌∷◌, map, Some, is_some, slice_get}
use Rattle.std.specs.List.{list_any, list_all}
use Rattle.pb_lifted.specs.declared.lifted.Lifted.{Lifted}
use Rattle.pb_lifted.specs.declared.lifted.LiftedAtom.{LiftedAtom}
use Rattle.pb_lifted.specs.declared.lifted.Schema.{Schema}
use Rattle.pb_ground.specs.declared.actions.ActionInstance.{ActionInstance}
use Rattle.pb_ground.specs.declared.atoms.GroundAtom.{GroundAtom}
use Rattle.pb_ground.specs.Actions.{action_of}
use Rattle.pb_ground.specs.Atoms.{is_fluent, same_atom, grounded, number_in}
use Rattle.pb_ground.specs.Statics.{is_initial, keep_all}

-- which atoms hold
abbrev pub Facts : Type 0
Facts = GroundAtom → Bool

-- which of the numbered atoms hold: a packed state
abbrev pub Bits : Type 0
Bits = ℕ → Bool

abbrev pub all_grounded : List ℕ → List LiftedAtom → List GroundAtom
all_grounded given list = map (λ a. grounded given a) list

abbrev pub is_in : GroundAtom → List GroundAtom → Bool
is_in fact facts = list_any (same_atom fact) facts

-- the state less the deleted atoms, with the added atoms: an atom that is deleted and added holds
abbrev pub facts_after : Facts → List GroundAtom → List GroundAtom → Facts
facts_after state gone come fact = is_in fact come || (state fact && not (is_in fact gone))

abbrev pub bits_after : Bits → ActionInstance → Bits
bits_after bits action n =
    list_any (nat_eq n) action.adds || (bits n && not (list_any (nat_eq n) action.deletes))

-- the bits say of each of these atoms whether it holds
abbrev pub Packs : List GroundAtom → Facts → Bits → Type 0
Packs atoms state bits =
    (fact : GroundAtom) (n : ℕ) → number_in fact atoms ≡ Some n → bits n ≡ state fact

-- an atom of a static predicate holds if it does at first
abbrev pub KeepsStatics : Lifted → Facts → Type 0
KeepsStatics lifted state =
    (fact : GroundAtom) → is_fluent lifted fact.predicate ≡ false
    → state fact ≡ is_initial lifted fact

-- each of a schema's atoms that is fluent becomes one of these atoms
abbrev pub AreNumbered : Lifted → List GroundAtom → List ℕ → List LiftedAtom → Type 0
AreNumbered lifted atoms given [] = Unit {0}
AreNumbered lifted atoms given (a ∷ list) =
    (is_fluent lifted a.predicate ≡ true → is_some (number_in (grounded given a) atoms) ≡ true)
    × AreNumbered lifted atoms given list

-- the same of those that are kept
abbrev pub KeptAreNumbered : Lifted → (kept : Facts) → List GroundAtom → List ℕ → List LiftedAtom
    → Type 0
KeptAreNumbered lifted kept atoms given [] = Unit {0}
KeptAreNumbered lifted kept atoms given (a ∷ list) =
    (is_fluent lifted a.predicate ≡ true → kept (grounded given a) ≡ true
    → is_some (number_in (grounded given a) atoms) ≡ true)
    × KeptAreNumbered lifted kept atoms given list

-- the step of a schema for these objects, by atoms and by their numbers
pub record KeptCorresponds (kept : Facts) (atoms : List GroundAtom) (state : Facts) (bits : Bits)
    (i : ℕ) (schema : Schema) (given : List ℕ) : Type 0 where
  -- its preconditions hold if they are kept and the atoms that it needs hold
  pub applicable : list_all state (all_grounded given schema.pre)
      ≡ (list_all kept (all_grounded given schema.pre) && list_all bits
      (action_of atoms i schema given).needs)
  -- and it leads to the same state
  pub result : Packs atoms (facts_after state (all_grounded given schema.deletes)
      (all_grounded given schema.adds)) (bits_after bits (action_of atoms i schema given))

-- The same if all atoms are kept: its preconditions hold if its static ones hold at first and the
-- atoms that it needs hold.
abbrev pub Corresponds : Lifted → List GroundAtom → Facts → Bits → ℕ → Schema → List ℕ → Type 0
Corresponds lifted atoms state bits i schema given =
    KeptCorresponds (keep_all lifted) atoms state bits i schema given

-- Steps by atoms and by numbers are the same, in both directions.
abbrev pub StepsCorrespond : Type 0
StepsCorrespond =
    (lifted : Lifted) (atoms : List GroundAtom) (state : Facts) (bits : Bits) (i : ℕ)
    (schema : Schema) (given : List ℕ) → Packs atoms state bits → KeepsStatics lifted state
    → AreNumbered lifted atoms given schema.pre → Corresponds lifted atoms state bits i schema given

-- A step changes no atom of a static predicate.
abbrev pub StaticsAreKept : Type 0
StaticsAreKept =
    (lifted : Lifted) (state : Facts) (i : ℕ) (schema : Schema) (given : List ℕ)
    → slice_get lifted.actions i ≡ Some schema → KeepsStatics lifted state
    → KeepsStatics lifted (facts_after state (all_grounded given schema.deletes)
    (all_grounded given schema.adds))
