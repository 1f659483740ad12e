-- Blocks of STRIPS tasks: the states in which the same of a few tracked atoms hold. The tracked
-- atoms are those that the fewest actions change. The abstract graph is the task itself with all
-- other atoms left out, as in R. Zhou and E. A. Hansen, "Domain-independent structured duplicate
-- detection" (AAAI 2006).
use Rattle.std.specs.Prelude.{◌≢◌, ℕ, suc, ◌+◌, ◌*◌, ◌^◌, ◌<◌, ◌≤◌, Bool, IsTrue, List, [], ◌∷◌, length, map, All, ◌⊎◌, ◌==◌, ◌&&◌, ◌||◌, nat_lt}
use Rattle.pb_packed.specs.Bits.{bit_number}
use Rattle.pb_model.specs.Space.{Steps}
use Rattle.pb_machine.specs.Tables.{one_if}
use Rattle.pb_task.specs.declared.parts.GroundAction.{GroundAction}
use Rattle.pb_task.specs.declared.parts.StripsParts.{StripsParts}
use Rattle.pb_task.specs.Strips.{has_atom, strips_space}

-- ---- which atoms are tracked

-- an action adds or deletes the atom
abbrev pub changes : (atom : ℕ) → GroundAction → Bool
changes atom action = has_atom action.adds atom || has_atom action.deletes atom

-- how many of the actions add or delete the atom
abbrev pub changers : (atom : ℕ) → List GroundAction → ℕ
changers atom [] = 0
changers atom (action ∷ actions) = one_if (changes atom action) + changers atom actions

-- an atom of the task that some action changes
abbrev pub is_changed : StripsParts → (atom : ℕ) → Bool
is_changed strips atom = nat_lt atom strips.atoms && nat_lt 0 (changers atom strips.actions)

-- an atom comes before another: fewer actions change it, or as many, and its number is less
abbrev pub comes_before : StripsParts → (one other : ℕ) → Bool
comes_before strips one other =
    nat_lt (changers one strips.actions) (changers other strips.actions)
    || (changers one strips.actions == changers other strips.actions && nat_lt one other)

-- each atom of the list comes before all later ones
abbrev pub AreInOrder : StripsParts → List ℕ → Type 0
AreInOrder strips [] = Unit {0}
AreInOrder strips (atom ∷ atoms) =
    All (λ other. IsTrue (comes_before strips atom other)) atoms × AreInOrder strips atoms

-- The tracked atoms are changed atoms in order, and each of them comes before every other changed
-- atom. They are as many as there can be: one more would make more than `wish` blocks, or all
-- changed atoms are tracked.
pub record AreTracked (strips : StripsParts) (wish : ℕ) (atoms : List ℕ) : Type 0 where
  pub changed : All (λ atom. IsTrue (is_changed strips atom)) atoms
  pub order : AreInOrder strips atoms
  pub first : (other : ℕ) → IsTrue (is_changed strips other) → All (λ atom. atom ≢ other) atoms
      → All (λ atom. IsTrue (comes_before strips atom other)) atoms
  pub few : 2 ^ length atoms ≤ wish
  pub most : (wish < 2 ^ suc (length atoms)) ⊎ ((other : ℕ) → IsTrue (is_changed strips other)
      → All (λ atom. atom ≢ other) atoms → ⊥)

-- ---- blocks and edges

-- the numbers of a list are all different
abbrev pub AreDifferent : List ℕ → Type 0
AreDifferent [] = Unit {0}
AreDifferent (atom ∷ atoms) = All (λ other. other ≢ atom) atoms × AreDifferent atoms

-- at most 12 different atoms of the task
pub record AreAtoms (strips : StripsParts) (atoms : List ℕ) : Type 0 where
  pub few : length atoms ≤ 12
  pub below : All (λ atom. atom < strips.atoms) atoms
  pub different : AreDifferent atoms

-- those of the tracked atoms that are in a set: the first is the least bit
abbrev pub tracked_set : (atoms : List ℕ) → (set : ℕ) → ℕ
tracked_set [] set = 0
tracked_set (atom ∷ atoms) set = bit_number (has_atom set atom) + 2 * tracked_set atoms set

-- an action with all other atoms left out
abbrev pub tracked_action : (atoms : List ℕ) → GroundAction → GroundAction
tracked_action atoms action = record {
  name = action.name;
  needs = tracked_set atoms action.needs;
  adds = tracked_set atoms action.adds;
  deletes = tracked_set atoms action.deletes;
  cost = action.cost;
}

-- the task with all other atoms left out
abbrev pub tracked_task : (atoms : List ℕ) → StripsParts → StripsParts
tracked_task atoms strips = record {
  atoms = length atoms;
  actions = map (tracked_action atoms) strips.actions;
  start = tracked_set atoms strips.start;
  goal = tracked_set atoms strips.goal;
  never = strips.never;
  grounding = strips.grounding;
}

-- a step of that task leads from the one block to the other
pub record IsTrackedEdge (strips : StripsParts) (atoms : List ℕ) (block other : ℕ) : Type 0 where
  pub action : ℕ
  pub cost : ℕ
  pub steps : Steps (strips_space (tracked_task atoms strips)) block action other cost
