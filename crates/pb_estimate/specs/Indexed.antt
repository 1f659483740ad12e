-- The actions of a STRIPS task, each listed under an atom that it needs. The candidates in a state
-- are those listed under its atoms, and those that need none (M. Helmert, "The Fast Downward
-- planning system", 2006).
use Rattle.std.specs.Prelude.{◌≡◌, ℕ, ◌+◌, ◌*◌, ◌<◌, ◌≤◌, true, ⊤, Option, None, Some, List, [], length, All, Contains, slice_index_or}
use Rattle.pb_task.specs.declared.parts.StripsParts.{StripsParts}
use Rattle.pb_task.specs.declared.parts.TaskParts.{TaskParts}
use Rattle.pb_task.specs.declared.parts.TaskParts.TheVariants.{Grid, Tiles, Strips}
use Rattle.pb_task.specs.Strips.{action_at, has_atom}
use Rattle.pb_estimate.specs.declared.action_index.ActionIndex.{ActionIndex}

-- An action is listed under an atom that it needs, or in the list behind those of the atoms.
pub record IsListed (strips : StripsParts) (lists : List (List ℕ)) (action : ℕ) : Type 0 where
  pub atom : ℕ
  pub most : atom ≤ strips.atoms
  pub needed : atom < strips.atoms → has_atom (action_at strips.actions action).needs atom ≡ true
  pub among : Contains (slice_index_or lists atom []) action

-- A list for each atom and one more. They have only actions of the task, and each of the first
-- `count` actions is listed.
pub record AreListed (strips : StripsParts) (count : ℕ) (lists : List (List ℕ)) : Type 0 where
  pub many : length lists ≡ strips.atoms + 1
  pub inside : (atom : ℕ) → All (λ action. action < length strips.actions)
      (slice_index_or lists atom [])
  pub listed : (action : ℕ) → action < count → IsListed strips lists action

-- An index of a task's actions: each is listed, and there is room for a mark for each.
pub record IsIndex (strips : StripsParts) (index : ActionIndex) : Type 0 where
  pub lists : AreListed strips (length strips.actions) index.lists
  pub marks : length strips.actions ≤ 64 * length index.marks.items

-- the index, if there is one, is of the task
abbrev pub HasIndex : TaskParts → Option ActionIndex → Type 0
HasIndex task None = ⊤
HasIndex (Strips strips) (Some index) = IsIndex strips index
HasIndex (Grid grid) (Some index) = ⊥
HasIndex (Tiles tiles) (Some index) = ⊥
