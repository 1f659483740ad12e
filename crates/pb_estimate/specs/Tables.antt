-- What the estimator of a task keeps. A further kind of task is one case more, and so is a further
-- choice of an estimate.
use Rattle.std.specs.Prelude.{◌≡◌, ℕ, zero, suc, ◌+◌, ◌*◌, ◌<◌, ◌≤◌, ◌^◌, ◌↔◌, true, false, ⊤, Option, None, Some, List, [], ◌∷◌, ◌++◌, map, length, All, Contains, slice_index, slice_index_or, if◌then◌else◌}
use Rattle.pb_task.specs.declared.parts.GroundAction.{GroundAction}
use Rattle.pb_task.specs.declared.parts.StripsParts.{StripsParts}
use Rattle.pb_task.specs.declared.parts.TaskParts.{TaskParts}
use Rattle.pb_task.specs.declared.parts.TaskParts.TheVariants as parts
use Rattle.pb_task.specs.Strips.{has_atom}
use Rattle.pb_tables.specs.Tables.{TablesValue}
use Rattle.pb_estimate.specs.Choices.{Choice, Plain, Pattern, Tables, tables_of}
use Rattle.pb_pattern.specs.Tables.{TableValue, IsOfTask as IsTableOf}
use Rattle.pb_estimate.specs.Estimates.{way_home, tables_suit}
use Rattle.pb_estimate.specs.Hmax.{IsAtMost}
use Rattle.pb_estimate.specs.Exploring.{count, cost_in, IsExploration}
use Rattle.pb_estimate.specs.declared.exploration.AtomCost.{AtomCost}
use Rattle.pb_estimate.specs.Layers.{HaveRoom, IsLayered}
use Rattle.pb_estimate.specs.declared.merging.MergedAction.{MergedAction}
use Rattle.pb_estimate.specs.Merged.{merged_at, StandFor}
use Rattle.pb_estimate.specs.Relaxed.{RelaxedAction, relaxed_at}
use Rattle.pb_estimate.specs.declared.relaxed.RelaxedTask.{RelaxedTask}
use Rattle.pb_estimate.specs.declared.action_index.ActionIndex.{ActionIndex}
use Rattle.pb_estimate.specs.Indexed.{HasIndex}
use Rattle.pb_estimate.specs.declared.strips.Counters.{Counters}
use Rattle.pb_estimate.specs.declared.estimator.PlainTables.{PlainTables}
use Rattle.pb_estimate.specs.declared.estimator.PlainTables.TheVariants as plain

-- the distance of each number in each cell from its cell on the goal board: at 16 times the cell,
-- plus the number
abbrev pub AreWaysHome : (cols : ℕ) → (goal ways : List ℕ) → Type 0
AreWaysHome cols goal ways =
    (cell number : ℕ) → cell < 16 → number < 16 → slice_index ways (16 * cell + number)
    ≡ way_home cols goal cell number

-- ---- actions without what they delete

-- the numbers of those of the first `count` atoms that are in a set, in ascending order
abbrev pub atoms_in : (set count : ℕ) → List ℕ
atoms_in set zero = []
atoms_in set (suc atom) = atoms_in set atom ++ (if has_atom set atom then atom ∷ [] else [])

-- a merged action as what it adds and what it costs
abbrev pub relaxed_action : (count : ℕ) → MergedAction → RelaxedAction
relaxed_action count action = record { adds = atoms_in action.adds count; cost = action.cost }

-- an action adds atoms below `count`, and costs at most 2^20
pub record IsRelaxed (count : ℕ) (action : RelaxedAction) : Type 0 where
  pub adds : All (λ atom. atom < count) action.adds
  pub cost : action.cost ≤ 2 ^ 20

-- an action adds an atom, and this cost is enough for the atom if the atoms that the action needs
-- cost at most `level`
abbrev pub AddsAt : RelaxedAction → (level atom cost : ℕ) → Type 0
AddsAt action level atom cost = Contains action.adds atom × (level + action.cost ≤ cost)

-- what an action adds costs at most `level` plus the action's cost
abbrev pub AddsAtMost : RelaxedAction → (level : ℕ) → (costs : List AtomCost) → Type 0
AddsAtMost action level costs =
    All (λ atom. IsAtMost (cost_in costs atom) (level + action.cost)) action.adds

-- the counter of the action `user` is 0, the action adds the atom, and this cost is enough for the
-- atom at this level
abbrev pub IsAddedBy : List RelaxedAction → (level : ℕ) → (counts : List ℕ) → (user atom cost : ℕ)
    → Type 0
IsAddedBy actions level counts user atom cost =
    (slice_index counts user ≡ 0) × AddsAt (relaxed_at actions user) level atom cost

-- ---- who needs what

-- exactly the numbers of those actions that need an atom, in ascending order
pub record AreUsers (actions : List MergedAction) (atom : ℕ) (users : List ℕ) : Type 0 where
  pub need : All (λ user. (user < length actions)
      × (has_atom (merged_at actions user).needs atom ≡ true)) users
  pub all : (user : ℕ) → user < length actions → has_atom (merged_at actions user).needs atom ≡ true
      → Contains users user
  pub ascend : (j k : ℕ) → j < k → k < length users → slice_index users j < slice_index users k

-- all numbers of those actions that need none of the first `count` atoms, and no others
pub record AreFree (count : ℕ) (actions : List MergedAction) (free : List ℕ) : Type 0 where
  pub inside : All (λ user. user < length actions) free
  pub need : All (λ user. (atom : ℕ) → atom < count → has_atom (merged_at actions user).needs atom
      ≡ false) free
  pub all : (user : ℕ) → user < length actions
      → ((atom : ℕ) → atom < count → has_atom (merged_at actions user).needs atom ≡ false)
      → Contains free user

-- Merged actions over `count` atoms as relaxed ones, and for each atom the list of those that need
-- it.
pub record AreRelaxed (count : ℕ) (merged : List MergedAction) (lists : List (List ℕ))
    (task : RelaxedTask) : Type 0 where
  pub relaxed : task.actions ≡ map (relaxed_action count) merged
  pub needs : task.needs.items ≡ map (λ (action : MergedAction). length
      (atoms_in action.needs count)) merged
  pub many : length lists ≡ count
  pub users : (atom : ℕ) → atom < count → AreUsers merged atom (slice_index_or lists atom [])
  pub free : AreFree count merged task.free

-- The relaxed task of some actions over `count` atoms: it has merged actions that stand for them.
pub record IsRelaxation (count : ℕ) (actions : List GroundAction) (task : RelaxedTask)
    : Type 0 where
  pub merged : List MergedAction
  pub stand : StandFor count actions merged
  pub relaxed : AreRelaxed count merged task.users task

-- Which atoms the goal has, and how many.
pub record IsWanted (goal atoms : ℕ) (task : RelaxedTask) : Type 0 where
  pub long : length task.goal.items ≡ atoms
  pub flags : (atom : ℕ) → atom < atoms → slice_index_or task.goal.items atom false
      ≡ has_atom goal atom
  pub wanted : task.wanted ≡ count (has_atom goal) atoms

-- ---- estimators

-- The counters are of a task: the task's actions and goal, and room for a counter for each action,
-- and for a cost and a place in a layer for each atom.
pub record AreCounters (strips : StripsParts) (counters : Counters) : Type 0 where
  pub actions : IsRelaxation strips.atoms strips.actions counters.task
  pub goal : IsWanted strips.goal strips.atoms counters.task
  pub counts : length counters.counts.items ≡ length counters.task.needs.items
  pub costs : length counters.exploration.costs.items ≡ strips.atoms
  pub exploration : IsExploration counters.exploration
  pub layered : (counters.is_layered ≡ true) ↔ IsLayered counters.task
  pub layers : HaveRoom strips.atoms counters.layers

-- what contracts see of an estimator
pub record EstimatorValue : Type 0 where
  pub plain : PlainTables  -- what the plain estimates need
  pub table : Option TableValue  -- the table of patterns, if the choice needs one
  pub tables : Option TablesValue  -- the tables of the choice, if it has tables
  pub index : Option ActionIndex  -- the task's actions by the atoms that they need, if it has many

-- what the plain estimates of this task need is kept
unfoldable pub AreOfTask : PlainTables → TaskParts → Type 0
AreOfTask plain.Grid (parts.Grid grid) = Unit {0}
AreOfTask (plain.Tiles ways) (parts.Tiles tiles) = AreWaysHome tiles.cols tiles.goal ways
AreOfTask (plain.Strips counters) (parts.Strips strips) = AreCounters strips counters
AreOfTask tables task = ⊥

-- The table of patterns that estimates of a task by this choice look up: for a pattern the table of
-- the task that has the pattern's number, and none for another choice. Tables that are chosen suit
-- the task.
abbrev pub HasTable : TaskParts → Choice → Option TableValue → Type 0
HasTable task Plain None = ⊤
HasTable task Plain (Some table) = ⊥
HasTable task (Pattern number) None = ⊥
HasTable task (Pattern number) (Some table) =
    IsTableOf table task × (table.pattern ≡ number)
HasTable task (Tables tables) None = tables_suit task tables ≡ true
HasTable task (Tables tables) (Some table) = ⊥

-- An estimator is of this task and this choice: it keeps what these estimates need. What it keeps
-- beside that is its own matter.
unfoldable pub IsOfTask : EstimatorValue → TaskParts → Choice → Type 0
IsOfTask estimator task choice =
    AreOfTask estimator.plain task × HasTable task choice estimator.table
    × (estimator.tables ≡ tables_of choice) × HasIndex task estimator.index

-- an estimator is of this task, by some choice
abbrev pub IsOfSomeChoice : EstimatorValue → TaskParts → Type 0
IsOfSomeChoice estimator task = (choice : Choice) × IsOfTask estimator task choice
