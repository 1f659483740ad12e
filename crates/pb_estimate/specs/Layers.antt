-- The atoms of a state in layers, for tasks whose actions each cost 1: an atom's layer is what it
-- costs. A queue has the atoms that were reached, layer by layer.
use Rattle.std.specs.Prelude.{◌≡◌, ℕ, zero, suc, ◌<◌, ◌≤◌, ◌↔◌, ◌⊎◌, Bool, true, false, not, ◌&&◌, ◌||◌, ◌==◌, List, [], length, All, Contains, slice_index, slice_index_or}
use Rattle.pb_packed.specs.Sizes.{most_atoms}
use Rattle.pb_estimate.specs.declared.layers.Layers.{Layers}
use Rattle.pb_estimate.specs.declared.relaxed.RelaxedTask.{RelaxedTask}
use Rattle.pb_estimate.specs.Exploring.{count}
use Rattle.pb_estimate.specs.Relaxed.{RelaxedAction}

-- whether an atom is at one of the first places of a queue
abbrev pub is_among : (queue : List ℕ) → (first atom : ℕ) → Bool
is_among queue zero atom = false
is_among queue (suc k) atom = (slice_index queue k == atom) || is_among queue k atom

abbrev pub is_in : (flags : List Bool) → (atom : ℕ) → Bool
is_in flags atom = slice_index_or flags atom false

-- The first places of the queue have exactly the atoms that are marked, each once. So many atoms of
-- the goal aren't marked.
pub record AreReached (goal marks : List Bool) (queue : List ℕ) (reached wanted : ℕ) : Type 0 where
  pub few : length goal ≤ most_atoms
  pub flags : length marks ≡ length goal
  pub places : length queue ≡ length goal
  pub marked : (atom : ℕ) → atom < length goal → is_in marks atom ≡ is_among queue reached atom
  pub many : reached ≡ count (is_in marks) (length goal)
  pub inside : (k : ℕ) → k < reached → slice_index queue k < length goal
  pub once : (k : ℕ) → k < reached → is_among queue k (slice_index queue k) ≡ false
  pub missing : wanted ≡ count (λ atom. is_in goal atom && not (is_in marks atom)) (length goal)

abbrev pub AreLayers : (goal : List Bool) → Layers → Type 0
AreLayers goal layers =
    AreReached goal layers.marks.items layers.queue.items layers.reached layers.wanted

abbrev pub is_reached : Layers → (atom : ℕ) → Bool
is_reached layers atom = is_in layers.marks.items atom

-- there is a place and a mark for each of so many atoms
pub record HaveRoom (atoms : ℕ) (layers : Layers) : Type 0 where
  pub marks : length layers.marks.items ≡ atoms
  pub places : length layers.queue.items ≡ atoms

-- what was reached keeps its place
abbrev pub KeepPlaces : (before after : Layers) → Type 0
KeepPlaces before after =
    (before.reached ≤ after.reached) × ((k : ℕ) → k < before.reached
    → slice_index after.queue.items k ≡ slice_index before.queue.items k)

-- these atoms were reached, and no others
abbrev pub AreAdded : (atoms : List ℕ) → (before after : Layers) → Type 0
AreAdded atoms before after =
    (atom : ℕ) → (is_reached after atom ≡ true)
    ↔ ((is_reached before atom ≡ true) ⊎ Contains atoms atom)

abbrev pub CostOne : List RelaxedAction → Type 0
CostOne actions = All (λ action. action.cost ≡ 1) actions

-- each action costs 1 and needs an atom
abbrev pub IsLayered : RelaxedTask → Type 0
IsLayered task = CostOne task.actions × (task.free ≡ [])
