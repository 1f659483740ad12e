-- Actions that need the same and cost the same, merged into one. Such actions act at the same
-- moment if nothing is deleted, so hmax doesn't change.
use Rattle.std.specs.Prelude.{◌≡◌, ℕ, ◌<◌, ◌≤◌, ◌^◌, ◌⊎◌, true, List, length, Contains, slice_index_or}
use Rattle.pb_task.specs.declared.parts.GroundAction.{GroundAction}
use Rattle.pb_task.specs.Strips.{has_atom}
use Rattle.pb_estimate.specs.declared.merging.MergedAction.{MergedAction}

abbrev pub merged_at : List MergedAction → (number : ℕ) → MergedAction
merged_at merged number = slice_index_or merged number (record { needs = 0; adds = 0; cost = 1 })

-- one of the actions adds the atom, and needs and costs what the merged action does
pub record IsMergedFrom (actions : List GroundAction) (merged : MergedAction) (atom : ℕ)
    : Type 0 where
  pub action : GroundAction
  pub among : Contains actions action
  pub adds : has_atom action.adds atom ≡ true
  pub needs : action.needs ≡ merged.needs
  pub cost : action.cost ≡ merged.cost

-- one of the merged actions adds the atom, and needs and costs what the action does
pub record IsMergedInto (merged : List MergedAction) (action : GroundAction) (atom : ℕ)
    : Type 0 where
  pub place : ℕ
  pub inside : place < length merged
  pub adds : has_atom (merged_at merged place).adds atom ≡ true
  pub needs : (merged_at merged place).needs ≡ action.needs
  pub cost : (merged_at merged place).cost ≡ action.cost

-- Merged actions stand for actions over `count` atoms. What one of them adds, an action adds that
-- needs and costs the same. What an action adds and doesn't need, one of them adds that needs and
-- costs the same. And none of them costs more than an action may.
pub record StandFor (count : ℕ) (actions : List GroundAction) (merged : List MergedAction)
    : Type 0 where
  pub sound : (number : ℕ) → number < length merged → (atom : ℕ) → atom < count
      → has_atom (merged_at merged number).adds atom ≡ true
      → IsMergedFrom actions (merged_at merged number) atom
  pub all : (action : GroundAction) → Contains actions action → (atom : ℕ) → atom < count
      → has_atom action.adds atom ≡ true
      → (has_atom action.needs atom ≡ true) ⊎ IsMergedInto merged action atom
  pub cheap : (number : ℕ) → number < length merged → (merged_at merged number).cost ≤ 2 ^ 20
