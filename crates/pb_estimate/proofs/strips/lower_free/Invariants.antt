use Rattle.std.proofs.Common.{◌≡◌, ℕ, ◌⊎◌, length, take, All, Contains}
use Rattle.pb_estimate.specs.Hmax.{IsAtMost}
use Rattle.pb_estimate.specs.Exploring.{cost_in, AreNoLess, HaveSameFinals, IsExploration}
use Rattle.pb_estimate.specs.Relaxed.{relaxed_at}
use Rattle.pb_estimate.specs.Tables.{AddsAt}
use Rattle.pb_estimate.proofs.strips.lower_free.Given as goal

abbrev pub invariant-loop-user : goal.invariant-loop-user
invariant-loop-user l = record {
  is : IsExploration l.exploration;
  long : length l.exploration.costs.items ≡ length l.initial.exploration.costs.items;
  finals : HaveSameFinals l.initial.exploration.costs.items l.exploration.costs.items;
  falls : AreNoLess (cost_in l.initial.exploration.costs.items) (cost_in l.exploration.costs.items);
  reaches : All (λ user. All (λ atom. IsAtMost (cost_in l.exploration.costs.items atom) (relaxed_at l.actions user).cost) (relaxed_at l.actions user).adds) (take l.user-index l.free);
  only : (atom cost : ℕ) → IsAtMost (cost_in l.exploration.costs.items atom) cost
      → IsAtMost (cost_in l.initial.exploration.costs.items atom) cost ⊎ ((user : ℕ) × Contains (take l.user-index l.free) user × AddsAt (relaxed_at l.actions user) 0 atom cost);
}
