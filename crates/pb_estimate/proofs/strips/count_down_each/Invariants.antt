use Rattle.std.proofs.Common.{◌≡◌, ℕ, ◌+◌, ◌⊎◌, length, get_or, take, All, Contains}
use Rattle.pb_estimate.specs.Hmax.{IsAtMost}
use Rattle.pb_estimate.specs.Exploring.{cost_in, AreNoLess, HaveSameFinals, IsExploration}
use Rattle.pb_estimate.specs.Relaxed.{relaxed_at}
use Rattle.pb_estimate.specs.Tables.{IsAddedBy}
use Rattle.pb_estimate.proofs.strips.count_down_each.Given as goal

abbrev pub invariant-loop-user : goal.invariant-loop-user
invariant-loop-user l = record {
  is : IsExploration l.exploration;
  long : length l.exploration.costs.items ≡ length l.initial.exploration.costs.items;
  counted : All (λ user. get_or l.counts user 0 + 1 ≡ get_or l.initial.counts user 0) (take l.user-index l.users);
  others : (user : ℕ) → (Contains (take l.user-index l.users) user → ⊥) → get_or l.counts user 0 ≡ get_or l.initial.counts user 0;
  finals : HaveSameFinals l.initial.exploration.costs.items l.exploration.costs.items;
  falls : AreNoLess (cost_in l.initial.exploration.costs.items) (cost_in l.exploration.costs.items);
  reaches : All (λ user. get_or l.counts user 0 ≡ 0
      → All (λ atom. IsAtMost (cost_in l.exploration.costs.items atom) (l.level + (relaxed_at l.actions user).cost)) (relaxed_at l.actions user).adds) (take l.user-index l.users);
  only : (atom cost : ℕ) → IsAtMost (cost_in l.exploration.costs.items atom) cost
      → IsAtMost (cost_in l.initial.exploration.costs.items atom) cost ⊎ ((user : ℕ) × Contains (take l.user-index l.users) user × IsAddedBy l.actions l.level l.counts user atom cost);
}
