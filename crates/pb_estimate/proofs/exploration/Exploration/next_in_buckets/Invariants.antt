use Rattle.std.proofs.Common.{◌≡◌, ℕ, ◌+◌, ◌%◌, ◌<◌, false}
use Rattle.pb_estimate.specs.declared.exploration.AtomCost.TheVariants.{Open}
use Rattle.pb_estimate.specs.Exploring.{known_in, IsExploration}
use Rattle.pb_estimate.proofs.exploration.Exploration.next_in_buckets.Given as goal

abbrev pub invariant-loop-step : goal.invariant-loop-step
invariant-loop-step l = record {
  is : IsExploration l.self;
  same : l.self.costs.items ≡ l.initial.self.costs.items;
  all : l.self.buckets.is_lost ≡ false;
  none : (step : ℕ) → step < l.step → (atom cost : ℕ) → known_in l.initial.self.costs.items atom ≡ Open cost → cost % 64 ≡ (l.level + step) % 64 → ⊥;
}
