use Rattle.std.proofs.Common.{◌≡◌, ℕ, length}
use Rattle.pb_model.specs.Weight.{Weight}
use Rattle.pb_bundles.specs.Reopened.{AreReady, adopted}
use Rattle.pb_bundles.proofs.reopening.adopt_all.Given as goal

abbrev pub invariant-sets : goal.invariant-sets
invariant-sets l = record {
  ready : (weight : Weight) × (bound : ℕ) × AreReady weight bound l.bundles.items l.rest.items;
  same : adopted l.bundles.items l.rest.items ≡ adopted l.initial.bundles.items l.initial.rest.items;
}

abbrev pub decreases-sets : goal.decreases-sets
decreases-sets l = length l.rest.items
