use Rattle.std.proofs.Common.{◌≡◌, ◌<◌, ◌≤◌, ◌-◌, ℕ, ◌∷◌, length}
use Rattle.std.specs.declared.cmp.Ordering.TheVariants.{Less, Greater}
use Rattle.pb_ground.specs.Order.{row_in}
use Rattle.pb_ground.proofs.Sorted.{rows_cmp}
use Rattle.pb_ground.proofs.atoms.Atoms.number.Given as goal

-- the atoms before the window are too low, and those behind it too high
abbrev pub invariant-loop-low : goal.invariant-loop-low
invariant-loop-low l = record {
  inside : l.high ≤ length l.self;
  before : (k : ℕ) → k < l.low → rows_cmp (row_in l.self k) (l.predicate ∷ l.objects) ≡ Less;
  behind : (k : ℕ) → l.high ≤ k → k < length l.self → rows_cmp (row_in l.self k) (l.predicate ∷ l.objects) ≡ Greater;
}

abbrev pub decreases-loop-low : goal.decreases-loop-low
decreases-loop-low l = l.high - l.low
