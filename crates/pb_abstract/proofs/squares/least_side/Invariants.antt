use Rattle.std.proofs.Common.{◌-◌, ◌<◌, ◌≤◌, ℕ}
use Rattle.pb_abstract.specs.Squares.{square_count}
use Rattle.pb_abstract.proofs.squares.least_side.Given as goal

abbrev pub invariant-loop-side : goal.invariant-loop-side
invariant-loop-side l = record {
  positive : 1 ≤ l.side;
  small : l.side ≤ 2048;
  least : (other : ℕ) → 1 ≤ other → other < l.side → l.wish < square_count l.grid other;
}

abbrev pub decreases-loop-side : goal.decreases-loop-side
decreases-loop-side l = 2048 - l.side
