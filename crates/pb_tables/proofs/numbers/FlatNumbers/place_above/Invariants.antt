use Rattle.std.proofs.Common.{◌≤◌, ◌-◌, length}
use Rattle.pb_packed.specs.Words.{number_of}
use Rattle.pb_tables.specs.Flat.{AreLess}
use Rattle.pb_tables.proofs.numbers.FlatNumbers.place_above.Given as goal

abbrev pub invariant-loop-low : goal.invariant-loop-low
invariant-loop-low l = record {
  from : l.first ≤ l.low;
  inside : l.low ≤ length l.self.numbers;
  below : AreLess l.low l.self.numbers (number_of l.other);
}

abbrev pub decreases-loop-low : goal.decreases-loop-low
decreases-loop-low l = length l.self.numbers - l.low
