use Rattle.std.proofs.Common.{◌≤◌, ◌-◌, length}
use Rattle.pb_packed.specs.Words.{number_of}
use Rattle.pb_tables.specs.Flat.{AreLess, AreGreater}
use Rattle.pb_tables.proofs.numbers.FlatNumbers.place_between.Given as goal

abbrev pub invariant-loop-low : goal.invariant-loop-low
invariant-loop-low l = record {
  inside : l.high ≤ length l.self.numbers;
  below : AreLess l.low l.self.numbers (number_of l.other);
  above : AreGreater l.high l.self.numbers (number_of l.other);
}

abbrev pub decreases-loop-low : goal.decreases-loop-low
decreases-loop-low l = l.high - l.low
