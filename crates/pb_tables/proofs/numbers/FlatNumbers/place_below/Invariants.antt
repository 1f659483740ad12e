use Rattle.std.proofs.Common.{◌≤◌}
use Rattle.pb_packed.specs.Words.{number_of}
use Rattle.pb_tables.specs.Flat.{AreGreater}
use Rattle.pb_tables.proofs.numbers.FlatNumbers.place_below.Given as goal

abbrev pub invariant-loop-high : goal.invariant-loop-high
invariant-loop-high l = record {
  to : l.high ≤ l.end;
  above : AreGreater l.high l.self.numbers (number_of l.other);
}

abbrev pub decreases-loop-high : goal.decreases-loop-high
decreases-loop-high l = l.high
