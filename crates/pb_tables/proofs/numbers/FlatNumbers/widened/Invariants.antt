use Rattle.std.proofs.Common.{◌≡◌, take}
use Rattle.pb_tables.proofs.numbers.FlatNumbers.widened.Given as goal

abbrev pub invariant-loop-i : goal.invariant-loop-i
invariant-loop-i l = record {
  numbers : l.wider.numbers ≡ take l.i l.self.numbers;
  width : l.wider.width ≡ l.width;
}
