use Rattle.std.proofs.Common.{◌≡◌, ℕ, ◌<◌, None, length, get_or}
use Rattle.pb_grid.specs.Reading.{class_of_byte}
use Rattle.pb_grid.proofs.classes.ClassTable.new.Given as goal

abbrev pub invariant-loop-byte : goal.invariant-loop-byte
invariant-loop-byte l = record {
  long : length l.classes ≡ 256;
  known : (k : ℕ) → k < l.byte → get_or l.classes k None ≡ class_of_byte k;
}
