use Rattle.std.proofs.Common.{◌≡◌, ◌<◌, ◌^◌, take}
use Rattle.pb_lines.specs.ShortNumbers.{value_behind}
use Rattle.pb_lines.proofs.short_numbers.value_of.Given as goal

abbrev pub invariant-loop-digit : goal.invariant-loop-digit
invariant-loop-digit l = record {
  value : l.value ≡ value_behind 0 (take l.digit-index l.digits);
  small : l.value < 10 ^ l.digit-index;
}
