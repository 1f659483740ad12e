use Rattle.std.proofs.Common.{◌≡◌, ◌*◌, ◌-◌, ◌/◌, ◌^◌, ◌<◌, take, length}
use Rattle.pb_packed.specs.Digits.{hex_digits}
use Rattle.pb_packed.proofs.digits.number_spelled.Given as goal

abbrev pub invariant-loop-i : goal.invariant-loop-i
invariant-loop-i l = record {
  digits_so_far : take l.i l.digits ≡ hex_digits l.i (l.number / 2 ^ (4 * (length l.digits - l.i)));
  small : l.number / 2 ^ (4 * (length l.digits - l.i)) < 2 ^ (4 * l.i);
  placed : l.number ≡ l.number / 2 ^ (4 * (length l.digits - l.i)) * 2 ^ (4 * (length l.digits - l.i));
}
