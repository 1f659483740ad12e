use Rattle.std.proofs.Common.{◌≡◌, ◌-◌, ◌*◌, ◌/◌, ◌^◌, length, take, drop}
use Rattle.pb_packed.specs.Digits.{hex_digits}
use Rattle.pb_packed.specs.Sizes.{most_digits}
use Rattle.pb_packed.proofs.packed.Packed.hex.Given as goal

abbrev pub invariant-loop-i : goal.invariant-loop-i
invariant-loop-i l = record {
  size : length l.out ≡ most_digits;
  digits_so_far : take l.i l.out ≡ hex_digits l.i (l.self / 2 ^ (4 * (l.digits - l.i)));
  rest : drop l.digits l.out ≡ drop l.digits l.initial.out;
}
