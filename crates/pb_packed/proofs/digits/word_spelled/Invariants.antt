use Rattle.std.proofs.Common.{◌≡◌, ◌*◌, ◌^◌, ◌<◌, take}
use Rattle.pb_packed.specs.Digits.{hex_digits}
use Rattle.pb_packed.proofs.digits.word_spelled.Given as goal

abbrev pub invariant-loop-i : goal.invariant-loop-i
invariant-loop-i l = record { digits_so_far : take l.i l.digits ≡ hex_digits l.i l.word; small : l.word < 2 ^ (4 * l.i) }
