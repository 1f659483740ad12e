use Rattle.std.proofs.Common.{◌≤◌, length, arith}
use Rattle.pb_packed.proofs.DigitLaws.{are_digits, are_digits_if_read}
use Rattle.pb_packed.proofs.packed.Packed.of_hex.Goals as goal

pub returns-in-Some-clause-digits : goal.returns-in-Some-clause-digits
returns-in-Some-clause-digits c = (omega (arith, c.if-digits-eq0.false), c.if-digits-gt-MOST_DIGITS.false, are_digits c.args.digits.now c.in-Some.word c.in-Some.ensures.some)

pub returns-else-digits-le16-clause-digits : goal.returns-else-digits-le16-clause-digits
returns-else-digits-le16-clause-digits c =
    are_digits_if_read c.args.digits.now c.number_spelled.result c.number_spelled.ensures.some
    (omega (arith, c.if-digits-eq0.false)) c.if-digits-gt-MOST_DIGITS.false
