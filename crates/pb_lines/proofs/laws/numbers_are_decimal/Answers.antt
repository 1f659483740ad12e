use Rattle.pb_lines.proofs.Joined.{numbers_are_decimal}
use Rattle.pb_lines.proofs.laws.numbers_are_decimal.Goals as goal

pub returns : goal.returns
returns c = numbers_are_decimal
