use Rattle.pb_lines.proofs.ShortNumbers.{short_numbers_are_digits}
use Rattle.pb_lines.proofs.laws.short_numbers_are_digits.Goals as goal

pub returns : goal.returns
returns c = short_numbers_are_digits
