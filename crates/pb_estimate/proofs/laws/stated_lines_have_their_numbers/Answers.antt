use Rattle.pb_estimate.proofs.StatedLines.{stated_lines_have_their_numbers}
use Rattle.pb_estimate.proofs.laws.stated_lines_have_their_numbers.Goals as goal

pub returns : goal.returns
returns c = stated_lines_have_their_numbers
