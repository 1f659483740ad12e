use Rattle.std.proofs.Common.{length}
use Rattle.pb_lines.proofs.words.+digits.Given as goal

abbrev pub decreases-digits : goal.decreases-digits
decreases-digits l = length l.word.now
