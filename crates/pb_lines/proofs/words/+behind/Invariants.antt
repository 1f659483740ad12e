use Rattle.std.proofs.Common.{length}
use Rattle.pb_lines.proofs.words.+behind.Given as goal

abbrev pub decreases-behind : goal.decreases-behind
decreases-behind l = length l.text.now
