use Rattle.std.proofs.Common.{◌≡◌, ◌+◌, length}
use Rattle.pb_lines.specs.Words.{line_feeds}
use Rattle.pb_check.proofs.feeds.count_feeds.Given as goal

-- what is counted so far, and the line feeds of what is left
abbrev pub invariant-loop-rest : goal.invariant-loop-rest
invariant-loop-rest l = l.count + line_feeds l.rest ≡ line_feeds l.text

abbrev pub decreases-loop-rest : goal.decreases-loop-rest
decreases-loop-rest l = length l.rest
