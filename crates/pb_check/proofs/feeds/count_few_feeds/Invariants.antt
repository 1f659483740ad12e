use Rattle.std.proofs.Common.{◌≡◌, ◌+◌, drop}
use Rattle.pb_lines.specs.Words.{line_feeds}
use Rattle.pb_check.proofs.feeds.count_few_feeds.Given as goal

-- what is counted so far, and the line feeds of what is left
abbrev pub invariant-loop-byte : goal.invariant-loop-byte
invariant-loop-byte l = l.count + line_feeds (drop l.byte-index l.text) ≡ line_feeds l.text
