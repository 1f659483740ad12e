use Rattle.std.proofs.Common.{◌≡◌, ◌+◌, ◌≤◌, drop}
use Rattle.pb_lines.specs.Words.{line_feeds}
use Rattle.pb_cert.proofs.rewriting.count_lines.Given as goal

abbrev pub invariant-bytes : goal.invariant-bytes
invariant-bytes l = record {
  so_far : l.count + line_feeds (drop l.byte-index l.bytes) ≡ line_feeds l.bytes;
  few : l.count ≤ l.byte-index;
}
