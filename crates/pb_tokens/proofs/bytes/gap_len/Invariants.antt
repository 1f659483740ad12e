use Rattle.std.proofs.Common.{◌≡◌, ◌+◌, drop, false}
use Rattle.pb_pddl.specs.Tokens.{gap_len}
use Rattle.pb_tokens.proofs.bytes.gap_len.Given as goal

abbrev pub invariant-loop-byte : goal.invariant-loop-byte
invariant-loop-byte l = record {
  count : l.count ≡ l.byte-index;
  gap : l.byte-index + gap_len l.comment (drop l.byte-index l.text) ≡ gap_len false l.text;
}
