use Rattle.std.proofs.Common.{◌≡◌, ◌+◌, drop}
use Rattle.pb_pddl.specs.Tokens.{run_len}
use Rattle.pb_tokens.proofs.bytes.run_len.Given as goal

abbrev pub invariant-loop-byte : goal.invariant-loop-byte
invariant-loop-byte l = record {
  count : l.count ≡ l.byte-index;
  run : l.byte-index + run_len (drop l.byte-index l.text) ≡ run_len l.text;
}
