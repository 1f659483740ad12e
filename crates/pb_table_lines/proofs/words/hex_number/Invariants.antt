use Rattle.std.proofs.Common.{◌≡◌, ◌<◌, ◌^◌, drop}
use Rattle.pb_table_lines.specs.Words.{hex_after}
use Rattle.pb_table_lines.proofs.words.hex_number.Given as goal

abbrev pub invariant-loop-byte : goal.invariant-loop-byte
invariant-loop-byte l = record {
  small : l.number < 16 ^ l.byte-index;
  so_far : hex_after 0 l.digits ≡ hex_after l.number (drop l.byte-index l.digits);
}
