use Rattle.std.proofs.Common.{◌≡◌, ◌+◌, drop}
use Rattle.pb_lines.specs.Words.{place_of}
use Rattle.pb_lines.proofs.words.place_of.Given as goal

abbrev pub invariant-loop-b : goal.invariant-loop-b
invariant-loop-b l = record {
  place : l.place ≡ l.b-index;
  so_far : place_of l.byte l.text ≡ l.b-index + place_of l.byte (drop l.b-index l.text);
}
