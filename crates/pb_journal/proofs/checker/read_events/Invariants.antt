use Rattle.std.proofs.Common.{◌≡◌, ◌≤◌, ◌+◌, length}
use Rattle.pb_abstract.specs.Graph.{blocks_of}
use Rattle.pb_journal.specs.Reading.{lines_in, tail_in}
use Rattle.pb_journal.specs.Judging.{after_lines}
use Rattle.pb_journal.specs.Replaying.{counts_of, IsLawfulReplay}
use Rattle.pb_journal.proofs.checker.read_events.Given as goal

abbrev pub invariant-lines : goal.invariant-lines
invariant-lines l = record {
  lawful : IsLawfulReplay (blocks_of l.graph) l.settings l.replay;
  so_far : after_lines (blocks_of l.graph) l.settings (counts_of l.fn.replay) 7 (lines_in l.text)
      ≡ after_lines (blocks_of l.graph) l.settings (counts_of l.replay) l.line (lines_in l.rest);
  tail : tail_in l.text ≡ tail_in l.rest;
  many : l.line + length (lines_in l.rest) ≡ 7 + length (lines_in l.text);
  first : 7 ≤ l.line;
  shorter : l.line + length l.rest ≤ 7 + length l.text;
}

abbrev pub decreases-lines : goal.decreases-lines
decreases-lines l = length l.rest
