use Rattle.std.proofs.Common.{◌≡◌, ◌≤◌, ◌-◌, ◌*◌, length, take}
use Rattle.pb_model.specs.Texts.{lines}
use Rattle.pb_print.specs.Saved.{longest_line}
use Rattle.pb_print.proofs.saving.len_of_lines.Given as goal

abbrev pub invariant-lines : goal.invariant-lines
invariant-lines g l = record {
  within : l.at ≤ l.count;
  begins : g.T.NumberedLines.begins l.text l.at l.begin;
  so_far : l.len ≡ length (lines (take l.at (g.T.NumberedLines.lines_of l.text)));
  small : l.len ≤ longest_line * l.at;
}

abbrev pub decreases-lines : goal.decreases-lines
decreases-lines g l = l.count - l.at
