use Rattle.std.proofs.Common.{◌≤◌, length, ap, ◌∙◌, arith}
use Rattle.pb_print.specs.Saved.{longest_line}
use Rattle.pb_print.proofs.Files.{longer, short_line, all_lines}
use Rattle.pb_print.proofs.saving.len_of_lines.Goals as goal

pub lines-preserved : goal.lines-preserved
lines-preserved g c =
    let short : c.len.result ≤ longest_line = short_line c.new-line.result c.put_line.new.out (g.T.NumberedLines.lines_of c.args.text.now) c.lines.at c.len.result c.new-line.ensures c.put_line.ensures.line c.len.ensures.len in
    record {
      within = omega (arith, c.lines-test.true);
      begins = c.put_line.ensures.next;
      so_far = longer (g.T.NumberedLines.lines_of c.args.text.now) c.lines.at c.lines.len c.len.result c.new-line.result c.put_line.new.out c.new-line.ensures c.put_line.ensures.line c.lines.invariant.so_far c.len.ensures.len;
      small = omega (arith, short, c.lines.invariant.small);
    }

pub returns : goal.returns
returns g c =
    let whole : length (g.T.NumberedLines.lines_of c.args.text.now) ≤ c.lines.at = omega (arith, c.lines-test.false, c.count-count.ensures.count) in
    c.lines.invariant.so_far ∙ ap length (all_lines (g.T.NumberedLines.lines_of c.args.text.now) c.lines.at whole ∙ c.count-count.ensures.text)
