use Rattle.std.proofs.Common.{sym, ap, ◌∙◌}
use Rattle.pb_table_lines.specs.Lines.{lines_before}
use Rattle.pb_table_lines.proofs.Written.{all_counted}
use Rattle.pb_table_lines.proofs.listing.line_count.Goals as goal

pub returns-clause-lines : goal.returns-clause-lines
returns-clause-lines c = λ digits.
    c.lines_before.ensures.lines
    ∙ ap (lines_before c.args.tables.now) c.count.ensures.count
    ∙ sym (all_counted digits c.args.tables.now)
