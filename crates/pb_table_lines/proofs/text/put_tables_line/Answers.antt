use Rattle.std.proofs.Common.{length, ap}
use Rattle.pb_table_lines.proofs.Written.{counts_put}
use Rattle.pb_table_lines.proofs.text.put_tables_line.Goals as goal

pub returns-then-at-eq0 : goal.returns-then-at-eq0
returns-then-at-eq0 c =
    counts_put c.args.out.now c.put_counts.new.out c.args.digits c.args.tables.now c.args.at c.if-at-eq0.true c.sums.result (length c.tables.result.now) (length c.traps.result.now) c.sums.ensures.sums (ap length c.tables.ensures) (ap length c.traps.ensures) c.put_counts.ensures.line c.put_counts.ensures.short
