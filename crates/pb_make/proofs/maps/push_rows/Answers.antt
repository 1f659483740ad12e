use Rattle.std.proofs.Common.{append_assoc, arith}
use Rattle.pb_make.proofs.Rows.{rows-more, left-more}
use Rattle.pb_make.proofs.maps.push_rows.Goals as goal

pub loop-row-preserved : goal.loop-row-preserved
loop-row-preserved c = record {
  left = omega (arith, left-more c.loop-row._row c.args.rows c.args.width c.loop-row-test.true);
  text =
      rw (c.in_ok-push_line.ensures, append_assoc, c.split_at.ensures.front, c.split_at.ensures.back)
      (rw (rows-more c.loop-row._row c.args.rows c.args.width c.loop-row.rest.now c.loop-row-test.true) at c.loop-row.invariant.text);
}
