use Rattle.std.proofs.Common.{append_assoc, arith}
use Rattle.pb_make.proofs.Drawn.{draws-more}
use Rattle.pb_make.proofs.maps.draw_cells.Goals as goal

pub loop-drawn-preserved : goal.loop-drawn-preserved
loop-drawn-preserved c = record {
  count = omega (arith, c.in_ok-push.ensures.len, c.loop-drawn.invariant.count);
  cells =
      rw (c.in_ok-push.ensures.items, append_assoc, c.cell_of.ensures, c.draw.ensures.draw, c.draw.ensures.after)
      (rw (draws-more c.loop-drawn._drawn c.args.count c.loop-drawn.generator.number c.loop-drawn-test.true) at c.loop-drawn.invariant.cells);
}
