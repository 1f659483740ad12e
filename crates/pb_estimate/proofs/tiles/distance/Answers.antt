use Rattle.std.proofs.Common.{refl, ap, ◌/◌, ◌%◌, ◌∙◌, arith}
use Rattle.pb_task.specs.Tiles.{cell_count}
use Rattle.pb_task.proofs.Callers.{next_digit, few_cells}
use Rattle.pb_packed.specs.Bits.{bits_of}
use Rattle.pb_estimate.proofs.Homes.{one_more}
use Rattle.pb_estimate.proofs.tiles.distance.Goals as goal

pub loop-cell-preserved : goal.loop-cell-preserved
loop-cell-preserved c = record {
  sum = one_more c.args.tiles.now.cols (cell_count c.args.tiles.now) c.args.state.now c.loop-cell.cell (c.loop-cell.rest % 16) c.loop-cell.sum c.from-sum.result c.loop-cell.rest c.args.tiles.now.goal c.args.ways.now
      (few_cells c.args.tiles.now c.requires.tiles) c.loop-cell-test.true c.requires.ways c.loop-cell.invariant.sum c.loop-cell.invariant.rest refl c.from-sum.ensures;
  small = omega (arith, c.loop-cell.invariant.small);
  rest = ap (λ n. n / 16) c.loop-cell.invariant.rest ∙ next_digit (bits_of c.args.state.now 0 64) c.loop-cell.cell;
}
