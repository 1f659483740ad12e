use Rattle.std.proofs.Common.{◌≡◌, length, length-set, arith, ◌∙◌}
use Rattle.pb_pattern.proofs.Boards.{one_more, all_read}
use Rattle.pb_pattern.proofs.images.unpack.Goals as goal

pub loop-cell-preserved : goal.loop-cell-preserved
loop-cell-preserved c =
    let long : length c.loop-cell.cells ≡ 16 = c.loop-cell.invariant.long in
    record {
      long = length-set _ _ _ ∙ long;
      read = one_more c.args.count c.loop-cell.cell c.args.word c.loop-cell.rest c.loop-cell.cells c.loop-cell-test.true (omega arith) c.loop-cell.invariant.read;
    }

pub returns : goal.returns
returns c = all_read c.args.count c.loop-cell.cell c.args.word c.loop-cell.rest c.loop-cell.cells c.loop-cell.auto.cell-end c.loop-cell-test.false c.loop-cell.invariant.read
