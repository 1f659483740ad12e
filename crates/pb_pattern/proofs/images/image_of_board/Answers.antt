use Rattle.std.proofs.Common.{◌≡◌, ◌+◌, suc, arith}
use Rattle.pb_pattern.proofs.Imaged.{image_is}
use Rattle.pb_pattern.proofs.images.image_of_board.Goals as goal

pub returns : goal.returns
returns c = record {
  image = image_is c.args.tiles.now c.args.tracked c.args.state.now c.cell_count-count.result c.bits-word.result (c.args.tracked + 1) c.image_of_word.result c.requires.tiles c.requires.state c.cell_count-count.ensures.count c.bits-word.ensures
      (let e : c.args.tracked + 1 ≡ suc c.args.tracked = omega arith in e) c.image_of_word.ensures.image;
}
