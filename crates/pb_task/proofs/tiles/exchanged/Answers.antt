use Rattle.std.proofs.Common.{arith}
use Rattle.pb_task.proofs.Exchanges.{blank_below, exchanged_is}
use Rattle.pb_task.proofs.tiles.exchanged.Goals as goal

pub overflow_mul-result-2 : goal.overflow_mul-result-2
overflow_mul-result-2 c = omega (arith, blank_below c.args.count c.args.word c.args.blank c.requires.blank, c.requires.count)

pub overflow_shl-result-2 : goal.overflow_shl-result-2
overflow_shl-result-2 c = omega (arith, blank_below c.args.count c.args.word c.args.blank c.requires.blank, c.requires.count)

pub overflow_add-result : goal.overflow_add-result
overflow_add-result c =
    let is = exchanged_is c.args.word c.args.count c.args.blank c.args.other c.requires.count c.requires.word c.requires.blank c.requires.other in
    omega (arith, is, c.requires.fits)

pub returns : goal.returns
returns c = exchanged_is c.args.word c.args.count c.args.blank c.args.other c.requires.count c.requires.word c.requires.blank c.requires.other
