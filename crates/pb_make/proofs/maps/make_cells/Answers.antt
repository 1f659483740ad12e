use Rattle.std.proofs.Common.{arith}
use Rattle.std.proofs.lemmas.Nat.{mul-le}
use Rattle.pb_make.proofs.maps.make_cells.Goals as goal

pub index_mut-requires : goal.index_mut-requires
index_mut-requires c = omega (arith, c.in_ok-cells.ensures.count, mul-le 1 1 c.args.side c.args.side c.requires.some c.requires.some)

pub index_mut-requires-2 : goal.index_mut-requires-2
index_mut-requires-2 c = omega (arith, c.in_ok-cells.ensures.count, mul-le 1 1 c.args.side c.args.side c.requires.some c.requires.some)
