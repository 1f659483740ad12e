use Rattle.std.proofs.Common.{arith}
use Rattle.pb_estimate.proofs.Homes.{table_is}
use Rattle.pb_estimate.proofs.tiles.ways_home.Goals as goal

pub returns : goal.returns
returns c = table_is c.args.tiles.now.cols c.args.tiles.now.goal c.loop-place.ways (λ place less. c.loop-place.invariant.known place (omega (arith, less)))
