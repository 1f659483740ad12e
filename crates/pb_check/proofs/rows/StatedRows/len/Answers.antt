use Rattle.std.proofs.Common.{length, ap, arith}
use Rattle.pb_check.proofs.Arrays.{length-rows_of}
use Rattle.pb_check.proofs.rows.StatedRows.len.Goals as goal

pub returns : goal.returns
returns c =
    let all = length-rows_of c.self.inside.states.numbers c.self.inside.costs.items c.self.inside.closed.items c.self.invariant.0 c.self.invariant.1 in
    omega (arith, all, ap length c.self.view_is)
