use Rattle.std.proofs.Common.{rules, ◌^◌, ◌<◌, arith}
use Rattle.pb_check.proofs.TableFaults.{line_small}
use Rattle.pb_check.proofs.judging.table_fault.Goals as goal

pub overflow_add-result : goal.overflow_add-result
overflow_add-result c =
    let few : c.in-Line.line < 2 ^ 64 = search rules in
    let small = line_small c.args.tables.now c.in-Line.list c.in-Line.line c.sums.ensures.lawful few in
    let is = c.line_number.ensures in
    omega (arith, is, small)
