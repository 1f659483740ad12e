use Rattle.std.proofs.Common.{◌≡◌, ◌+◌, ◌-◌, drop}
use Rattle.pb_check.specs.Judging.{rows_order_fault}
use Rattle.pb_check.proofs.row_faults.first_in_order.Given as goal

abbrev pub invariant-loop-i : goal.invariant-loop-i
invariant-loop-i l = rows_order_fault l.line l.rows ≡ rows_order_fault (l.line + (l.i - 1)) (drop (l.i - 1) l.rows)
