use Rattle.std.proofs.Common.{◌+◌, refl, sym, arith, ◌∙◌}
use Rattle.pb_task.specs.Parts.{space_of}
use Rattle.pb_check.specs.RowsToJudge.{fault_by}
use Rattle.pb_check.proofs.Passes.{by_goes_on, by_ends_with, by_done, not_none, is_none, is_state_at, read}
use Rattle.pb_check.proofs.row_faults.rows_fault.Goals as goal

pub row_fault-fault-requires-clause-state : goal.row_fault-fault-requires-clause-state
row_fault-fault-requires-clause-state c =
    (is_state_at (space_of c.args.judged.now.task.now) c.args.judged.now.line c.args.judged.now.rows.now c.loop-i.i c.at-row.result c.loop-i.invariant.states (omega (arith, c.loop-i-test.true, c.len-i-end.ensures)) (read c.args.judged.now.rows.now c.loop-i.i c.at-row.result c.at-row.ensures)).0

pub returns-then-is_some-clause-fault : goal.returns-then-is_some-clause-fault
returns-then-is_some-clause-fault c =
    by_ends_with (fault_by c.args.judged.now) c.args.judged.now.line c.args.judged.now.rows.now c.loop-i.i (c.args.judged.now.line + c.loop-i.i) c.at-row.result
    c.row_fault-fault.result (not_none c.row_fault-fault.result (sym c.is_some.ensures ∙ c.if-is_some.true)) refl (omega (arith, c.loop-i-test.true, c.len-i-end.ensures)) (read c.args.judged.now.rows.now c.loop-i.i c.at-row.result c.at-row.ensures)
    c.row_fault-fault.ensures.fault c.loop-i.invariant.so_far

pub loop-i-preserved : goal.loop-i-preserved
loop-i-preserved c = record {
  task = c.row_fault-fault.ensures.task;
  states =
      (is_state_at (space_of c.args.judged.now.task.now) c.args.judged.now.line c.args.judged.now.rows.now c.loop-i.i c.at-row.result c.loop-i.invariant.states (omega (arith, c.loop-i-test.true, c.len-i-end.ensures)) (read c.args.judged.now.rows.now c.loop-i.i c.at-row.result c.at-row.ensures)).1;
  so_far = by_goes_on (fault_by c.args.judged.now) c.args.judged.now.line c.args.judged.now.rows.now c.loop-i.i (c.args.judged.now.line + c.loop-i.i) c.at-row.result refl
      (omega (arith, c.loop-i-test.true, c.len-i-end.ensures)) (read c.args.judged.now.rows.now c.loop-i.i c.at-row.result c.at-row.ensures) (sym c.row_fault-fault.ensures.fault ∙ is_none c.row_fault-fault.result (sym c.is_some.ensures ∙ c.if-is_some.false)) c.loop-i.invariant.so_far;
}

pub returns-clause-fault : goal.returns-clause-fault
returns-clause-fault c =
    by_done (fault_by c.args.judged.now) c.args.judged.now.line c.args.judged.now.rows.now c.loop-i.i (omega (arith, c.loop-i-test.false, c.len-i-end.ensures))
    c.loop-i.invariant.so_far
