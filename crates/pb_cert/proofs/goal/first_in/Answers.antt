use Rattle.std.proofs.Common.{◌≤◌, ◌+◌, length, sym, subst, ◌∙◌, arith}
use Rattle.pb_task.specs.Parts.{space_of}
use Rattle.pb_cert.proofs.Goals.{IsFirstSoFar, none_so_far, one_more, one_past, first_of_part, from_part}
use Rattle.pb_cert.proofs.goal.first_in.Goals as goal
use Rattle.pb_cert.proofs.goal.first_in.Goals.{then-is_goal, else-is_goal}

pub rows-init : goal.rows-init
rows-init c = none_so_far (space_of c.args.task.now) c.args.bundle.now.entries c.args.so_far

pub rows-preserved : goal.rows-preserved
rows-preserved c = elim c.if-is_goal.branch [
  | then-is_goal w ↦
      subst (IsFirstSoFar (space_of c.args.task.now) c.args.bundle.now.entries c.args.so_far (c.rows.i + 1)) (sym w.first-is)
      (one_more (space_of c.args.task.now) c.args.bundle.now.entries c.args.so_far c.rows.i c.rows.first w.first_of-first.result w.at-state.result.0 w.at-state.result.1 w.at-state.ensures
      c.rows.invariant w.first_of-first.ensures.kept w.first_of-first.ensures.small w.first_of-first.ensures.here w.first_of-first.ensures.from)
  | else-is_goal w ↦
      subst (IsFirstSoFar (space_of c.args.task.now) c.args.bundle.now.entries c.args.so_far (c.rows.i + 1)) (sym w.first-is)
      (one_past (space_of c.args.task.now) c.args.bundle.now.entries c.args.so_far c.rows.i c.rows.first c.state_at.result c.state_at.ensures (sym c.is_goal.ensures ∙ w.if-is_goal.false)
      c.rows.invariant)
]

pub returns-clause-here : goal.returns-clause-here
returns-clause-here c =
    let whole : length c.args.bundle.now.entries ≤ c.rows.i = omega (arith, c.rows-test.false, c.len-i-end.ensures.count) in
    first_of_part (space_of c.args.task.now) c.args.bundle.now.entries c.args.so_far c.rows.i c.rows.first c.rows.invariant whole

pub returns-clause-from : goal.returns-clause-from
returns-clause-from c =
    from_part (space_of c.args.task.now) c.args.bundle.now.entries c.args.so_far c.rows.i c.rows.first c.rows.invariant c.len-i-end.ensures.distinct
