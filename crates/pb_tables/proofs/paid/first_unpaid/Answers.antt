use Rattle.std.proofs.Common.{◌≡◌, length, sym, subst, arith}
use Rattle.pb_tables.proofs.Paying.{IsLeastUnpaid, unpaid_found, all_paid}
use Rattle.pb_tables.proofs.paid.first_unpaid.Goals as goal
use Rattle.pb_tables.proofs.paid.first_unpaid.Goals.{After-loop-action}

-- all actions have been looked at
all : (c : After-loop-action) → IsLeastUnpaid c.args.strips.now c.args.sums c.args.tables.now (length c.args.strips.now.actions) c.loop-action.least c.loop-action.by
all c =
    let ended : c.loop-action.action ≡ length c.args.strips.now.actions = omega (arith, c.loop-action-test.false, c.loop-action.auto.action-end, c.len-action-end.ensures) in
    subst (λ n. IsLeastUnpaid c.args.strips.now c.args.sums c.args.tables.now n c.loop-action.least c.loop-action.by) ended c.loop-action.invariant

pub returns-then-least-sums : goal.returns-then-least-sums
returns-then-least-sums c =
    sym (unpaid_found c.args.strips.now c.args.sums c.args.tables.now c.loop-action.least c.loop-action.by (all (goal.at.returns-then-least-sums c).After-loop-action) c.if-least-sums.true)

pub returns-else-least-sums : goal.returns-else-least-sums
returns-else-least-sums c =
    sym (all_paid c.args.strips.now c.args.sums c.args.tables.now c.loop-action.least c.loop-action.by (all (goal.at.returns-else-least-sums c).After-loop-action) c.if-least-sums.false)
