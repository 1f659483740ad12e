use Rattle.std.proofs.Common.{arith}
use Rattle.pb_cert.proofs.LineTexts.{steps_put, action_put, cost_put}
use Rattle.pb_cert.proofs.lines.put_plan_line.Goals as goal

pub returns-then-at-eq0 : goal.returns-then-at-eq0
returns-then-at-eq0 c =
    steps_put c.args.out.now c.put_numbered.new.out c.args.plan.now c.args.at c.actions-actions.result.now c.actions-actions.ensures c.if-at-eq0.true c.put_numbered.ensures.line c.put_numbered.ensures.short

pub returns-then-at-actions : goal.returns-then-at-actions
returns-then-at-actions c =
    action_put c.args.out.now c.put_action.new.out c.args.plan.now c.args.at c.actions-actions.result.now c.actions-actions.ensures c.if-at-eq0.false c.if-at-actions.true c.put_action.ensures.line c.put_action.ensures.short

pub returns-else-at-actions : goal.returns-else-at-actions
returns-else-at-actions c =
    cost_put c.args.out.now c.put_numbered-else-at-actions.new.out c.args.plan.now c.args.at c.actions-actions.result.now c.cost.result c.actions-actions.ensures c.cost.ensures (omega (arith, c.if-at-actions.false)) c.requires.within
    c.put_numbered-else-at-actions.ensures.line c.put_numbered-else-at-actions.ensures.short
