use Rattle.std.proofs.Common.{sym, arith, ap, ◌∙◌}
use Rattle.std.proofs.lemmas.Result.{err_from_is_err_and}
use Rattle.pb_task.specs.Parts.{space_of}
use Rattle.pb_task.proofs.Callers.{tasks_are_proper}
use Rattle.pb_check.specs.Reading.{actions_at}
use Rattle.pb_check.specs.PlanLines.{actions_in, actions_of}
use Rattle.pb_check.specs.Judging.{walk}
use Rattle.pb_check.proofs.Loops.{from_first, read_on, read_again, read_all}
use Rattle.pb_check.proofs.Walks.{walk_on, walk_fails, walk_done}
use Rattle.pb_check.proofs.plans.walk_lines.Goals as goal

pub loop-i-init : goal.loop-i-init
loop-i-init c = record {
  state = rw c.initial-at.ensures.start ((tasks_are_proper c.args.task.now c.requires.lawful).0.start);
  cost = omega arith;
  left = c.requires.actions.0.0;
  behind = c.requires.actions.0.1;
  ahead = from_first (λ k l. actions_at k l c.args.text.now) c.args.count c.args.line ∙ c.requires.actions.1;
  so_far = ap (λ at. walk (space_of c.args.task.now) at 0 0 c.requires.actions.0.0) c.initial-at.ensures.start
      ∙ ap (λ r. walk (space_of c.args.task.now) (space_of c.args.task.now).start 0 0 (actions_of r)) (sym c.requires.actions.1);
}

pub returns-in_err-action : goal.returns-in_err-action
returns-in_err-action c =
    let p = err_from_is_err_and c.from_residual.result c.from_residual.ensures.1 in
    rw (p.1, p.2) (read_again c.in_err-action.field-0.0 c.args.count c.loop-i.i c.args.line c.loop-i.rest.now c.loop-i.invariant.left c.loop-i.invariant.behind
    (walk (space_of c.args.task.now) (space_of c.args.task.now).start 0 0 (actions_in c.args.count c.args.line c.args.text.now)) c.loop-i-test.true c.in_err-action.ensures.gives c.loop-i.invariant.ahead)

pub returns-in-None : goal.returns-in-None
returns-in-None c =
    let space = space_of c.args.task.now in
    let on = read_on c.args.count c.loop-i.i c.args.line c.loop-i.rest.now c.in_ok-action.action c.in_ok-action.after.now c.loop-i.invariant.left c.loop-i.invariant.behind c.loop-i-test.true c.in_ok-action.ensures.gives c.loop-i.invariant.ahead in
    walk_fails space c.loop-i.at c.loop-i.i c.loop-i.cost c.in_ok-action.action c.loop-i.invariant.left on.0 (walk space space.start 0 0 (actions_in c.args.count c.args.line c.args.text.now)) on.1 (sym c.in-None.ensures.step) c.loop-i.invariant.so_far

pub loop-i-preserved : goal.loop-i-preserved
loop-i-preserved c =
    let space = space_of c.args.task.now in
    let on = read_on c.args.count c.loop-i.i c.args.line c.loop-i.rest.now c.in_ok-action.action c.in_ok-action.after.now c.loop-i.invariant.left c.loop-i.invariant.behind c.loop-i-test.true c.in_ok-action.ensures.gives c.loop-i.invariant.ahead in
    record {
      state = c.in-Some.ensures.state;
      cost = omega (arith, c.loop-i.invariant.cost, c.from-cost.ensures, c.in-Some.ensures.small);
      left = on.0;
      behind = c.loop-i.invariant.behind;
      ahead = on.2;
      so_far = walk_on space c.loop-i.at c.loop-i.i c.loop-i.cost _ _ c.from-cost.result c.in_ok-action.action c.loop-i.invariant.left on.0 (walk space space.start 0 0 (actions_in c.args.count c.args.line c.args.text.now)) c.from-cost.ensures on.1 (sym c.in-Some.ensures.step) c.loop-i.invariant.so_far;
    }

pub returns : goal.returns
returns c =
    let space = space_of c.args.task.now in
    walk_done space c.loop-i.at c.loop-i.i c.loop-i.cost c.loop-i.invariant.left (walk space space.start 0 0 (actions_in c.args.count c.args.line c.args.text.now))
    (read_all c.args.count c.loop-i.i c.args.line c.loop-i.rest.now c.loop-i.invariant.left c.loop-i.invariant.behind c.loop-i-test.false c.loop-i.invariant.ahead) c.loop-i.invariant.so_far
