use Rattle.std.proofs.Common.{◌+◌, ◌++◌, ◌∙◌, map, take, get_or, ap}
use Rattle.pb_model.specs.Texts.{line, lines}
use Rattle.pb_task.specs.Parts.{action_name}
use Rattle.pb_report.proofs.Steps.{one_more, pushed}
use Rattle.pb_report.proofs.pieces.push_steps.Goals as goal

pub loop-action-preserved : goal.loop-action-preserved
loop-action-preserved c =
    pushed c.args.out.now.items (line (action_name c.args.task.now (get_or c.args.actions.now c.loop-action.action-index 0))) c.push_line.new.out.items c.loop-action.out.items
    (lines (map (action_name c.args.task.now) (take c.loop-action.action-index c.args.actions.now)))
    (lines (map (action_name c.args.task.now) (take (c.loop-action.action-index + 1) c.args.actions.now)))
    c.loop-action.invariant
    (c.in_ok-push_line.ensures ∙ ap (λ t. c.loop-action.out.items ++ line t) (c.as_bytes.ensures.value ∙ c.in_ok-name.ensures))
    (one_more (action_name c.args.task.now) c.args.actions.now c.loop-action.action-index c.loop-action-test.true)
