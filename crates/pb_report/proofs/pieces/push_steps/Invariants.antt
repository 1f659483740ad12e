use Rattle.std.proofs.Common.{◌≡◌, ◌++◌, map, take}
use Rattle.pb_model.specs.Texts.{lines}
use Rattle.pb_task.specs.Parts.{action_name}
use Rattle.pb_report.proofs.pieces.push_steps.Given as goal

abbrev pub invariant-loop-action : goal.invariant-loop-action
invariant-loop-action l = l.out.items ≡ l.initial.out.items ++ lines (map (action_name l.task) (take l.action-index l.actions))
