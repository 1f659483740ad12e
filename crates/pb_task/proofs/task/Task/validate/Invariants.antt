use Rattle.std.proofs.Common.{◌≤◌, ◌*◌, IsTrue, take}
use Rattle.pb_model.specs.Plan.{Walk}
use Rattle.pb_task.specs.Parts.{space_of, greatest_cost}
use Rattle.pb_task.proofs.task.Task.validate.Given as goal

abbrev pub invariant-loop-i : goal.invariant-loop-i
invariant-loop-i l = record {
  walk : Walk (space_of l.self) (space_of l.self).start (take l.i l.plan) l.cost l.state;
  is_state : IsTrue ((space_of l.self).is_state l.state);
  cheap : l.cost ≤ greatest_cost * l.i;
}
