use Rattle.std.proofs.Common.{◌≡◌, ◌-◌, ◌≤◌, vec_capacity, vec_len, length}
use Rattle.pb_model.specs.Space.{steps_below}
use Rattle.pb_task.specs.Strips.{strips_space}
use Rattle.pb_task.proofs.strips.among_in.Given as goal

abbrev pub invariant-loop-action : goal.invariant-loop-action
invariant-loop-action g l = record {
  most : l.action ≤ l.count;
  successors : l.out.items ≡ steps_below (strips_space l.strips) l.from l.action;
  few : vec_len l.out ≤ l.action;
  room : length l.strips.actions ≤ vec_capacity l.out;
  kept : vec_capacity l.fn.out ≤ vec_capacity l.out;
}

abbrev pub decreases-loop-action : goal.decreases-loop-action
decreases-loop-action g l = l.count - l.action
