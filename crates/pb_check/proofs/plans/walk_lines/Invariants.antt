use Rattle.std.proofs.Common.{◌≡◌, ◌≤◌, ◌*◌, ◌+◌, ◌-◌, ℕ, List, Ok, IsTrue}
use Rattle.pb_task.specs.Parts.{space_of, greatest_cost}
use Rattle.pb_check.specs.Reading.{actions_at}
use Rattle.pb_check.specs.PlanLines.{actions_in}
use Rattle.pb_check.specs.Judging.{walk}
use Rattle.pb_check.proofs.plans.walk_lines.Given as goal

abbrev pub invariant-loop-i : goal.invariant-loop-i
invariant-loop-i l = record {
  state : IsTrue ((space_of l.task).is_state l.at);
  cost : l.cost ≤ greatest_cost * l.i;
  left : List ℕ;
  behind : List ℕ;
  ahead : actions_at (l.count - l.i) (l.line + l.i) l.rest ≡ Ok (left, behind);
  so_far : walk (space_of l.task) l.at l.i l.cost left ≡ walk (space_of l.task) (space_of l.task).start 0 0 (actions_in l.count l.line l.text);
}
