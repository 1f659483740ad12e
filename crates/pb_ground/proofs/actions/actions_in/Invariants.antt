use Rattle.std.proofs.Common.{◌≡◌, ◌≤◌, ◌++◌, drop, length}
use Rattle.pb_ground.specs.Actions.{actions_from}
use Rattle.pb_ground.proofs.actions.actions_in.Given as goal

abbrev pub invariant-loop-i : goal.invariant-loop-i
invariant-loop-i l = record {
  added : l.actions ++ actions_from l.task l.atoms l.i (drop l.i l.schemas) ≡ actions_from l.task l.atoms 0 l.schemas;
  few : length l.actions ≤ 65536;
  since : l.looks.since ≡ l.fn.looks.since;
  rising : l.fn.looks.taken ≤ l.looks.taken;
}
