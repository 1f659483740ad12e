use Rattle.std.proofs.Common.{◌≡◌, ◌≤◌}
use Rattle.pb_ground.proofs.actions.look_at_all.Given as goal

abbrev pub invariant-loop-row : goal.invariant-loop-row
invariant-loop-row l = record {
  since : l.looks.since ≡ l.fn.looks.since;
  rising : l.fn.looks.taken ≤ l.looks.taken;
}
