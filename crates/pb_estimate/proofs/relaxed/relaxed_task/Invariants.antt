use Rattle.std.proofs.Common.{◌≡◌, take, length}
use Rattle.pb_estimate.specs.Tables.{AreRelaxed, IsWanted}
use Rattle.pb_estimate.proofs.relaxed.relaxed_task.Given as goal

abbrev pub invariant-loop-at : goal.invariant-loop-at
invariant-loop-at l = record {
  users : length l.users ≡ l.strips.atoms;
  actions : AreRelaxed l.strips.atoms (take l.at l.merged.items) l.users l.task;
  goal : IsWanted l.strips.goal l.strips.atoms l.task;
}
