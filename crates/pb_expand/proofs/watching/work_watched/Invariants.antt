use Rattle.std.proofs.Common.{false, ◌-◌, ◌≤◌, vec_capacity}
use Rattle.pb_task.specs.Parts.{space_of}
use Rattle.pb_estimate.specs.Tables.{IsOfTask}
use Rattle.pb_lease.specs.Leased.{guide_of}
use Rattle.pb_expand.specs.Watching.{IsAtWatch, HasTurnedWatched}
use Rattle.pb_expand.proofs.watching.work_watched.Given as goal

abbrev pub invariant-loop-row : goal.invariant-loop-row
invariant-loop-row g l = record {
  at : IsAtWatch l.task l.abstraction l.initial.lease.choice (g.W.Watch.seen l.watch) l.lease;
  turned : HasTurnedWatched (space_of l.task) (guide_of l.task l.abstraction l.initial.lease.choice) (l.lease.used - l.initial.lease.used) 0 false false l.initial.lease (g.W.Watch.seen l.initial.watch) l.lease (g.W.Watch.seen l.watch);
  counted : l.initial.lease.used ≤ l.lease.used;
  can : g.W.Watch.can l.watch;
  stays : g.W.Watch.stays l.initial.watch l.watch;
  tables : IsOfTask l.estimator l.task l.initial.lease.choice;
  room : vec_capacity l.initial.succs ≤ vec_capacity l.succs;
}

abbrev pub decreases-loop-row : goal.decreases-loop-row
decreases-loop-row g l = l.lease.quota - l.lease.used
