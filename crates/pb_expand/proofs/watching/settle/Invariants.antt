use Rattle.std.proofs.Common.{false}
use Rattle.pb_task.specs.Parts.{space_of}
use Rattle.pb_estimate.specs.Choices.{Choice}
use Rattle.pb_abstract.specs.Graph.{AbstractGraph}
use Rattle.pb_lease.specs.Leased.{guide_of}
use Rattle.pb_lease.specs.Rows.{own_opened}
use Rattle.pb_expand.specs.Watching.{IsAtWatch, HasTurnedWatched}
use Rattle.pb_expand.proofs.watching.settle.Given as goal

abbrev pub invariant-loop-row : goal.invariant-loop-row
invariant-loop-row g l = record {
  can : g.W.Watch.can l.watch;
  stays : g.W.Watch.stays l.initial.watch l.watch;
  turned : (abstraction : AbstractGraph) (choice : Choice) → IsAtWatch l.task abstraction choice (g.W.Watch.seen l.initial.watch) l.initial.lease
      → HasTurnedWatched (space_of l.task) (guide_of l.task abstraction choice) 0 0 false false l.initial.lease (g.W.Watch.seen l.initial.watch) l.lease (g.W.Watch.seen l.watch);
}

abbrev pub decreases-loop-row : goal.decreases-loop-row
decreases-loop-row g l = own_opened l.lease
