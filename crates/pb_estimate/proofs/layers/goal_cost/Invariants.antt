use Rattle.std.proofs.Common.{◌-◌, length}
use Rattle.pb_estimate.specs.Layers.{AreLayers}
use Rattle.pb_estimate.proofs.Passing.{ArePassed}
use Rattle.pb_estimate.proofs.layers.goal_cost.Given as goal

abbrev pub invariant-loop-layers : goal.invariant-loop-layers
invariant-loop-layers l = record {
  is : AreLayers l.goal l.layers;
  passed : ArePassed l.strips l.state l.task l.first l.end l.level l.counts l.layers;
}

abbrev pub decreases-loop-layers : goal.decreases-loop-layers
decreases-loop-layers l = length l.layers.queue.items - l.first
