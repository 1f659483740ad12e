use Rattle.pb_pattern.specs.Costs.{IsTable}
use Rattle.pb_pattern.specs.Graphs.{space_in, images_in}
use Rattle.pb_pattern.proofs.graph.Graph.look_into_level.Given as goal

abbrev pub invariant-loop-image : goal.invariant-loop-image
invariant-loop-image l = IsTable (space_in l.self) (images_in l.self) l.costs
