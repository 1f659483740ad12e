use Rattle.pb_pattern.specs.Graphs.{space_in, images_in}
use Rattle.pb_pattern.proofs.Beginning.{IsBegun}
use Rattle.pb_pattern.proofs.graph.Graph.from_goals.Given as goal

abbrev pub invariant-loop-image : goal.invariant-loop-image
invariant-loop-image l = IsBegun (space_in l.self) (images_in l.self) l.image l.costs.items
