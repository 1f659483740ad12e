use Rattle.pb_pattern.specs.Costs.{IsTable}
use Rattle.pb_pattern.specs.Graphs.{space_in, images_in}
use Rattle.pb_pattern.proofs.graph.Graph.approach.Given as goal

abbrev pub invariant-loop : goal.invariant-loop
invariant-loop l = IsTable (space_in l.self) (images_in l.self) l.costs
