use Rattle.pb_pattern.specs.Graphs.{space_in, images_in}
use Rattle.pb_pattern.proofs.Settling.{IsSettling}
use Rattle.pb_pattern.proofs.graph.Graph.settle.Given as goal

abbrev pub invariant-loop-round : goal.invariant-loop-round
invariant-loop-round l = IsSettling (space_in l.self) (images_in l.self) l._round l.costs
