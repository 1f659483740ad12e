-- Each kind of graph is proper.
use Rattle.std.proofs.Common.{◌^◌, ◌≤◌}
use Rattle.pb_model.specs.Space.{IsProper}
use Rattle.pb_pattern.specs.declared.graph.Graph.{Graph}
use Rattle.pb_pattern.specs.declared.graph.Graph.TheVariants as graphs
use Rattle.pb_pattern.specs.Least.{HasStatesBelow}
use Rattle.pb_pattern.specs.Graphs.{space_in, images_in, IsGraph}
use Rattle.pb_pattern.proofs.Rules.{rules_are_proper, rules_below, few_images}
use Rattle.pb_pattern.proofs.Slots.{pieces_below, few_placings}

pub graph_is_proper : (graph : Graph) → IsGraph graph → IsProper (space_in graph) (2 ^ 20)
graph_is_proper (graphs.Sets sets) is = rules_are_proper sets is
graph_is_proper (graphs.Pieces pieces) is = is.proper

pub graph_below : (graph : Graph) → IsGraph graph → HasStatesBelow (space_in graph) (images_in graph)
graph_below (graphs.Sets sets) is = rules_below sets is
graph_below (graphs.Pieces pieces) is = pieces_below pieces is

pub few_in_graph : (graph : Graph) → IsGraph graph → images_in graph ≤ 65536
few_in_graph (graphs.Sets sets) is = few_images sets is
few_in_graph (graphs.Pieces pieces) is = few_placings pieces.count is.count.1
