use Rattle.std.proofs.Common.{◌≤◌, sym, subst}
use Rattle.pb_pattern.specs.Graphs.{images_in}
use Rattle.pb_pattern.proofs.Proper.{few_in_graph}
use Rattle.pb_pattern.proofs.graph.Graph.images.Goals as goal

pub returns-in-Pieces-clause-few : goal.returns-in-Pieces-clause-few
returns-in-Pieces-clause-few c = subst (λ n. n ≤ 65536) (sym c.images-in-Pieces.ensures) (subst (λ graph. images_in graph ≤ 65536) c.in-Pieces.is (few_in_graph c.args.self.now c.requires))
