use Rattle.pb_abstract.proofs.Walking.{abstract_graphs_are_blocks}
use Rattle.pb_abstract.proofs.laws.abstract_graphs_are_blocks.Goals as goal

pub returns : goal.returns
returns c = abstract_graphs_are_blocks
