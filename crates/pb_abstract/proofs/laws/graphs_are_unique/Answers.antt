use Rattle.pb_abstract.proofs.Unique.{graphs_are_unique}
use Rattle.pb_abstract.proofs.laws.graphs_are_unique.Goals as goal

pub returns : goal.returns
returns c = graphs_are_unique
