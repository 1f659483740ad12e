use Rattle.pb_abstract.proofs.Marks.{blocks_ask_for_no_costs}
use Rattle.pb_abstract.proofs.laws.blocks_ask_for_no_costs.Goals as goal

pub returns : goal.returns
returns c = blocks_ask_for_no_costs
