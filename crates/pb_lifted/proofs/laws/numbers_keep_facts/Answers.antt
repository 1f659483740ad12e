use Rattle.pb_lifted.proofs.SameFacts.{numbers_keep_facts}
use Rattle.pb_lifted.proofs.laws.numbers_keep_facts.Goals as goal

pub returns : goal.returns
returns c = numbers_keep_facts
