use Rattle.std.proofs.Common.{◌∙◌, sym}
use Rattle.pb_yard.proofs.Wording.{number_cost}
use Rattle.pb_yard.proofs.word.word_of.Goals as goal

pub returns-in-Some : goal.returns-in-Some
returns-in-Some c = number_cost c.in-Some.cost (c.requires c.in-Some.cost c.in-Some.is) ∙ sym c.in-Some.is
