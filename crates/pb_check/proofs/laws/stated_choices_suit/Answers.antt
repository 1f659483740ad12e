use Rattle.pb_check.proofs.Claims.{stated_choices_suit}
use Rattle.pb_check.proofs.laws.stated_choices_suit.Goals as goal

pub returns : goal.returns
returns c = stated_choices_suit
