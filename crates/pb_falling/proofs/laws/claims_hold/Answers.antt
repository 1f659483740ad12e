use Rattle.pb_falling.proofs.Claims as law
use Rattle.pb_falling.proofs.laws.claims_hold.Goals as goal

pub returns : goal.returns
returns c = law.claims_hold c.reopening_is_lawful.ensures
