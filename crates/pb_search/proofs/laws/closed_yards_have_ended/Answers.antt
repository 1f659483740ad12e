use Rattle.pb_search.proofs.Closed as law
use Rattle.pb_search.proofs.laws.closed_yards_have_ended.Goals as goal

pub returns : goal.returns
returns c = law.closed_yards_have_ended
