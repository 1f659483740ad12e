use Rattle.pb_yard.proofs.Meaning as law
use Rattle.pb_yard.proofs.laws.views_begin_the_history.Goals as goal

pub returns : goal.returns
returns c = law.views_begin_the_history
