use Rattle.pb_pddl_laws.proofs.Following.{one_place}
use Rattle.pb_pddl_laws.proofs.place_is_one.Goals as goal

pub returns : goal.returns
returns c = one_place
