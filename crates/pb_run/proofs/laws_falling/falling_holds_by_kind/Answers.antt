use Rattle.pb_run.proofs.FallingClauses as law
use Rattle.pb_run.proofs.laws_falling.falling_holds_by_kind.Goals as goal

pub returns : goal.returns
returns c = law.falling_holds_by_kind c.read_as_spelled.ensures c.readings_are_spelled.ensures
