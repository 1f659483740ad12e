use Rattle.pb_run.proofs.AtOnce.{at_once}
use Rattle.pb_run.proofs.laws.one_part_is_handed_out_at_once.Goals as goal

pub returns : goal.returns
returns c = at_once
