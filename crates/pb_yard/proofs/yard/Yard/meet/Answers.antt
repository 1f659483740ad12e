use Rattle.pb_yard.proofs.Passing.{meet_keeps}
use Rattle.pb_yard.proofs.yard.Yard.meet.Goals as goal

pub meet-requires-clause-rule : goal.meet-requires-clause-rule
meet-requires-clause-rule c = meet_keeps _ _ _ _ c.args.pass.now.is_live c.args.other.is_live c.requires.free
