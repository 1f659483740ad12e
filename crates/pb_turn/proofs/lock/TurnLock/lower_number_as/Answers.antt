use Rattle.std.proofs.Common.{rules}
use Rattle.pb_turn.proofs.Keeping.{sinks}
use Rattle.pb_turn.proofs.lock.TurnLock.lower_number_as.Goals as goal

pub fetch_min-requires : goal.fetch_min-requires
fetch_min-requires g c = (search rules, search rules, sinks _ _ _ _ _ _ _ g.R.TurnRule.lowered c.requires.number c.args.pass.now.live c.requires.rule)
