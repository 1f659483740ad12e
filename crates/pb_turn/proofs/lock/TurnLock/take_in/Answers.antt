use Rattle.std.proofs.Common.{rules}
use Rattle.pb_turn.proofs.Keeping.{joins}
use Rattle.pb_turn.proofs.lock.TurnLock.take_in.Goals as goal

pub join_seat-requires : goal.join_seat-requires
join_seat-requires g c = (search rules, search rules, search rules, search rules, joins _ _ _ _ _ _ g.R.TurnRule.met c.args.pass.now.live c.requires.rests.0 c.requires.rule)
