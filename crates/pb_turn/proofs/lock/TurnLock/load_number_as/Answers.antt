use Rattle.std.proofs.Common.{rules}
use Rattle.pb_turn.proofs.Keeping.{reads}
use Rattle.pb_turn.proofs.lock.TurnLock.load_number_as.Goals as goal

pub load-requires : goal.load-requires
load-requires g c = (search rules, search rules, reads _ _ _ _ _ _ g.R.TurnRule.loaded c.requires.number c.args.pass.now.live c.requires.rule)
