use Rattle.std.proofs.Common.{rules}
use Rattle.pb_turn.proofs.Keeping.{tries}
use Rattle.pb_turn.proofs.lock.TurnLock.try_turn_as.Goals as goal

pub compare_exchange-word-requires : goal.compare_exchange-word-requires
compare_exchange-word-requires g c = (search rules, search rules, tries _ _ _ _ _ _ c.requires.number c.requires.rests.0 c.args.pass.now.live)
