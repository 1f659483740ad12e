use Rattle.std.proofs.Common.{rules}
use Rattle.pb_turn.proofs.Keeping.{leaves}
use Rattle.pb_turn.proofs.lock.TurnLock.leave_turn_as.Goals as goal

pub store-requires : goal.store-requires
store-requires g c = (search rules, search rules, leaves _ _ _ _ _ _ _ _ _ c.requires.laid.0 c.requires.laid.1 c.requires.rule.1 c.requires.rule.2)
