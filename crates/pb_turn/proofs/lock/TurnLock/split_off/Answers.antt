use Rattle.std.proofs.Common.{rules}
use Rattle.pb_turn.proofs.Keeping.{splits}
use Rattle.pb_turn.proofs.lock.TurnLock.split_off.Goals as goal

pub split_seat-seat-requires : goal.split_seat-seat-requires
split_seat-seat-requires g c = (search rules, search rules, splits _ _ _ _ g.R.TurnRule.kept g.R.TurnRule.given c.requires.more c.requires.rule)
