use Rattle.pb_mail.proofs.Keeping.{merges}
use Rattle.pb_mail.proofs.queue.meet.Goals as goal

pub absorb-requires-clause-rule : goal.absorb-requires-clause-rule
absorb-requires-clause-rule g c = merges _ _ _ _ _ c.requires.live.0 c.requires.live.1
