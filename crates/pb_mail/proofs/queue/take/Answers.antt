use Rattle.pb_mail.proofs.Keeping.{pops, learns}
use Rattle.pb_mail.proofs.queue.take.Goals as goal

pub pop_as-requires-clause-rule : goal.pop_as-requires-clause-rule
pop_as-requires-clause-rule g c = (pops _ _ _ c.requires.live c.requires.takes, learns _ _ _)
