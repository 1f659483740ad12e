use Rattle.pb_mail.proofs.Keeping.{forks}
use Rattle.pb_mail.proofs.queue.split.Goals as goal

pub another-requires-clause-rule : goal.another-requires-clause-rule
another-requires-clause-rule g c = forks _ _ _ c.requires.live c.requires.first
