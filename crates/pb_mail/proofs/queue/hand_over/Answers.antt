use Rattle.pb_mail.proofs.Keeping.{hands}
use Rattle.pb_mail.proofs.queue.hand_over.Goals as goal

pub another-requires-clause-rule : goal.another-requires-clause-rule
another-requires-clause-rule g c = hands _ _ _ c.requires.live c.requires.first c.requires.takes
