use Rattle.pb_mail.proofs.Keeping.{pushes}
use Rattle.pb_mail.proofs.queue.send.Goals as goal

pub push_as-requires-clause-rule : goal.push_as-requires-clause-rule
push_as-requires-clause-rule g c = λ n. pushes _ n _ _ _ c.requires.live c.requires.sender c.requires.fit
