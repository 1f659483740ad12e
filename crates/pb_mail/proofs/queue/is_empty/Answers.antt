use Rattle.pb_mail.proofs.Keeping.{learns}
use Rattle.pb_mail.proofs.queue.is_empty.Goals as goal

pub is_empty_as-requires-clause-rule : goal.is_empty_as-requires-clause-rule
is_empty_as-requires-clause-rule g c = learns _ _ _
