use Rattle.pb_mail.proofs.Keeping.{begins}
use Rattle.pb_mail.proofs.queue.open.Goals as goal

pub with_rule-requires : goal.with_rule-requires
with_rule-requires g c = begins _
