use Rattle.std.proofs.Common.{vec_len}
use Rattle.pb_mail.proofs.lifecycle.end_queues.Given as goal

abbrev pub decreases-loop-queue : goal.decreases-loop-queue
decreases-loop-queue g l = vec_len l.queues
