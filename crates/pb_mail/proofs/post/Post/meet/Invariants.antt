use Rattle.std.proofs.Common.{vec_len}
use Rattle.pb_mail.proofs.Meeting.{HasMetFrom}
use Rattle.pb_mail.proofs.post.Post.meet.Given as goal

abbrev pub invariant-loop-queue_pass : goal.invariant-loop-queue_pass
invariant-loop-queue_pass g l = record { met : HasMetFrom l.self l.fn.pass l.fn.other l.pass (vec_len l.queue_passes) l.queue_passes.items }

abbrev pub decreases-loop-queue_pass : goal.decreases-loop-queue_pass
decreases-loop-queue_pass g l = vec_len l.queue_passes
