use Rattle.std.proofs.Common.{◌≡◌, vec_len, vec_capacity}
use Rattle.pb_mail.proofs.Opening.{AreOpened}
use Rattle.pb_mail.proofs.post.Post.new.Given as goal

abbrev pub invariant-loop-i : goal.invariant-loop-i
invariant-loop-i g l = record {
  opened : AreOpened l.queues.items l.queue_passes.items;
  queue_passes : vec_len l.queue_passes ≡ l._i;
  queues : vec_len l.queues ≡ l._i;
  queue_passes_room : vec_capacity l.queue_passes ≡ l.owners;
  queues_room : vec_capacity l.queues ≡ l.owners;
}
