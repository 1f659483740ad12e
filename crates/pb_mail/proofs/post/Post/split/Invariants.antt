use Rattle.std.proofs.Common.{◌≡◌, vec_len, vec_capacity}
use Rattle.pb_mail.proofs.Splitting.{HasCut}
use Rattle.pb_mail.proofs.post.Post.split.Given as goal

abbrev pub invariant-loop-at : goal.invariant-loop-at
invariant-loop-at g l = record {
  cut : HasCut l.self l.fn.pass l.pass l.at l.queue_passes.items;
  number : l.number ≡ l.fn.pass.made;
  len : vec_len l.queue_passes ≡ l.at;
  room : vec_capacity l.queue_passes ≡ vec_len l.self.queues;
}
