use Rattle.pb_mail.proofs.Emptiness.{gives_none_exactly}
use Rattle.pb_mail.proofs.post.Post.clear_next.Goals as goal

pub returns-clause-exact : goal.returns-clause-exact
returns-clause-exact g c = gives_none_exactly _ _ _ _ _ c.take_from.ensures.some c.take_from.ensures.none
