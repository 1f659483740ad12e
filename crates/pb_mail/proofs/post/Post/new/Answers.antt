use Rattle.std.proofs.Common.{sym, ◌∙◌, refl, arith, subst}
use Rattle.pb_mail.proofs.Opening.{AreOpened, opened_more, opened_pass}
use Rattle.pb_mail.proofs.post.Post.new.Goals as goal

pub loop-i-preserved : goal.loop-i-preserved
loop-i-preserved g c =
    let one = opened_more c.loop-i.queues.items c.loop-i.queue_passes.items c.in-Ok.queue c.in-Ok.queue_pass c.loop-i.invariant.opened c.in-Ok.ensures.0 c.in-Ok.ensures.1 in
    let queues = c.push_reserved.ensures in
    let queue_passes = c.push_reserved-in-Ok.ensures in
    let was = c.loop-i.invariant in record {
      opened = subst (λ xs. AreOpened xs c.push_reserved-in-Ok.new.self.items) (sym queues.items) (subst (AreOpened (_)) (sym queue_passes.items) one);
      queue_passes = let k = queue_passes.len in let e = was.queue_passes in omega arith;
      queues = let k = queues.len in let e = was.queues in omega arith;
      queue_passes_room = let k = queue_passes.capacity in let e = was.queue_passes_room in omega arith;
      queues_room = let k = queues.capacity in let e = was.queues_room in omega arith;
    }

pub returns-clause-own : goal.returns-clause-own
returns-clause-own g c = opened_pass _ _ c.loop-i.invariant.opened (c.loop-i.invariant.queue_passes ∙ sym c.loop-i.invariant.queues) refl refl (let k = c.requires in let e = c.loop-i.invariant.queues in let t = c.loop-i-test.false in let a = c.loop-i.auto in omega arith)
