use Rattle.std.proofs.Common.{◌≡◌, ◌+◌, sym, ◌∙◌, refl, arith, subst, vec_len}
use Rattle.pb_mail.proofs.Splitting.{HasCut, cut_none, cut_more, kept_pass, given_pass}
use Rattle.pb_mail.proofs.post.Post.split.Goals as goal

pub loop-at-init : goal.loop-at-init
loop-at-init g c = record {
  cut = subst (HasCut c.args.self.now c.args.pass.now c.args.pass.now 0) (sym c.in_ok-queue_passes.ensures.items)
      (cut_none c.args.self.now c.args.pass.now (record { many = c.requires.own.many; queue_passes = λ owner queue_pass less queue. c.requires.own.queue_passes owner queue queue_pass less }));
  number = refl;
  len = c.in_ok-queue_passes.ensures.len;
  room = c.in_ok-queue_passes.ensures.exact ∙ c.len.ensures;
}

pub loop-at-preserved : goal.loop-at-preserved
loop-at-preserved g c = record {
  cut = subst (HasCut c.args.self.now c.args.pass.now c.split_at.new.pass (c.loop-at.at + 1)) (sym c.push_reserved.ensures.items)
      (cut_more c.args.self.now c.args.pass.now c.loop-at.pass c.split_at.new.pass c.loop-at.at c.loop-at.queue_passes.items c.split_at.result
      (let t = c.loop-at-test.true in let e = c.len-at-end.ensures in omega arith) c.loop-at.invariant.cut c.split_at.ensures.kept c.split_at.ensures.of_queue c.split_at.ensures.given);
  number = refl;
  len = let e = c.push_reserved.ensures.len in let k = c.loop-at.invariant.len in omega arith;
  room = let e = c.push_reserved.ensures.capacity in let k = c.loop-at.invariant.room in omega arith;
}

pub overflow_add-pass : goal.overflow_add-pass
overflow_add-pass g c = let e = c.loop-at.invariant.cut.made in let k = c.requires.more in let few = c.args.self.now.few in omega arith

-- the loop went through all queues
pub returns-clause-own : goal.returns-clause-own
returns-clause-own g c =
    let all : c.loop-at.at ≡ vec_len c.args.self.now.queues = (let t = c.loop-at-test.false in let e = c.len-at-end.ensures in let a = c.loop-at.auto.at-end in omega arith) in
    kept_pass c.args.self.now c.args.pass.now c.loop-at.pass c.loop-at.queue_passes.items c.requires.own c.requires.first c.requires.more
    (subst (λ n. HasCut c.args.self.now c.args.pass.now c.loop-at.pass n c.loop-at.queue_passes.items) all c.loop-at.invariant.cut) _ refl

pub returns-clause-given : goal.returns-clause-given
returns-clause-given g c =
    let all : c.loop-at.at ≡ vec_len c.args.self.now.queues = (let t = c.loop-at-test.false in let e = c.len-at-end.ensures in let a = c.loop-at.auto.at-end in omega arith) in
    given_pass c.args.self.now c.args.pass.now c.loop-at.pass c.loop-at.queue_passes.items c.requires.own c.requires.first c.requires.more
    (subst (λ n. HasCut c.args.self.now c.args.pass.now c.loop-at.pass n c.loop-at.queue_passes.items) all c.loop-at.invariant.cut) _ refl (c.loop-at.invariant.len ∙ all) refl refl
