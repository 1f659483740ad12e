use Rattle.std.proofs.Common.{ap, ◌∙◌, refl, arith}
use Rattle.pb_mail.specs.declared.view.View.{View}
use Rattle.pb_mail.specs.Views.{sent_view}
use Rattle.pb_mail.proofs.Passing.{viewed, still_at, changes, same}
use Rattle.pb_mail.proofs.post.Post.send.Goals as goal

pub returns-in-Ok-clause-own : goal.returns-in-Ok-clause-own
returns-in-Ok-clause-own g c =
    still_at c.args.self.now c.args.pass.now c.requires.own c.args.to c.send.new.queue_pass c.requires.to c.index.result.now c.index_mut.result.now c.index.ensures c.index_mut.ensures.value c.in-Ok.ensures.own
    (sent_view c.index_mut.result.now.me.view.client c.args.letter) c.in-Ok.ensures.ok refl refl refl (λ t. t)

pub returns-in-Ok-clause-ok : goal.returns-in-Ok-clause-ok
returns-in-Ok-clause-ok g c =
    let old = viewed c.args.pass.now c.args.to c.index_mut.result.now (let e = c.requires.own.many in let k = c.requires.to in omega arith) c.index_mut.ensures.value in
    changes c.args.self.now c.args.pass.now c.requires.own c.args.to c.send.new.queue_pass c.requires.to _ (c.in-Ok.ensures.ok ∙ ap (λ (v : View). sent_view v c.args.letter) old)

pub returns-in-Err-clause-own : goal.returns-in-Err-clause-own
returns-in-Err-clause-own g c =
    still_at c.args.self.now c.args.pass.now c.requires.own c.args.to c.send.new.queue_pass c.requires.to c.index.result.now c.index_mut.result.now c.index.ensures c.index_mut.ensures.value c.in-Err.ensures.own
    c.index_mut.result.now.me.view.client c.in-Err.ensures.err refl refl refl (λ t. t)

pub returns-in-Err-clause-err : goal.returns-in-Err-clause-err
returns-in-Err-clause-err g c =
    let old = viewed c.args.pass.now c.args.to c.index_mut.result.now (let e = c.requires.own.many in let k = c.requires.to in omega arith) c.index_mut.ensures.value in
    same c.args.self.now c.args.pass.now c.requires.own c.args.to c.send.new.queue_pass c.requires.to (c.in-Err.ensures.err ∙ old)
