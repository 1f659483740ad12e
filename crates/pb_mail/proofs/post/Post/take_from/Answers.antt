use Rattle.std.proofs.Common.{◌∙◌, refl, subst}
use Rattle.pb_mail.specs.declared.view.View.{View}
use Rattle.pb_mail.specs.Views.{took_view}
use Rattle.pb_mail.specs.Rule.{IsTaken, AreWhole}
use Rattle.pb_mail.proofs.Passing.{known, still_at, takes_from, same}
use Rattle.pb_mail.proofs.post.Post.take_from.Goals as goal

pub returns-in-Some-clause-own : goal.returns-in-Some-clause-own
returns-in-Some-clause-own g c =
    still_at c.args.self.now c.args.pass.now c.requires.own c.args.owner c.take.new.queue_pass c.requires.below c.index.result.now c.index_mut.result.now c.index.ensures c.index_mut.ensures.value c.take.ensures.own
    (took_view c.index_mut.result.now.me.view.client c.in-Some.taken) c.in-Some.ensures.some.now refl refl refl (λ t. t)

pub returns-in-Some-clause-some : goal.returns-in-Some-clause-some
returns-in-Some-clause-some g c =
    let old = known c.args.self.now c.args.pass.now c.requires.own c.args.owner c.requires.below c.index_mut.result.now c.index_mut.ensures.value in
    takes_from c.args.self.now c.args.pass.now c.requires.own c.args.owner c.take.new.queue_pass c.requires.below _ c.in-Some.taken (subst (λ (v : View). IsTaken _ v c.in-Some.taken c.take.new.queue_pass.me.view.client) old c.in-Some.ensures.some)

pub returns-in-None-clause-own : goal.returns-in-None-clause-own
returns-in-None-clause-own g c =
    still_at c.args.self.now c.args.pass.now c.requires.own c.args.owner c.take.new.queue_pass c.requires.below c.index.result.now c.index_mut.result.now c.index.ensures c.index_mut.ensures.value c.take.ensures.own
    c.index_mut.result.now.me.view.client c.in-None.ensures.same refl refl refl (λ t. t)

pub returns-in-None-clause-none : goal.returns-in-None-clause-none
returns-in-None-clause-none g c =
    let old = known c.args.self.now c.args.pass.now c.requires.own c.args.owner c.requires.below c.index_mut.result.now c.index_mut.ensures.value in
    (same c.args.self.now c.args.pass.now c.requires.own c.args.owner c.take.new.queue_pass c.requires.below (c.in-None.ensures.same ∙ old), subst AreWhole old c.in-None.ensures.none)
