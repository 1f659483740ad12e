use Rattle.std.proofs.Common.{refl, subst}
use Rattle.std.proofs.Common.{◌∙◌}
use Rattle.pb_mail.specs.Rule.{AreWhole, WasEmpty}
use Rattle.pb_mail.proofs.Passing.{known, still_at, same}
use Rattle.pb_mail.proofs.post.Post.is_empty.Goals as goal

pub returns-clause-own : goal.returns-clause-own
returns-clause-own g c =
    still_at c.args.self.now c.args.pass.now c.requires.own c.args.pass.now.number c.is_empty.new.queue_pass c.requires.own.below c.index.result.now c.index_mut.result.now c.index.ensures c.index_mut.ensures.value c.is_empty.ensures.own
    c.index_mut.result.now.me.view.client c.is_empty.ensures.same refl refl refl (λ t. t)

pub returns-clause-same : goal.returns-clause-same
returns-clause-same g c =
    let old = known c.args.self.now c.args.pass.now c.requires.own c.args.pass.now.number c.requires.own.below c.index_mut.result.now c.index_mut.ensures.value in
    same c.args.self.now c.args.pass.now c.requires.own c.args.pass.now.number c.is_empty.new.queue_pass c.requires.own.below (c.is_empty.ensures.same ∙ old)

pub returns-clause-none : goal.returns-clause-none
returns-clause-none g c =
    let old = known c.args.self.now c.args.pass.now c.requires.own c.args.pass.now.number c.requires.own.below c.index_mut.result.now c.index_mut.ensures.value in
    λ is. subst AreWhole old (c.is_empty.ensures.none is)

pub returns-clause-empty : goal.returns-clause-empty
returns-clause-empty g c =
    let old = known c.args.self.now c.args.pass.now c.requires.own c.args.pass.now.number c.requires.own.below c.index_mut.result.now c.index_mut.ensures.value in
    λ is. subst (WasEmpty g.K.LetterRule.fits) old (c.is_empty.ensures.empty is)
