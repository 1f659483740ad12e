use Rattle.std.proofs.Common.{◌≡◌, ◌≢◌, ◌+◌, ◌≤◌, ◌%◌, take, sym, ap, ◌∙◌, subst, arith}
use Rattle.pb_model.specs.declared.row.Succ.{Succ}
use Rattle.pb_model.specs.Guide.{Guide}
use Rattle.pb_task.specs.Parts.{greatest_cost}
use Rattle.pb_mail.specs.Passes.{ChangesAt, view_at}
use Rattle.pb_mail.specs.Views.{sent_view}
use Rattle.pb_hashed.specs.MailWork.{letter_for}
use Rattle.pb_owner.specs.declared.share.Share.{Share}
use Rattle.pb_owner.specs.Plans.{space_in, guide_in}
use Rattle.pb_owner.specs.Expanding.{HasOffered}
use Rattle.pb_owner.proofs.Offering.{step_at, offered_own, offered_far, next_of}
use Rattle.pb_owner.proofs.expanding.offer_all.Goals as goal
use Rattle.pb_owner.proofs.expanding.offer_all.Goals.{then-to-round+in-Ok, else-to-round+in-Ok-send}

pub overflow_add-letter : goal.overflow_add-letter
overflow_add-letter g c =
    let low : c.succ-item.result.cost ≤ greatest_cost =
    c.requires.proper.bounded _ _ _ _ (step_at (space_in c.args.round.now.plan.now) c.args.parent.now.0 c.args.succs.now c.loop-succ.succ-index c.succ-item.result c.requires.succs c.loop-succ-test.true c.succ-item.is) in
    omega (arith, low, c.requires.cheap)

pub block-requires-clause-state : goal.block-requires-clause-state
block-requires-clause-state g c =
    c.requires.proper.to_state _ _ _ _ (step_at (space_in c.args.round.now.plan.now) c.args.parent.now.0 c.args.succs.now c.loop-succ.succ-index c.succ-item.result c.requires.succs c.loop-succ-test.true c.succ-item.is)

pub offer-requires-clause-state : goal.offer-requires-clause-state
offer-requires-clause-state g c =
    c.requires.proper.to_state _ _ _ _ (step_at (space_in c.args.round.now.plan.now) c.args.parent.now.0 c.args.succs.now c.loop-succ.succ-index c.succ-item.result c.requires.succs c.loop-succ-test.true c.succ-item.is)

pub send-requires-clause-fit : goal.send-requires-clause-fit
send-requires-clause-fit g c =
    c.requires.fits c.succ-item.result.state
    (c.requires.proper.to_state _ _ _ _ (step_at (space_in c.args.round.now.plan.now) c.args.parent.now.0 c.args.succs.now c.loop-succ.succ-index c.succ-item.result c.requires.succs c.loop-succ-test.true c.succ-item.is))

pub loop-succ-preserved : goal.loop-succ-preserved
loop-succ-preserved g c = elim c.if-to-round.branch [
  | then-to-round+in-Ok w ↦
      let guide : Guide = guide_in c.args.round.now.plan.now in
      let y : Succ = c.succ-item.result in
      let at : guide.home y.state ≡ c.args.round.now.number = sym (ap (λ b. b % c.args.round.now.plan.now.owners) c.block.ensures.block) ∙ w.if-to-round.true in
      let more = offered_own guide c.args.round.now.number c.args.parent.now.0 c.args.parent.now.1.g c.args.round.now.post.now (take c.loop-succ.succ-index c.args.succs.now) y c.args.share.now c.loop-succ.share w.offer.new.share c.args.pass.now c.loop-succ.pass
      c.loop-succ.invariant.offers at w.in-Ok.ensures.rows w.offer.ensures.weight w.offer.ensures.incumbent in
      let next = next_of (λ ys. HasOffered guide c.args.round.now.number c.args.parent.now.0 c.args.parent.now.1.g ys c.args.round.now.post.now c.args.share.now w.offer.new.share c.args.pass.now c.loop-succ.pass) c.args.succs.now c.loop-succ.succ-index y c.loop-succ-test.true c.succ-item.is more in
      record {
        offers = subst (λ (s : Share). HasOffered guide c.args.round.now.number c.args.parent.now.0 c.args.parent.now.1.g (take (c.loop-succ.succ-index + 1) c.args.succs.now) c.args.round.now.post.now c.args.share.now s c.args.pass.now c.if-to-round.pass) (sym w.share-is)
            (subst (λ p. HasOffered guide c.args.round.now.number c.args.parent.now.0 c.args.parent.now.1.g (take (c.loop-succ.succ-index + 1) c.args.succs.now) c.args.round.now.post.now c.args.share.now w.offer.new.share c.args.pass.now p) (sym w.pass-is) next);
        tables = rw w.estimator-is w.offer.ensures.tables;
      }
  | else-to-round+in-Ok-send w ↦
      let guide : Guide = guide_in c.args.round.now.plan.now in
      let y : Succ = c.succ-item.result in
      let to : c.block.result % c.args.round.now.plan.now.owners ≡ guide.home y.state = ap (λ b. b % c.args.round.now.plan.now.owners) c.block.ensures.block in
      let off : guide.home y.state ≢ c.args.round.now.number = (λ h. w.if-to-round.false (to ∙ h)) in
      let change : ChangesAt c.loop-succ.pass w.send.new.pass (guide.home y.state) (sent_view (view_at c.loop-succ.pass (guide.home y.state)) (letter_for c.args.parent.now.0 c.args.parent.now.1.g y)) =
      subst (λ k. ChangesAt c.loop-succ.pass w.send.new.pass k (sent_view (view_at c.loop-succ.pass k) (letter_for c.args.parent.now.0 c.args.parent.now.1.g y))) to w.in-Ok-send.ensures.ok in
      let more = offered_far guide c.args.round.now.number c.args.parent.now.0 c.args.parent.now.1.g c.args.round.now.post.now (take c.loop-succ.succ-index c.args.succs.now) y c.args.share.now c.loop-succ.share c.args.pass.now c.loop-succ.pass w.send.new.pass
      c.loop-succ.invariant.offers off w.send.ensures.own w.send.ensures.number w.send.ensures.made change in
      let next = next_of (λ ys. HasOffered guide c.args.round.now.number c.args.parent.now.0 c.args.parent.now.1.g ys c.args.round.now.post.now c.args.share.now c.loop-succ.share c.args.pass.now w.send.new.pass) c.args.succs.now c.loop-succ.succ-index y c.loop-succ-test.true c.succ-item.is more in
      record {
        offers = subst (λ (s : Share). HasOffered guide c.args.round.now.number c.args.parent.now.0 c.args.parent.now.1.g (take (c.loop-succ.succ-index + 1) c.args.succs.now) c.args.round.now.post.now c.args.share.now s c.args.pass.now c.if-to-round.pass) (sym w.share-is)
            (subst (λ p. HasOffered guide c.args.round.now.number c.args.parent.now.0 c.args.parent.now.1.g (take (c.loop-succ.succ-index + 1) c.args.succs.now) c.args.round.now.post.now c.args.share.now c.loop-succ.share c.args.pass.now p) (sym w.pass-is) next);
        tables = rw w.estimator-is c.loop-succ.invariant.tables;
      }
]
