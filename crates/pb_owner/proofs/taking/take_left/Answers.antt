use Rattle.std.proofs.Common.{◌++◌, ◌∷◌, []}
use Rattle.pb_mail.specs.declared.letter.Sent.{Sent}
use Rattle.pb_owner.proofs.Taken.{taken_more, taken_on, keeps_more}
use Rattle.pb_owner.proofs.taking.take_left.Goals as goal

pub loop-preserved : goal.loop-preserved
loop-preserved g c =
    let x : Sent = record { from = c.in-Some-clear_next.field-0-0; letter = c.in-Some-clear_next.letter } in (
      tt,
      tt,
      (
        c.loop.invariant.2.0 ++ x ∷ [],
        taken_on g.K.LetterRule.fits c.args.owner x c.args.pass.now c.loop.pass c.clear_next.new.pass c.loop.invariant.2.0 c.loop.invariant.2.1 c.in-Some-clear_next.ensures.some,
        taken_more c.args.plan.now.task.now c.args.plan.now.choice.now c.loop.invariant.2.0 x c.args.share.now c.loop.share c.offer.new.share c.loop.invariant.2.2 c.in-Ok.ensures.rows c.offer.ensures.weight c.offer.ensures.incumbent,
      ),
      c.clear_next.ensures.own,
      keeps_more g.K.LetterRule.fits c.args.owner x c.args.pass.now c.loop.pass c.clear_next.new.pass c.loop.invariant.4 c.clear_next.ensures.number c.clear_next.ensures.made c.in-Some-clear_next.ensures.some,
      c.offer.ensures.tables,
    )
