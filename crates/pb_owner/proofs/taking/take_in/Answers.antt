use Rattle.std.proofs.Common.{◌++◌, ◌∷◌, []}
use Rattle.pb_mail.specs.declared.letter.Sent.{Sent}
use Rattle.pb_mail.proofs.Callers.{posted_take}
use Rattle.pb_owner.proofs.Taken.{taken_more}
use Rattle.pb_owner.proofs.taking.take_in.Goals as goal

pub loop-preserved : goal.loop-preserved
loop-preserved g c =
    let x : Sent = record { from = c.in-Some-take.field-0-0; letter = c.in-Some-take.letter } in (
      tt,
      tt,
      (
        c.loop.invariant.2.0 ++ x ∷ [],
        posted_take c.args.post.now g.K.LetterRule.fits c.args.pass.now c.loop.pass c.take.new.pass [] c.loop.invariant.2.0 x c.loop.invariant.2.1 c.take.ensures.own c.take.ensures.number c.take.ensures.made c.in-Some-take.ensures.some,
        taken_more c.args.plan.now.task.now c.args.plan.now.choice.now c.loop.invariant.2.0 x c.args.share.now c.loop.share c.offer.new.share c.loop.invariant.2.2 c.in-Ok.ensures.rows c.offer.ensures.weight c.offer.ensures.incumbent,
      ),
      c.offer.ensures.tables,
    )

pub returns-in-Err-clause-broken : goal.returns-in-Err-clause-broken
returns-in-Err-clause-broken g c =
    let x : Sent = record { from = c.in-Some-take.field-0-0; letter = c.in-Some-take.letter } in (
      c.loop.invariant.2.0,
      x,
      posted_take c.args.post.now g.K.LetterRule.fits c.args.pass.now c.loop.pass c.take.new.pass [] c.loop.invariant.2.0 x c.loop.invariant.2.1 c.take.ensures.own c.take.ensures.number c.take.ensures.made c.in-Some-take.ensures.some,
      rw c.in-Err.ensures.err c.loop.invariant.2.2,
    )
