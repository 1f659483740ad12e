use Rattle.std.proofs.Common.{◌+◌, ◌-◌, ◌*◌, ◌<◌, subst, ◌∙◌, arith, length-set}
use Rattle.pb_bundles.specs.Tree.{IsWonBy, node}
use Rattle.pb_bundles.proofs.Trees.{won_set}
use Rattle.pb_bundles.proofs.tree.build.Goals as goal

pub loop-at-preserved : goal.loop-at-preserved
loop-at-preserved c =
    let keys = c.args.keys.now in
    let at = c.loop-at.at - 1 in
    let winners = c.loop-at.winners.items in
    let more : 1 < c.loop-at.at = c.loop-at-test.true in
    record {
      places = length-set winners at c.winner_at.result ∙ c.loop-at.invariant.places;
      within = omega (arith, c.loop-at.invariant.within);
      won = λ j ge high low.
          won_set keys winners at c.winner_at.result (omega (arith, more)) (omega (arith, more, c.loop-at.invariant.within)) c.loop-at.invariant.places
          (subst (λ w. IsWonBy (node keys w (2 * at)) (node keys w (2 * at + 1)) c.winner_at.result) c.deref.ensures.value c.winner_at.ensures) j
          (λ ne. (c.loop-at.invariant.won j ge (omega (arith, more, high, ne)) low, (λ e. omega (arith, e, high, ge)), (λ e. omega (arith, e, high, ge))));
    }
