use Rattle.std.proofs.Common.{◌+◌, ◌*◌, ◌<◌, subst, ◌∙◌, arith, length-set}
use Rattle.pb_bundles.specs.Tree.{IsWonBy, node}
use Rattle.pb_bundles.proofs.Trees.{won_set}
use Rattle.pb_bundles.proofs.tree.climb.Goals as goal

pub loop-at-preserved : goal.loop-at-preserved
loop-at-preserved c =
    let keys = c.args.keys.now in
    let at = c.loop-at.at in
    let winners = c.loop-at.winners.items in
    let more : 0 < at = c.loop-at-test.true in
    record {
      places = length-set winners at c.winner_at.result ∙ c.loop-at.invariant.places;
      within = omega (arith, c.loop-at.invariant.within);
      won = λ j ge low apart.
          won_set keys winners at c.winner_at.result (omega (arith, more)) c.loop-at.invariant.within c.loop-at.invariant.places
          (subst (λ w. IsWonBy (node keys w (2 * at)) (node keys w (2 * at + 1)) c.winner_at.result) c.deref.ensures.value c.winner_at.ensures) j
          (λ ne. (c.loop-at.invariant.won j ge low ne, (λ e. apart (omega (arith, e))), (λ e. apart (omega (arith, e)))));
    }
