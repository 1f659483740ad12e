use Rattle.std.proofs.Common.{◌≡◌, ◌+◌, ◌++◌, ◌∷◌, [], take, get_or, sym, ap, subst, ◌∙◌, true≢false, add-one}
use Rattle.std.proofs.Math.Seq.{take-suc}
use Rattle.std.proofs.lemmas.List.{take_all}
use Rattle.pb_bundles.specs.Homes.{key_at}
use Rattle.pb_bundles.specs.Moves.{is_among}
use Rattle.pb_bundles.specs.Choosing.{IsRivalBy}
use Rattle.pb_bundles.proofs.Orders.{rival_more, rival_skip}
use Rattle.pb_bundles.proofs.homes.Homes.rival.Goals as goal
use Rattle.pb_bundles.proofs.homes.Homes.rival.Goals.{then-is_better, else-is_better}

pub loop-other-preserved : goal.loop-other-preserved
loop-other-preserved c =
    let near = c.args.near.now in
    let at = c.loop-other.other-index in
    let other = get_or near at 0 in
    let keys = key_at c.args.self.now in
    let block = c.args.block in
    let front : take (at + 1) near ≡ take at near ++ other ∷ [] = ap (λ n. take n near) (add-one at) ∙ take-suc near at 0 c.loop-other-test.true in
    subst (λ list. IsRivalBy (is_among list) keys block c.if-is_better.best) (sym front) (elim c.if-is_better.branch [
      | then-is_better w ↦
          subst (IsRivalBy (is_among (take at near ++ other ∷ [])) keys block) (sym w.best-is)
          (rival_more (take at near) other keys block c.loop-other.best w.better_of-best.result (c.is_better.ensures.0 w.if-is_better.true) c.loop-other.invariant w.better_of-best.ensures)
      | else-is_better w ↦
          subst (IsRivalBy (is_among (take at near ++ other ∷ [])) keys block) (sym w.best-is)
          (rival_skip (take at near) other keys block c.loop-other.best (λ is. true≢false (sym (c.is_better.ensures.1 is) ∙ w.if-is_better.false)) c.loop-other.invariant)
    ])

pub returns : goal.returns
returns c =
    let near = c.args.near.now in
    subst (λ list. IsRivalBy (is_among list) (key_at c.args.self.now) c.args.block c.loop-other.best) (take_all c.loop-other.other-index near c.loop-other-test.false) c.loop-other.invariant
