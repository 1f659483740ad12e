use Rattle.std.proofs.Common.{◌≡◌, length, sym, ◌∙◌}
use Rattle.pb_yard.proofs.ByHand.{one_succ}
use Rattle.pb_yard.proofs.by_hand.only_successor.Goals as goal

pub returns-clause-only : goal.returns-clause-only
returns-clause-only g c =
    let succs = c.as_slice-found.result.now in
    let long : length succs ≡ 1 = c.if-found-ne1.false in
    sym c.successors.ensures.successors ∙ sym c.as_slice-found.ensures.value ∙ one_succ succs c.index-found-0.result long (sym c.index-found-0.is)
