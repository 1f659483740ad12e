use Rattle.std.proofs.Common.{refl, ◌∙◌}
use Rattle.pb_owner.proofs.Expanded.{still_opened, cut_opened, has_expanded, has_broken}
use Rattle.pb_owner.proofs.expanding.expand.Goals as goal

pub close_row-requires : goal.close_row-requires
close_row-requires g c =
    still_opened c.args.round.now c.args.share.now c.args.next.now.0 c.args.next.now.1 c.requires.within.own
    c.requires.next c.as_slice.result.now (c.as_slice.ensures.value ∙ c.successors.ensures.successors) c.args.pass.now c.offer_all.new.pass c.offer_all.new.share c.in-Ok.ensures.offers

pub returns-in-Ok-clause-expanded : goal.returns-in-Ok-clause-expanded
returns-in-Ok-clause-expanded g c =
    has_expanded c.args.round.now c.args.share.now c.args.next.now.0 c.args.next.now.1 c.requires.within.own
    c.requires.next c.as_slice.result.now (c.as_slice.ensures.value ∙ c.successors.ensures.successors) c.args.pass.now c.offer_all.new.pass c.offer_all.new.share (record { bundle = c.close_row.new.self; incumbent = c.offer_all.new.share.incumbent })
    c.in-Ok.ensures.offers c.close_row.ensures.sets refl

pub returns-in-Err-clause-broken : goal.returns-in-Err-clause-broken
returns-in-Err-clause-broken g c =
    has_broken c.args.round.now c.args.share.now c.args.next.now.0 c.args.next.now.1 c.requires.within.own
    c.requires.next c.as_slice.result.now (c.as_slice.ensures.value ∙ c.successors.ensures.successors) c.args.pass.now c.offer_all.new.pass c.offer_all.new.share c.in-Err.ensures.broken.0 c.in-Err.ensures.broken.1 c.in-Err.ensures.broken.2

pub returns-in-Err-clause-opened : goal.returns-in-Err-clause-opened
returns-in-Err-clause-opened g c =
    let still = cut_opened c.args.round.now c.args.share.now c.args.next.now.0 c.args.next.now.1 c.requires.within.own
    c.requires.next c.as_slice.result.now (c.as_slice.ensures.value ∙ c.successors.ensures.successors) c.args.pass.now c.offer_all.new.pass c.in-Err.ensures.broken.0 c.offer_all.new.share c.in-Err.ensures.broken.2 in
    (c.args.next.now.0, still.0, still.1, still.2)
