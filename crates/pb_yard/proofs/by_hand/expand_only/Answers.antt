use Rattle.std.proofs.Common.{IsSome, sym, ap, subst}
use Rattle.pb_bundles.specs.Parts.{content_in}
use Rattle.pb_lease.specs.LeaseValue.{LeaseValue}
use Rattle.pb_lease.proofs.Callers.{still_there}
use Rattle.pb_yard.proofs.by_hand.expand_only.Goals as goal

pub see_that_none_is_left-requires : goal.see_that_none_is_left-requires
see_that_none_is_left-requires g c =
    let changes = c.expand_first.ensures.changes in
    subst (λ block. IsSome (content_in c.expand_first.new.lease.parts block)) (sym (ap (λ (l : LeaseValue). l.block) changes.others))
    (still_there c.args.lease.now.parts c.expand_first.new.lease.parts c.args.lease.now.block changes.places c.requires.own)
