use Rattle.std.proofs.Common.{ap, Some}
use Rattle.pb_lists.specs.Bundle.{Content}
use Rattle.pb_lease.proofs.Callers.{changes, offered}
use Rattle.pb_yard.proofs.ByHand.{when_ok}
use Rattle.pb_yard.proofs.by_hand.offer.Goals as goal

pub returns-clause-rows : goal.returns-clause-rows
returns-clause-rows g c =
    offered c.args.lease.now c.args.block c.bundle_mut-bundle.result.now c.offer.new.self c.bundle_mut-bundle.ensures.value c.args.succ.now.state c.args.g c.args.estimate
    (Some c.args.parent.now) c.args.succ.now.action (when_ok c.offer.result c.expect.result c.expect.ensures c.offer.ensures.sets)

pub returns-clause-changes : goal.returns-clause-changes
returns-clause-changes g c =
    changes c.args.lease.now c.args.block c.bundle_mut-bundle.result.now c.offer.new.self c.bundle_mut-bundle.ensures.value
    (ap (λ (b : Content). b.weight) (when_ok c.offer.result c.expect.result c.expect.ensures c.offer.ensures.put))
