use Rattle.std.proofs.Common.{ap, Some}
use Rattle.pb_estimate.specs.Estimates.{estimate_by}
use Rattle.pb_lists.specs.Bundle.{Content}
use Rattle.pb_lease.proofs.Callers.{changes, known_offered, new_offered, unchanged, on_err, on_ok, if_ok, if_err}
use Rattle.pb_expand.proofs.bundles.offer.Goals as goal

pub returns-in_err-offer_at-in-Some-clause-changes : goal.returns-in_err-offer_at-in-Some-clause-changes
returns-in_err-offer_at-in-Some-clause-changes c =
    changes c.args.lease.now c.args.block c.bundle_mut-bundle.result.now c.offer_at.new.self c.bundle_mut-bundle.ensures.value (ap (λ (b : Content). b.weight) c.in_err-offer_at-in-Some.ensures.err)

pub returns-in_err-offer_at-in-Some-clause-err : goal.returns-in_err-offer_at-in-Some-clause-err
returns-in_err-offer_at-in-Some-clause-err c =
    on_err c.from_residual.result _ (unchanged c.args.lease.now c.args.block c.bundle_mut-bundle.result.now c.offer_at.new.self c.bundle_mut-bundle.ensures.value c.in_err-offer_at-in-Some.ensures.err)

pub returns-in_ok-offer_at-in-Some-clause-rows : goal.returns-in_ok-offer_at-in-Some-clause-rows
returns-in_ok-offer_at-in-Some-clause-rows c =
    let found = c.in-Some.ensures.some in
    known_offered c.args.lease.now c.args.block c.bundle_mut-bundle.result.now c.offer_at.new.self c.bundle_mut-bundle.ensures.value c.args.succ.now.state c.args.g
    (estimate_by c.args.task.now c.args.lease.now.choice c.args.succ.now.state) (Some c.args.parent.now) c.args.succ.now.action found.0 found.1 (c.in_ok-offer_at-in-Some.ensures.sets _ _ found.2)

pub returns-in_ok-offer_at-in-Some-clause-changes : goal.returns-in_ok-offer_at-in-Some-clause-changes
returns-in_ok-offer_at-in-Some-clause-changes c =
    changes c.args.lease.now c.args.block c.bundle_mut-bundle.result.now c.offer_at.new.self c.bundle_mut-bundle.ensures.value
    (ap (λ (b : Content). b.weight) (c.in_ok-offer_at-in-Some.ensures.put _ _ c.in-Some.ensures.some.2))

pub returns-in-None-clause-rows : goal.returns-in-None-clause-rows
returns-in-None-clause-rows c =
    on_ok c.offer_new.result _ _
    (new_offered c.args.lease.now c.args.block c.bundle_mut-bundle.result.now c.offer_new.new.self c.bundle_mut-bundle.ensures.value c.args.succ.now.state c.args.g c.estimate-estimate.result
    (estimate_by c.args.task.now c.args.lease.now.choice c.args.succ.now.state) (Some c.args.parent.now) c.args.succ.now.action c.in-None.ensures.none (c.estimate-estimate.ensures.estimate c.args.lease.now.choice c.requires.tables)) c.offer_new.ensures.sets

pub returns-in-None-clause-changes : goal.returns-in-None-clause-changes
returns-in-None-clause-changes c =
    changes c.args.lease.now c.args.block c.bundle_mut-bundle.result.now c.offer_new.new.self c.bundle_mut-bundle.ensures.value
    (if_ok c.offer_new.result _ _ (λ put. ap (λ (b : Content). b.weight) put) (λ same. ap (λ (b : Content). b.weight) same) c.offer_new.ensures.put c.offer_new.ensures.err)

pub returns-in-None-clause-err : goal.returns-in-None-clause-err
returns-in-None-clause-err c =
    if_err c.offer_new.result _ _ (unchanged c.args.lease.now c.args.block c.bundle_mut-bundle.result.now c.offer_new.new.self c.bundle_mut-bundle.ensures.value) c.offer_new.ensures.err

pub estimate-estimate-requires-clause-task : goal.estimate-estimate-requires-clause-task
estimate-estimate-requires-clause-task c = (c.args.lease.now.choice, c.requires.tables)

pub returns-in-None-clause-tables : goal.returns-in-None-clause-tables
returns-in-None-clause-tables c = c.estimate-estimate.ensures.task c.args.lease.now.choice c.requires.tables
