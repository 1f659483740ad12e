use Rattle.std.proofs.Common.{◌≤◌, ◌+◌, Some, sym, ap, subst, arith, IsSome}
use Rattle.pb_model.specs.declared.row.Succ.{Succ}
use Rattle.pb_task.specs.Parts.{space_of, greatest_cost}
use Rattle.pb_estimate.specs.Estimates.{estimate_by}
use Rattle.pb_bundles.specs.Parts.{content_in}
use Rattle.pb_estimate.specs.Tables.{IsOfTask}
use Rattle.pb_lease.specs.LeaseValue.{LeaseValue}
use Rattle.pb_lease.specs.Leased.{guide_of}
use Rattle.pb_lease.specs.Rows.{OffersAt}
use Rattle.pb_expand.proofs.Listed.{step_at}
use Rattle.pb_lease.proofs.Callers.{still_there, changes_on, offers_next}
use Rattle.pb_expand.proofs.offers.offer_all.Goals as goal

pub overflow_add-cost : goal.overflow_add-cost
overflow_add-cost c =
    let low : c.succ-item.result.cost ≤ greatest_cost =
    c.requires.proper.bounded _ _ _ _ (step_at (space_of c.args.task.now) c.args.parent.now c.args.succs.now c.loop-succ.succ-index c.succ-item.result c.requires.succs c.loop-succ-test.true c.succ-item.is) in
    omega (arith, low, c.requires.cheap)

pub offer-requires-clause-state : goal.offer-requires-clause-state
offer-requires-clause-state c =
    c.requires.proper.to_state _ _ _ _ (step_at (space_of c.args.task.now) c.args.parent.now c.args.succs.now c.loop-succ.succ-index c.succ-item.result c.requires.succs c.loop-succ-test.true c.succ-item.is)

pub offer-requires-clause-there : goal.offer-requires-clause-there
offer-requires-clause-there c =
    subst (λ block. IsSome (content_in c.loop-succ.lease.parts block)) (sym c.block-block.ensures.block)
    (still_there c.args.lease.now.parts c.loop-succ.lease.parts _ c.loop-succ.invariant.changes.places
    (c.requires.there _ _ _ (step_at (space_of c.args.task.now) c.args.parent.now c.args.succs.now c.loop-succ.succ-index c.succ-item.result c.requires.succs c.loop-succ-test.true c.succ-item.is)))

pub block-block-requires-clause-state : goal.block-block-requires-clause-state
block-block-requires-clause-state c =
    c.requires.proper.to_state _ _ _ _ (step_at (space_of c.args.task.now) c.args.parent.now c.args.succs.now c.loop-succ.succ-index c.succ-item.result c.requires.succs c.loop-succ-test.true c.succ-item.is)

pub loop-succ-preserved : goal.loop-succ-preserved
loop-succ-preserved c =
    let succ : Succ = c.succ-item.result in
    record {
      offers = offers_next (guide_of c.args.task.now c.args.abstraction.now c.args.lease.now.choice) c.args.parent.now c.args.g c.args.succs.now c.loop-succ.succ-index succ c.args.lease.now c.loop-succ.lease c.offer.new.lease
          c.loop-succ-test.true c.succ-item.is c.loop-succ.invariant.offers
          (subst (λ block. OffersAt c.loop-succ.lease c.offer.new.lease block succ.state (c.args.g + succ.cost) (estimate_by c.args.task.now c.args.lease.now.choice succ.state) (Some c.args.parent.now) succ.action) c.block-block.ensures.block (subst (λ h. OffersAt c.loop-succ.lease c.offer.new.lease c.block-block.result succ.state (c.args.g + succ.cost) (estimate_by c.args.task.now h succ.state) (Some c.args.parent.now) succ.action) (ap (λ (l : LeaseValue). l.choice) c.loop-succ.invariant.changes.others) c.in_ok-offer.ensures.rows));
      changes = changes_on c.args.lease.now c.loop-succ.lease c.offer.new.lease c.loop-succ.invariant.changes c.in_ok-offer.ensures.changes;
      tables = subst (IsOfTask c.offer.new.estimator c.args.task.now) (ap (λ (l : LeaseValue). l.choice) c.loop-succ.invariant.changes.others) c.in_ok-offer.ensures.tables;
    }

pub offer-requires-clause-tables : goal.offer-requires-clause-tables
offer-requires-clause-tables c = subst (IsOfTask c.loop-succ.estimator c.args.task.now) (sym (ap (λ (l : LeaseValue). l.choice) c.loop-succ.invariant.changes.others)) c.loop-succ.invariant.tables

pub returns-in_err-offer-clause-tables : goal.returns-in_err-offer-clause-tables
returns-in_err-offer-clause-tables c = subst (IsOfTask c.offer.new.estimator c.args.task.now) (ap (λ (l : LeaseValue). l.choice) c.loop-succ.invariant.changes.others) c.in_err-offer.ensures.tables
