use Rattle.std.proofs.Common.{take}
use Rattle.pb_estimate.specs.Tables.{IsOfTask}
use Rattle.pb_lease.specs.Leased.{guide_of}
use Rattle.pb_lease.specs.Rows.{ChangesRows, HasOffers}
use Rattle.pb_expand.proofs.offers.offer_all.Given as goal

abbrev pub invariant-loop-succ : goal.invariant-loop-succ
invariant-loop-succ l = record {
  offers : HasOffers (guide_of l.task l.abstraction l.initial.lease.choice) l.parent l.g (take l.succ-index l.succs) l.initial.lease l.lease;
  changes : ChangesRows l.initial.lease l.lease;
  tables : IsOfTask l.estimator l.task l.initial.lease.choice;
}
