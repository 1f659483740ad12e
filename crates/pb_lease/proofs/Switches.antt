-- A worker whose lease came back may lease again.
use Rattle.std.proofs.Common.{◌≡◌, ◌<◌, false, None, sym, ap, ◌∙◌, subst, is_some, true≢false}
use Rattle.pb_model.proofs.Callers.{by_cases, equal_self}
use Rattle.pb_machine.specs.declared.settings.Settings.{Settings}
use Rattle.pb_machine.specs.Counts.{Counts}
use Rattle.pb_machine.proofs.Callers.{entry_here}
use Rattle.pb_lease.specs.LeaseValue.{LeaseValue}
use Rattle.pb_lease.specs.Leased.{grant_of}
use Rattle.pb_lease.specs.GraphValue.{GraphValue, counts_in, IsLeaseGraph, IsOfGraph}
use Rattle.pb_lease.specs.Steps.{IsReleased}
use Rattle.pb_lease.proofs.GraphBasics.{lawful_in}

module _ (old : GraphValue) (k : IsLeaseGraph old) (lease : LeaseValue) (of : IsOfGraph old lease) (new : GraphValue) (r : IsReleased old lease false new) where
  pub worker_known : lease.worker < new.table.settings.workers
  worker_known = subst (λ (s : Settings). lease.worker < s.workers) (sym r.events.settings) ((lawful_in old k).known lease.worker (grant_of lease) of.leased).0

  pub worker_vacant : (counts_in new).leases lease.worker ≡ None
  worker_vacant = ap (λ (c : Counts). c.leases lease.worker) r.events.counts ∙ entry_here (counts_in old).leases lease.worker lease.worker None (equal_self lease.worker)

  pub worker_stays : (counts_in new).signed_off lease.worker ≡ false
  worker_stays = ap (λ (c : Counts). c.signed_off lease.worker) r.events.counts ∙ by_cases ((counts_in old).signed_off lease.worker)
      (λ e. absurd (true≢false (ap is_some (sym of.leased ∙ ((lawful_in old k).off lease.worker e).1))))
      (λ e. e)
