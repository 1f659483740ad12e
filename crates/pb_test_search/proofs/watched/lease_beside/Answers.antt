use Rattle.std.proofs.Common.{subst}
use Rattle.pb_lease.specs.declared.answer.LeaseReply.{LeaseReply}
use Rattle.pb_yard.specs.Passes.{view_of, worker_of}
use Rattle.pb_yard.specs.Calls.{Leases}
use Rattle.pb_workers.proofs.Callers.{leased_then}
use Rattle.pb_test_search.proofs.watched.lease_beside.Goals as goal

pub work_beside-requires-clause-leased : goal.work_beside-requires-clause-leased
work_beside-requires-clause-leased g c =
    let p = c.args.watch.now.pass in
    leased_then c.args.task.now c.args.abstraction.now (worker_of p) (view_of p) (view_of c.lease.new.pass) c.requires.idle c.in-Leased.lease
    (subst (λ (r : LeaseReply). Leases (worker_of p) (view_of p) r (view_of c.lease.new.pass)) c.in-Leased.is c.lease.ensures.leased)
