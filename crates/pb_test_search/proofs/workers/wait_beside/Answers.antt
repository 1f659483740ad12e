use Rattle.std.proofs.Common.{subst}
use Rattle.pb_lease.specs.declared.answer.LeaseReply.{LeaseReply}
use Rattle.pb_yard.specs.Passes.{view_of, worker_of}
use Rattle.pb_yard.specs.Calls.{Leases}
use Rattle.pb_yard.proofs.Callers.{may_bring, leased_active, released_ready}
use Rattle.pb_test_search.proofs.workers.wait_beside.Goals as goal

pub release-requires-clause-brought : goal.release-requires-clause-brought
release-requires-clause-brought g c =
    let p = c.args.first.now in
    let q = c.lease.new.pass in
    may_bring (worker_of p) (view_of p) (view_of q) _ (subst (λ (r : LeaseReply). Leases (worker_of p) (view_of p) r (view_of q)) c.in-Leased.is c.lease.ensures.leased) q.is_live 1

pub returns-in-Leased-clause-ready : goal.returns-in-Leased-clause-ready
returns-in-Leased-clause-ready g c =
    let p = c.args.first.now in
    let q = c.lease.new.pass in (
      released_ready _ _ (view_of q) (view_of c.release.new.pass) c.release.ensures.released (leased_active (worker_of p) (view_of p) (view_of q) c.lease.result c.lease.ensures.leased c.requires.ready.0.1),
      c.is_told_to_wait-waits.ensures.ready,
    )
