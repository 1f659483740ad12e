use Rattle.std.proofs.Common.{subst}
use Rattle.pb_lease.specs.declared.answer.LeaseReply.{LeaseReply}
use Rattle.pb_yard.specs.Passes.{view_of, worker_of}
use Rattle.pb_yard.specs.Calls.{Leases}
use Rattle.pb_yard.proofs.Told.{may_bring, leased_active, leased_keeps, keeps_on, kept_before, released_keeps, released_ready}
use Rattle.pb_yard.proofs.tests.return_early.Goals as goal

pub release-requires-clause-brought : goal.release-requires-clause-brought
release-requires-clause-brought g c =
    let p = c.args.pass.now in
    let q = c.lease-reply.new.pass in
    let l = c.leased-lease.result in
    may_bring (worker_of p) (view_of p) (view_of q) l (subst (λ (r : LeaseReply). Leases (worker_of p) (view_of p) r (view_of q)) c.leased-lease.ensures c.lease-reply.ensures.leased) q.is_live 0

pub release-requires-clause-cause : goal.release-requires-clause-cause
release-requires-clause-cause g c = λ order.
    let p = c.args.pass.now in
    absurd (c.requires.left (kept_before (view_of p) (view_of c.lease-reply.new.pass) (leased_keeps (worker_of p) (view_of p) (view_of c.lease-reply.new.pass) c.lease-reply.result c.lease-reply.ensures.leased) order))

pub returns-clause-workers : goal.returns-clause-workers
returns-clause-workers g c =
    let p = c.args.pass.now in
    let q = c.lease-reply.new.pass in
    keeps_on (view_of p) (view_of q) (view_of c.release.new.pass) (leased_keeps (worker_of p) (view_of p) (view_of q) c.lease-reply.result c.lease-reply.ensures.leased)
    (released_keeps _ _ (view_of q) (view_of c.release.new.pass) c.release.ensures.released)

pub returns-clause-ready : goal.returns-clause-ready
returns-clause-ready g c =
    let p = c.args.pass.now in
    let q = c.lease-reply.new.pass in
    released_ready _ _ (view_of q) (view_of c.release.new.pass) c.release.ensures.released (leased_active (worker_of p) (view_of p) (view_of q) c.lease-reply.result c.lease-reply.ensures.leased c.requires.ready.1)
