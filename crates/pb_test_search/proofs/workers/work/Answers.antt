use Rattle.std.proofs.Common.{is_some, ap, ◌∙◌, subst, true, false}
use Rattle.pb_lease.specs.declared.answer.LeaseReply.{LeaseReply}
use Rattle.pb_yard.specs.Passes.{view_of, worker_of}
use Rattle.pb_yard.specs.Calls.{Leases}
use Rattle.pb_yard.proofs.Callers.{may_bring, leased_active, leased_keeps, released_ready, released_keeps, keeps_on, ends_are_seen, signing_off_is_seen}
use Rattle.pb_test_search.proofs.workers.work.Goals as goal

pub release-requires-clause-brought : goal.release-requires-clause-brought
release-requires-clause-brought g c =
    let p = c.loop.pass in
    let q = c.lease.new.pass in
    may_bring (worker_of p) (view_of p) (view_of q) _ (subst (λ (r : LeaseReply). Leases (worker_of p) (view_of p) r (view_of q)) c.in-Leased.is c.lease.ensures.leased) q.is_live 1

pub loop-preserved-in-Leased : goal.loop-preserved-in-Leased
loop-preserved-in-Leased g c =
    let i = c.loop.invariant in
    let p = c.loop.pass in
    let q = c.lease.new.pass in
    let r = c.release.new.pass in
    record {
      can_next = tt;
      is_finite = tt;
      own = c.release.ensures.same.0.0.0 ∙ c.lease.ensures.same.0.0.0 ∙ i.own;
      parts = c.release.ensures.same.1 ∙ c.lease.ensures.same.1 ∙ i.parts;
      workers = keeps_on _ (view_of q) (view_of r) (keeps_on _ (view_of p) (view_of q) i.workers (leased_keeps (worker_of p) (view_of p) (view_of q) c.lease.result c.lease.ensures.leased))
          (released_keeps _ _ (view_of q) (view_of r) c.release.ensures.released);
      ready = released_ready _ _ (view_of q) (view_of r) c.release.ensures.released (leased_active (worker_of p) (view_of p) (view_of q) c.lease.result c.lease.ensures.leased i.ready.1);
    }

pub sign_off-requires-clause-cause : goal.sign_off-requires-clause-cause
sign_off-requires-clause-cause g c =
    let p = c.loop.pass in
    let q = c.lease.new.pass in
    ap is_some (ends_are_seen (worker_of p) (view_of p) (view_of q) _ (subst (λ (r : LeaseReply). Leases (worker_of p) (view_of p) r (view_of q)) c.in-Over.is c.lease.ensures.leased))

pub returns-in-Over-clause-off : goal.returns-in-Over-clause-off
returns-in-Over-clause-off g c =
    let q = c.lease.new.pass in
    signing_off_is_seen (worker_of q) false (view_of q) (view_of c.sign_off.new.pass) q.worker_is c.sign_off.ensures.signed_off

pub returns-in-Memory-clause-off : goal.returns-in-Memory-clause-off
returns-in-Memory-clause-off g c =
    let q = c.lease.new.pass in
    signing_off_is_seen (worker_of q) true (view_of q) (view_of c.sign_off-in-Memory.new.pass) q.worker_is c.sign_off-in-Memory.ensures.signed_off
