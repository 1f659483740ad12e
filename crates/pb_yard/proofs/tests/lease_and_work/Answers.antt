use Rattle.std.proofs.Common.{ap, ◌∙◌, subst, inr}
use Rattle.pb_lease.specs.declared.answer.LeaseReply.{LeaseReply}
use Rattle.pb_lease.specs.declared.answer.LeaseReply.TheVariants.{Leased}
use Rattle.pb_yard.specs.declared.view.View.{View}
use Rattle.pb_yard.specs.Rule.{was_read}
use Rattle.pb_yard.specs.Passes.{view_of, worker_of}
use Rattle.pb_yard.specs.Calls.{Leases}
use Rattle.pb_yard.proofs.Told.{leased_active, leased_keeps}
use Rattle.pb_yard.proofs.Worked.{lent_weights, own_there, leads_there, worked_brought}
use Rattle.pb_yard.proofs.tests.lease_and_work.Goals as goal

pub expand_only-requires-clause-own : goal.expand_only-requires-clause-own
expand_only-requires-clause-own g c =
    let p = c.args.pass.now in
    let q = c.lease-reply.new.pass in
    let l = c.leased-lease.result in
    let h : Leases (worker_of p) (view_of p) (Leased l) (view_of q) = subst (λ (r : LeaseReply). Leases (worker_of p) (view_of p) r (view_of q)) c.leased-lease.ensures c.lease-reply.ensures.leased in
    let k = leased_keeps (worker_of p) (view_of p) (view_of q) (Leased l) h in
    own_there h.2.left (view_of q) h.2.after q.is_live l (ap (λ (u : View). u.lent) h.2.view) c.args.task.now c.args.abstraction.now (k.task ∙ c.requires.task) (k.abstraction ∙ c.requires.abstraction)

pub expand_only-requires-clause-weights : goal.expand_only-requires-clause-weights
expand_only-requires-clause-weights g c =
    let p = c.args.pass.now in
    let q = c.lease-reply.new.pass in
    let l = c.leased-lease.result in
    let h : Leases (worker_of p) (view_of p) (Leased l) (view_of q) = subst (λ (r : LeaseReply). Leases (worker_of p) (view_of p) r (view_of q)) c.leased-lease.ensures c.lease-reply.ensures.leased in
    let k = leased_keeps (worker_of p) (view_of p) (view_of q) (Leased l) h in
    lent_weights h.2.left (view_of q) h.2.after q.is_live l (ap (λ (u : View). u.lent) h.2.view) c.args.task.now c.args.abstraction.now (k.task ∙ c.requires.task) (k.abstraction ∙ c.requires.abstraction)

pub expand_only-requires-clause-there : goal.expand_only-requires-clause-there
expand_only-requires-clause-there g c =
    let p = c.args.pass.now in
    let q = c.lease-reply.new.pass in
    let l = c.leased-lease.result in
    let h : Leases (worker_of p) (view_of p) (Leased l) (view_of q) = subst (λ (r : LeaseReply). Leases (worker_of p) (view_of p) r (view_of q)) c.leased-lease.ensures c.lease-reply.ensures.leased in
    let k = leased_keeps (worker_of p) (view_of p) (view_of q) (Leased l) h in
    leads_there h.2.left (view_of q) h.2.after q.is_live l (ap (λ (u : View). u.lent) h.2.view) c.args.task.now c.args.abstraction.now (k.task ∙ c.requires.task) (k.abstraction ∙ c.requires.abstraction)

pub returns-clause-brought : goal.returns-clause-brought
returns-clause-brought g c =
    let p = c.args.pass.now in
    let q = c.lease-reply.new.pass in
    let l = c.leased-lease.result in
    let h : Leases (worker_of p) (view_of p) (Leased l) (view_of q) = subst (λ (r : LeaseReply). Leases (worker_of p) (view_of p) r (view_of q)) c.leased-lease.ensures c.lease-reply.ensures.leased in
    let k = leased_keeps (worker_of p) (view_of p) (view_of q) (Leased l) h in
    let e = c.expand_only.ensures in
    worked_brought h.2.left (view_of q) h.2.after q.is_live l (ap (λ (u : View). u.lent) h.2.view) c.args.task.now c.args.abstraction.now (k.task ∙ c.requires.task) (k.abstraction ∙ c.requires.abstraction)
    c.expand_only.new.lease e.changes (ap (λ (u : View). u.told) h.2.view) e.none (e.worked (was_read (view_of q)))

pub returns-clause-cause : goal.returns-clause-cause
returns-clause-cause g c = inr c.expand_only.ensures.empty

pub returns-clause-active : goal.returns-clause-active
returns-clause-active g c =
    let p = c.args.pass.now in
    leased_active (worker_of p) (view_of p) (view_of c.lease-reply.new.pass) c.lease-reply.result c.lease-reply.ensures.leased c.requires.ready.1

pub returns-clause-workers : goal.returns-clause-workers
returns-clause-workers g c =
    let p = c.args.pass.now in
    leased_keeps (worker_of p) (view_of p) (view_of c.lease-reply.new.pass) c.lease-reply.result c.lease-reply.ensures.leased
