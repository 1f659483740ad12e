use Rattle.std.proofs.Common.{true, sym, subst}
use Rattle.pb_lease.specs.LeaseValue.{LeaseValue}
use Rattle.pb_yard.specs.declared.view.View.{View}
use Rattle.pb_yard.specs.Passes.{view_of}
use Rattle.pb_yard.specs.Order.{HasStopped}
use Rattle.pb_yard.specs.Returning.{IsBrought}
use Rattle.pb_yard.specs.Calls.{IsActive, KeepsWorkers}
use Rattle.pb_yard.proofs.Told.{released_ready, released_keeps, keeps_on, switched_bring, switched_active, switched_keeps}
use Rattle.pb_yard.proofs.tests.switch_twice.Goals as goal

pub go_over-next-requires-clause-brought : goal.go_over-next-requires-clause-brought
go_over-next-requires-clause-brought g c =
    let a = c.lease_and_work-lease in
    let t = c.try_beside-lease in
    subst (λ (u : View). IsBrought u 0 t.result) (sym t.ensures.view) (subst (λ (l : LeaseValue). IsBrought (view_of a.new.pass) 0 l) (sym t.ensures.lease) a.ensures.brought)

pub go_over-next-requires-clause-cause : goal.go_over-next-requires-clause-cause
go_over-next-requires-clause-cause g c = subst (λ (l : LeaseValue). HasStopped l) (sym c.try_beside-lease.ensures.lease) c.lease_and_work-lease.ensures.cause

pub release-requires-clause-brought : goal.release-requires-clause-brought
release-requires-clause-brought g c =
    let p = c.try_beside-lease.new.pass in
    let o = c.go_over-next in
    switched_bring c.try_beside-lease.result (view_of p) (view_of o.new.pass) o.result o.ensures.switched o.new.pass.is_live 1

pub sign_off-requires-clause-ready : goal.sign_off-requires-clause-ready
sign_off-requires-clause-ready g c =
    let p = c.try_beside-lease.new.pass in
    let o = c.go_over-next in
    let active : IsActive (view_of p) = subst IsActive (sym c.try_beside-lease.ensures.view) c.lease_and_work-lease.ensures.active in
    released_ready o.result true (view_of o.new.pass) (view_of c.release.new.pass) c.release.ensures.released
    (switched_active c.try_beside-lease.result (view_of p) (view_of o.new.pass) o.result o.ensures.switched active)

pub returns-clause-workers : goal.returns-clause-workers
returns-clause-workers g c =
    let v = view_of c.args.pass in
    let a = c.lease_and_work-lease in
    let t = c.try_beside-lease in
    let o = c.go_over-next in
    let r = view_of c.release.new.pass in
    let s = view_of c.sign_off.result in
    let first : KeepsWorkers v (view_of t.new.pass) = subst (λ (u : View). KeepsWorkers v u) (sym t.ensures.view) a.ensures.workers in
    let over = switched_keeps t.result (view_of t.new.pass) (view_of o.new.pass) o.result o.ensures.switched in
    let home = released_keeps o.result true (view_of o.new.pass) r c.release.ensures.released in
    keeps_on v (view_of t.new.pass) s first (keeps_on (view_of t.new.pass) (view_of o.new.pass) s over (keeps_on (view_of o.new.pass) r s home c.sign_off.ensures.workers))
