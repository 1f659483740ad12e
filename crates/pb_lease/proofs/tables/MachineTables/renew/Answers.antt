use Rattle.std.proofs.Common.{◌≡◌, true, Some, Option, ◌∙◌, arith, ap, subst, sym, ◌+◌, ◌-◌, ◌<◌, ◌≤◌, [], ◌∷◌, min, ℕ}
use Rattle.pb_machine.specs.declared.event.Event.TheVariants.{Renew}
use Rattle.pb_machine.specs.declared.event.Grant.{Grant}
use Rattle.pb_machine.specs.Tables.{with_entry}
use Rattle.pb_machine.specs.Counts.{is_lease_of, quota_of}
use Rattle.pb_machine.specs.Choice.{counts_with_lease_home}
use Rattle.pb_lease.specs.declared.seat.Seat.{Seat}
use Rattle.pb_lease.specs.Tables.{Table, blocks, counts_of, rooms}
use Rattle.pb_lease.specs.Leasing.{can_be_leased}
use Rattle.pb_lease.proofs.SeatLists.{seat_is, seated, grant_out}
use Rattle.pb_lease.proofs.LeaseKept.{quota_within, renewal_kept, renewal_adds, renewal_room}
use Rattle.pb_lease.proofs.NextEvents.{adds_as}
use Rattle.pb_lease.specs.contracts.tables.MachineTables.{the_view}
use Rattle.pb_lease.proofs.tables.MachineTables.renew.Goals as goal

abbrev free_test : Table → (worker used : ℕ) → Type 0
free_test v worker used = is_lease_of (can_be_leased (blocks v) v.settings (counts_with_lease_home (counts_of v) worker used)) ((counts_of v).leases worker) ≡ true

pub overflow_add-left : goal.overflow_add-left
overflow_add-left c =
    let t : Table = the_view c.self.inside in
    let worker : ℕ = c.args.worker in
    let free = subst (λ (v : Table). free_test v worker c.args.used) (sym c.self.view_is) c.requires.free in
    let out = grant_out _ ((counts_of t).leases worker) free in
    let there = seated t.seats worker out.0 out.1 in
    let was = c.index-seat.result.now in
    let is = seat_is t.seats worker was there c.index-seat.ensures in
    let has : (counts_of t).leases worker ≡ Some c.in-Some.own = sym (ap (λ (s : Seat). s.grant) is) ∙ c.in-Some.is in
    omega (arith, quota_within t c.self.inside.busy.items c.self.inside.marks.near.items c.self.inside.promised _ c.self.invariant worker c.in-Some.own has)

pub overflow_add-self : goal.overflow_add-self
overflow_add-self c =
    let t : Table = the_view c.self.inside in
    let worker : ℕ = c.args.worker in
    let free = subst (λ (v : Table). free_test v worker c.args.used) (sym c.self.view_is) c.requires.free in
    let out = grant_out _ ((counts_of t).leases worker) free in
    let there = seated t.seats worker out.0 out.1 in
    let was = c.index-seat.result.now in
    let is = seat_is t.seats worker was there c.index-seat.ensures in
    let has : (counts_of t).leases worker ≡ Some c.in-Some.own = sym (ap (λ (s : Seat). s.grant) is) ∙ c.in-Some.is in
    let few : c.args.used ≤ c.in-Some.own.quota = subst (λ (o : Option Grant). c.args.used ≤ quota_of o) has (subst (λ (v : Table). c.args.used ≤ quota_of ((counts_of v).leases worker)) (sym c.self.view_is) c.requires.used) in
    omega (arith, few, quota_within t c.self.inside.busy.items c.self.inside.marks.near.items c.self.inside.promised _ c.self.invariant worker c.in-Some.own has)

pub invariant_of-self : goal.invariant_of-self
invariant_of-self c =
    let t : Table = the_view c.self.inside in
    let worker : ℕ = c.args.worker in
    let free = subst (λ (v : Table). free_test v worker c.args.used) (sym c.self.view_is) c.requires.free in
    let out = grant_out _ ((counts_of t).leases worker) free in
    let there = seated t.seats worker out.0 out.1 in
    let was = c.index-seat.result.now in
    let is = seat_is t.seats worker was there c.index-seat.ensures in
    let has : (counts_of t).leases worker ≡ Some c.in-Some.own = sym (ap (λ (s : Seat). s.grant) is) ∙ c.in-Some.is in
    let few : c.args.used ≤ c.in-Some.own.quota = subst (λ (o : Option Grant). c.args.used ≤ quota_of o) has (subst (λ (v : Table). c.args.used ≤ quota_of ((counts_of v).leases worker)) (sym c.self.view_is) c.requires.used) in
    let test : can_be_leased (blocks t) t.settings (counts_with_lease_home (counts_of t) worker c.args.used) c.in-Some.own.block ≡ true =
    subst (λ (o : Option Grant). is_lease_of (can_be_leased (blocks t) t.settings (counts_with_lease_home (counts_of t) worker c.args.used)) o ≡ true) has free in
    let some : 0 < rooms t worker = subst (λ (v : Table). 0 < rooms v worker) (sym c.self.view_is) c.requires.room in
    renewal_kept t c.self.inside.busy.items c.self.inside.marks.near.items c.self.inside.promised _ c.self.invariant worker c.args.used c.min-quota.result c.in-Some.own was is c.in-Some.is c.min-quota.ensures c.push_reserved.new.self.items there
    _ few test some c.push_reserved.ensures.items (omega arith)

pub returns-clause-events : goal.returns-clause-events
returns-clause-events c =
    let t : Table = the_view c.self.inside in
    let worker : ℕ = c.args.worker in
    let free = subst (λ (v : Table). free_test v worker c.args.used) (sym c.self.view_is) c.requires.free in
    let out = grant_out _ ((counts_of t).leases worker) free in
    let there = seated t.seats worker out.0 out.1 in
    let was = c.index-seat.result.now in
    let is = seat_is t.seats worker was there c.index-seat.ensures in
    let adds = renewal_adds t c.self.inside.busy.items c.self.inside.marks.near.items c.self.inside.promised _ c.self.invariant worker c.args.used c.min-quota.result c.in-Some.own was is c.in-Some.is c.min-quota.ensures c.push_reserved.new.self.items there c.push_reserved.ensures.items in
    adds_as t c.args.self.now _ (λ v. Renew worker c.args.used (min v.settings.lot (v.left + (quota_of ((counts_of v).leases worker) - c.args.used))) ∷ []) c.self.view_is adds

pub returns-clause-room : goal.returns-clause-room
returns-clause-room c =
    let t : Table = the_view c.self.inside in
    let worker : ℕ = c.args.worker in
    let free = subst (λ (v : Table). free_test v worker c.args.used) (sym c.self.view_is) c.requires.free in
    let out = grant_out _ ((counts_of t).leases worker) free in
    let there = seated t.seats worker out.0 out.1 in
    let was = c.index-seat.result.now in
    let is = seat_is t.seats worker was there c.index-seat.ensures in
    let room = renewal_room t c.self.inside.busy.items c.self.inside.marks.near.items c.self.inside.promised _ c.self.invariant worker c.args.used c.min-quota.result c.in-Some.own was is c.in-Some.is c.min-quota.ensures c.push_reserved.new.self.items there in
    room ∙ ap (λ (v : Table). with_entry (rooms v) worker (rooms v worker - 1)) c.self.view_is
