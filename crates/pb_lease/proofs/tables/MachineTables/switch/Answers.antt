use Rattle.std.proofs.Common.{◌≡◌, ◌<◌, ◌≤◌, ◌+◌, ◌-◌, ℕ, true, false, not, ◌&&◌, ◌==◌, Some, Option, ◌∙◌, arith, ap, sym, subst, get_or, min, vec_capacity, vec_len, IsSome, List, [], ◌∷◌, ◌++◌}
use Rattle.pb_machine.specs.declared.event.Event.{Event}
use Rattle.pb_machine.specs.declared.event.Event.TheVariants.{Lease, Release}
use Rattle.pb_machine.specs.declared.event.Grant.{Grant}
use Rattle.pb_machine.specs.Tables.{with_entry, one_if}
use Rattle.pb_machine.specs.Blocks.{Blocks, interferes}
use Rattle.pb_machine.specs.Counts.{quota_of}
use Rattle.pb_machine.specs.Choice.{counts_with_lease_home}
use Rattle.pb_abstract.specs.Graph.{blocks_of, has}
use Rattle.pb_lease.specs.declared.seat.Seat.{Seat}
use Rattle.pb_lease.specs.Tables.{Table, blocks, counts_of, rooms}
use Rattle.pb_lease.specs.Leasing.{can_be_leased}
use Rattle.pb_lease.specs.Kept.{AreMarks}
use Rattle.pb_lease.proofs.Lists.{has_below}
use Rattle.pb_lease.proofs.SeatLists.{seat_is, seated, some_out}
use Rattle.pb_lease.proofs.NextEvents.{adds_as}
use Rattle.pb_lease.proofs.LeaseKept.{busy_fits, quota_within}
use Rattle.pb_lease.proofs.ReleaseKept.{own_known, counted_near}
use Rattle.pb_lease.proofs.SwitchKept.{two_due, switched_kept, switched_adds, switched_room}
use Rattle.pb_lease.specs.contracts.tables.MachineTables.{the_view}
use Rattle.pb_lease.proofs.tables.MachineTables.switch.Goals as goal

pub interference-near-requires : goal.interference-near-requires
interference-near-requires c =
    let t : Table = the_view c.self.inside in
    let worker : ℕ = c.args.worker in
    let leased = subst (λ (v : Table). IsSome ((counts_of v).leases worker)) (sym c.self.view_is) c.requires.leased in
    let out = some_out ((counts_of t).leases worker) leased in
    let there = seated t.seats worker out.0 out.1 in
    let was = c.index-seat.result.now in
    let is = seat_is t.seats worker was there c.index-seat.ensures in
    let has_it : (counts_of t).leases worker ≡ Some c.in-Some.own = sym (ap (λ (s : Seat). s.grant) is) ∙ c.in-Some.is in
    let few : c.args.used ≤ c.in-Some.own.quota = subst (λ (o : Option Grant). c.args.used ≤ quota_of o) has_it (subst (λ (v : Table). c.args.used ≤ quota_of ((counts_of v).leases worker)) (sym c.self.view_is) c.requires.used) in
    subst (λ (of : Blocks). c.in-Some.own.block < of.count) (sym (ap blocks_of c.deref.ensures)) (own_known t c.self.inside.busy.items c.self.inside.marks.near.items c.self.inside.promised _ c.self.invariant worker c.args.used false c.in-Some.own was is c.in-Some.is few)

pub lower-requires-clause-some : goal.lower-requires-clause-some
lower-requires-clause-some c = λ other it.
    let t : Table = the_view c.self.inside in
    let worker : ℕ = c.args.worker in
    let leased = subst (λ (v : Table). IsSome ((counts_of v).leases worker)) (sym c.self.view_is) c.requires.leased in
    let out = some_out ((counts_of t).leases worker) leased in
    let there = seated t.seats worker out.0 out.1 in
    let was = c.index-seat.result.now in
    let is = seat_is t.seats worker was there c.index-seat.ensures in
    let has_it : (counts_of t).leases worker ≡ Some c.in-Some.own = sym (ap (λ (s : Seat). s.grant) is) ∙ c.in-Some.is in
    let few : c.args.used ≤ c.in-Some.own.quota = subst (λ (o : Option Grant). c.args.used ≤ quota_of o) has_it (subst (λ (v : Table). c.args.used ≤ quota_of ((counts_of v).leases worker)) (sym c.self.view_is) c.requires.used) in
    let abstraction : blocks_of c.deref.result.now ≡ blocks t = ap blocks_of c.deref.ensures in
    let list : (other : ℕ) → has c.interference-near.result.now other ≡ interferes (blocks t) c.in-Some.own.block other =
    λ other. c.interference-near.ensures.each other ∙ ap (λ (of : Blocks). interferes of c.in-Some.own.block other) abstraction in
    counted_near t c.self.inside.busy.items c.self.inside.marks.near.items c.self.inside.promised _ c.self.invariant worker c.args.used false c.in-Some.own was is c.in-Some.is few other
    (subst (λ (of : Blocks). other < of.count) abstraction (has_below c.interference-near.result.now (blocks_of c.deref.result.now).count other c.interference-near.ensures.below it)) (sym (list other) ∙ it)

pub overflow_add-left : goal.overflow_add-left
overflow_add-left c =
    let t : Table = the_view c.self.inside in
    let worker : ℕ = c.args.worker in
    let leased = subst (λ (v : Table). IsSome ((counts_of v).leases worker)) (sym c.self.view_is) c.requires.leased in
    let out = some_out ((counts_of t).leases worker) leased in
    let there = seated t.seats worker out.0 out.1 in
    let was = c.index-seat.result.now in
    let is = seat_is t.seats worker was there c.index-seat.ensures in
    let has_it : (counts_of t).leases worker ≡ Some c.in-Some.own = sym (ap (λ (s : Seat). s.grant) is) ∙ c.in-Some.is in
    let few : c.args.used ≤ c.in-Some.own.quota = subst (λ (o : Option Grant). c.args.used ≤ quota_of o) has_it (subst (λ (v : Table). c.args.used ≤ quota_of ((counts_of v).leases worker)) (sym c.self.view_is) c.requires.used) in
    omega (arith, few, quota_within t c.self.inside.busy.items c.self.inside.marks.near.items c.self.inside.promised _ c.self.invariant worker c.in-Some.own has_it)

pub overflow_add-self : goal.overflow_add-self
overflow_add-self c =
    let t : Table = the_view c.self.inside in
    let worker : ℕ = c.args.worker in
    let leased = subst (λ (v : Table). IsSome ((counts_of v).leases worker)) (sym c.self.view_is) c.requires.leased in
    let out = some_out ((counts_of t).leases worker) leased in
    let there = seated t.seats worker out.0 out.1 in
    let was = c.index-seat.result.now in
    let is = seat_is t.seats worker was there c.index-seat.ensures in
    let has_it : (counts_of t).leases worker ≡ Some c.in-Some.own = sym (ap (λ (s : Seat). s.grant) is) ∙ c.in-Some.is in
    let few : c.args.used ≤ c.in-Some.own.quota = subst (λ (o : Option Grant). c.args.used ≤ quota_of o) has_it (subst (λ (v : Table). c.args.used ≤ quota_of ((counts_of v).leases worker)) (sym c.self.view_is) c.requires.used) in
    omega (arith, few, quota_within t c.self.inside.busy.items c.self.inside.marks.near.items c.self.inside.promised _ c.self.invariant worker c.in-Some.own has_it)

pub invariant_of-self : goal.invariant_of-self
invariant_of-self c =
    let t : Table = the_view c.self.inside in
    let worker : ℕ = c.args.worker in
    let leased = subst (λ (v : Table). IsSome ((counts_of v).leases worker)) (sym c.self.view_is) c.requires.leased in
    let out = some_out ((counts_of t).leases worker) leased in
    let there = seated t.seats worker out.0 out.1 in
    let was = c.index-seat.result.now in
    let is = seat_is t.seats worker was there c.index-seat.ensures in
    let has_it : (counts_of t).leases worker ≡ Some c.in-Some.own = sym (ap (λ (s : Seat). s.grant) is) ∙ c.in-Some.is in
    let few : c.args.used ≤ c.in-Some.own.quota = subst (λ (o : Option Grant). c.args.used ≤ quota_of o) has_it (subst (λ (v : Table). c.args.used ≤ quota_of ((counts_of v).leases worker)) (sym c.self.view_is) c.requires.used) in
    let abstraction : blocks_of c.deref.result.now ≡ blocks t = ap blocks_of c.deref.ensures in
    let list : (other : ℕ) → has c.interference-near.result.now other ≡ interferes (blocks t) c.in-Some.own.block other =
    λ other. c.interference-near.ensures.each other ∙ ap (λ (of : Blocks). interferes of c.in-Some.own.block other) abstraction in
    let fewer = c.lower.new.counters.items in
    let each : (other : ℕ) → get_or fewer other 0 + one_if (interferes (blocks t) c.in-Some.own.block other) ≡ get_or c.self.inside.busy.items other 0 =
    λ other. ap (λ r. get_or fewer other 0 + one_if r) (sym (list other)) ∙ c.lower.ensures.each other in
    let cooler = c.cool_idle.new.self.hot.items in
    let cooled : (other : ℕ) → get_or cooler other false ≡ (get_or t.hot other false && not (interferes (blocks t) c.in-Some.own.block other && (get_or fewer other 0 == 0))) =
    λ other. c.cool_idle.ensures.hot other ∙ ap (λ (xs : List ℕ). get_or t.hot other false && not (has c.interference-near.result.now other && (get_or xs other 0 == 0))) c.deref-3.ensures.value
    ∙ ap (λ r. get_or t.hot other false && not (r && (get_or fewer other 0 == 0))) (list other) in
    let marks = subst (λ (of : Blocks). AreMarks of cooler c.cool_idle.new.self.near.items) (ap blocks_of c.deref-2.ensures) c.cool_idle.ensures.marks in
    let some : 1 < rooms t worker = subst (λ (v : Table). 1 < rooms v worker) (sym c.self.view_is) c.requires.room in
    let journal = c.push_reserved-2.ensures.items ∙ ap (λ (j : List Event). j ++ Lease worker c.args.block c.min-quota.result ∷ []) c.push_reserved.ensures.items in
    let known = subst (λ (v : Table). c.args.block < (blocks v).count) (sym c.self.view_is) c.requires.block in
    let test = subst (λ (v : Table). can_be_leased (blocks v) v.settings (counts_with_lease_home (counts_of v) worker c.args.used) c.args.block ≡ true) (sym c.self.view_is) c.requires.free in
    switched_kept t c.self.inside.busy.items c.self.inside.marks.near.items c.self.inside.promised _ c.self.invariant worker c.args.used c.in-Some.own was is c.in-Some.is few fewer c.lower.ensures.length each cooler cooled there c.args.block c.min-quota.result c.min-quota.ensures c.push_reserved-2.new.self.items journal c.raise.new.counters.items c.cool_idle.new.self.near.items _ marks (omega arith) some known test c.raise.ensures.length
    (λ other. c.raise.ensures.each other ∙ ap (λ r. get_or fewer other 0 + one_if r) (c.interference.ensures.each other ∙ ap (λ (of : Blocks). interferes of c.args.block other) (ap blocks_of c.deref-4.ensures)))

pub returns-clause-events : goal.returns-clause-events
returns-clause-events c =
    let t : Table = the_view c.self.inside in
    let worker : ℕ = c.args.worker in
    let leased = subst (λ (v : Table). IsSome ((counts_of v).leases worker)) (sym c.self.view_is) c.requires.leased in
    let out = some_out ((counts_of t).leases worker) leased in
    let there = seated t.seats worker out.0 out.1 in
    let was = c.index-seat.result.now in
    let is = seat_is t.seats worker was there c.index-seat.ensures in
    let has_it : (counts_of t).leases worker ≡ Some c.in-Some.own = sym (ap (λ (s : Seat). s.grant) is) ∙ c.in-Some.is in
    let few : c.args.used ≤ c.in-Some.own.quota = subst (λ (o : Option Grant). c.args.used ≤ quota_of o) has_it (subst (λ (v : Table). c.args.used ≤ quota_of ((counts_of v).leases worker)) (sym c.self.view_is) c.requires.used) in
    let abstraction : blocks_of c.deref.result.now ≡ blocks t = ap blocks_of c.deref.ensures in
    let list : (other : ℕ) → has c.interference-near.result.now other ≡ interferes (blocks t) c.in-Some.own.block other =
    λ other. c.interference-near.ensures.each other ∙ ap (λ (of : Blocks). interferes of c.in-Some.own.block other) abstraction in
    let fewer = c.lower.new.counters.items in
    let each : (other : ℕ) → get_or fewer other 0 + one_if (interferes (blocks t) c.in-Some.own.block other) ≡ get_or c.self.inside.busy.items other 0 =
    λ other. ap (λ r. get_or fewer other 0 + one_if r) (sym (list other)) ∙ c.lower.ensures.each other in
    let cooler = c.cool_idle.new.self.hot.items in
    let cooled : (other : ℕ) → get_or cooler other false ≡ (get_or t.hot other false && not (interferes (blocks t) c.in-Some.own.block other && (get_or fewer other 0 == 0))) =
    λ other. c.cool_idle.ensures.hot other ∙ ap (λ (xs : List ℕ). get_or t.hot other false && not (has c.interference-near.result.now other && (get_or xs other 0 == 0))) c.deref-3.ensures.value
    ∙ ap (λ r. get_or t.hot other false && not (r && (get_or fewer other 0 == 0))) (list other) in
    let marks = subst (λ (of : Blocks). AreMarks of cooler c.cool_idle.new.self.near.items) (ap blocks_of c.deref-2.ensures) c.cool_idle.ensures.marks in
    let some : 1 < rooms t worker = subst (λ (v : Table). 1 < rooms v worker) (sym c.self.view_is) c.requires.room in
    let journal = c.push_reserved-2.ensures.items ∙ ap (λ (j : List Event). j ++ Lease worker c.args.block c.min-quota.result ∷ []) c.push_reserved.ensures.items in
    let spare = vec_capacity c.self.inside.journal - vec_len c.self.inside.journal in
    let due = two_due t c.self.inside.busy.items c.self.inside.marks.near.items c.self.inside.promised spare c.self.invariant worker c.args.used c.in-Some.own was is c.in-Some.is few fewer c.lower.ensures.length each cooler cooled there some in
    let less : (spare - 2) + 2 ≡ spare = omega (arith, due.0, due.1, c.self.invariant.room) in
    adds_as t c.args.self.now _ (λ v. Release worker c.args.used false ∷ Lease worker c.args.block (min v.settings.lot (v.left + (quota_of ((counts_of v).leases worker) - c.args.used))) ∷ []) c.self.view_is
    (switched_adds t c.self.inside.busy.items c.self.inside.marks.near.items c.self.inside.promised spare c.self.invariant worker c.args.used c.in-Some.own was is c.in-Some.is few fewer c.lower.ensures.length each cooler cooled there c.args.block c.min-quota.result c.min-quota.ensures c.push_reserved-2.new.self.items journal c.raise.new.counters.items c.cool_idle.new.self.near.items (spare - 2) marks less)

pub returns-clause-room : goal.returns-clause-room
returns-clause-room c =
    let t : Table = the_view c.self.inside in
    let worker : ℕ = c.args.worker in
    let leased = subst (λ (v : Table). IsSome ((counts_of v).leases worker)) (sym c.self.view_is) c.requires.leased in
    let out = some_out ((counts_of t).leases worker) leased in
    let there = seated t.seats worker out.0 out.1 in
    let was = c.index-seat.result.now in
    let is = seat_is t.seats worker was there c.index-seat.ensures in
    let has_it : (counts_of t).leases worker ≡ Some c.in-Some.own = sym (ap (λ (s : Seat). s.grant) is) ∙ c.in-Some.is in
    let few : c.args.used ≤ c.in-Some.own.quota = subst (λ (o : Option Grant). c.args.used ≤ quota_of o) has_it (subst (λ (v : Table). c.args.used ≤ quota_of ((counts_of v).leases worker)) (sym c.self.view_is) c.requires.used) in
    let abstraction : blocks_of c.deref.result.now ≡ blocks t = ap blocks_of c.deref.ensures in
    let list : (other : ℕ) → has c.interference-near.result.now other ≡ interferes (blocks t) c.in-Some.own.block other =
    λ other. c.interference-near.ensures.each other ∙ ap (λ (of : Blocks). interferes of c.in-Some.own.block other) abstraction in
    let fewer = c.lower.new.counters.items in
    let each : (other : ℕ) → get_or fewer other 0 + one_if (interferes (blocks t) c.in-Some.own.block other) ≡ get_or c.self.inside.busy.items other 0 =
    λ other. ap (λ r. get_or fewer other 0 + one_if r) (sym (list other)) ∙ c.lower.ensures.each other in
    let cooler = c.cool_idle.new.self.hot.items in
    let cooled : (other : ℕ) → get_or cooler other false ≡ (get_or t.hot other false && not (interferes (blocks t) c.in-Some.own.block other && (get_or fewer other 0 == 0))) =
    λ other. c.cool_idle.ensures.hot other ∙ ap (λ (xs : List ℕ). get_or t.hot other false && not (has c.interference-near.result.now other && (get_or xs other 0 == 0))) c.deref-3.ensures.value
    ∙ ap (λ r. get_or t.hot other false && not (r && (get_or fewer other 0 == 0))) (list other) in
    let marks = subst (λ (of : Blocks). AreMarks of cooler c.cool_idle.new.self.near.items) (ap blocks_of c.deref-2.ensures) c.cool_idle.ensures.marks in
    let some : 1 < rooms t worker = subst (λ (v : Table). 1 < rooms v worker) (sym c.self.view_is) c.requires.room in
    let journal = c.push_reserved-2.ensures.items ∙ ap (λ (j : List Event). j ++ Lease worker c.args.block c.min-quota.result ∷ []) c.push_reserved.ensures.items in
    let spare = vec_capacity c.self.inside.journal - vec_len c.self.inside.journal in
    let due = two_due t c.self.inside.busy.items c.self.inside.marks.near.items c.self.inside.promised spare c.self.invariant worker c.args.used c.in-Some.own was is c.in-Some.is few fewer c.lower.ensures.length each cooler cooled there some in
    let less : (spare - 2) + 2 ≡ spare = omega (arith, due.0, due.1, c.self.invariant.room) in
    switched_room t c.self.inside.busy.items c.self.inside.marks.near.items c.self.inside.promised spare c.self.invariant worker c.args.used c.in-Some.own was is c.in-Some.is few fewer c.lower.ensures.length each cooler cooled there c.args.block c.min-quota.result c.min-quota.ensures c.push_reserved-2.new.self.items journal c.raise.new.counters.items c.cool_idle.new.self.near.items (spare - 2) marks less ∙ ap (λ (v : Table). with_entry (rooms v) worker (rooms v worker - 2)) c.self.view_is

pub raise-requires-clause-small : goal.raise-requires-clause-small
raise-requires-clause-small c = λ other.
    let t : Table = the_view c.self.inside in
    omega (arith, busy_fits (blocks t) t.settings.workers (counts_of t).leases c.self.inside.busy.items c.self.invariant.busy_is c.self.invariant.history.range.workers.1 other, c.lower.ensures.each other)
