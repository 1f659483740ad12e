use Rattle.std.proofs.Common.{◌≡◌, false, true, None, ◌∙◌, arith, ap, subst, sym, ◌+◌, ◌<◌, [], ◌∷◌, ◌++◌, length, get_or, min, List, ℕ}
use Rattle.pb_machine.specs.declared.event.Event.TheVariants.{Lease}
use Rattle.pb_machine.specs.declared.event.Event.{Event}
use Rattle.pb_machine.specs.Tables.{one_if, with_entry}
use Rattle.pb_machine.specs.Blocks.{Blocks, interferes}
use Rattle.pb_abstract.specs.Graph.{blocks_of}
use Rattle.pb_lease.specs.Tables.{Table, blocks, counts_of, rooms}
use Rattle.pb_lease.specs.Leasing.{can_be_leased}
use Rattle.pb_lease.proofs.LeaseKept.{busy_fits, lease_kept, lease_adds, lease_room}
use Rattle.pb_lease.proofs.NextEvents.{adds_as}
use Rattle.pb_lease.specs.contracts.tables.MachineTables.{the_view}
use Rattle.pb_lease.proofs.tables.MachineTables.lease.Goals as goal

pub raise-requires-clause-small : goal.raise-requires-clause-small
raise-requires-clause-small c =
    let t : Table = the_view c.self.inside in
    busy_fits (blocks t) t.settings.workers (counts_of t).leases c.self.inside.busy.items c.self.invariant.busy_is c.self.invariant.history.range.workers.1

pub invariant_of-self-2 : goal.invariant_of-self-2
invariant_of-self-2 c =
    let t : Table = the_view c.self.inside in
    let worker : ℕ = c.args.worker in
    let inside : worker < t.settings.workers = subst (λ (v : Table). worker < v.settings.workers) (sym c.self.view_is) c.requires.worker in
    let there : worker < length t.seats = omega (arith, inside, c.self.invariant.seats) in
    let vacant = subst (λ (v : Table). (counts_of v).leases worker ≡ None) (sym c.self.view_is) c.requires.vacant in
    let stays = subst (λ (v : Table). (counts_of v).signed_off worker ≡ false) (sym c.self.view_is) c.requires.stays in
    let known = subst (λ (v : Table). c.args.block < (blocks v).count) (sym c.self.view_is) c.requires.block in
    let free = subst (λ (v : Table). can_be_leased (blocks v) v.settings (counts_of v) c.args.block ≡ true) (sym c.self.view_is) c.requires.free in
    let journal = c.push_reserved.ensures.items ∙ ap (λ (j : List Event). j ++ Lease worker c.args.block c.min-quota.result ∷ []) c.in_ok-reserve.ensures.items in
    let abstraction = ap blocks_of c.deref.ensures in
    lease_kept t c.self.inside.busy.items c.self.inside.marks.near.items c.self.inside.promised _ c.self.invariant worker c.args.block c.min-quota.result c.min-quota.ensures c.push_reserved.new.self.items c.raise.new.counters.items there 63
    _ (omega arith) inside vacant stays known free journal c.raise.ensures.length
    (λ other. c.raise.ensures.each other ∙ ap (λ r. get_or c.self.inside.busy.items other 0 + one_if r) (c.interference.ensures.each other ∙ ap (λ (of : Blocks). interferes of c.args.block other) abstraction)) (omega (arith, c.in_ok-reserve.ensures.ok))

pub returns-clause-events : goal.returns-clause-events
returns-clause-events c =
    let t : Table = the_view c.self.inside in
    let worker : ℕ = c.args.worker in
    let inside : worker < t.settings.workers = subst (λ (v : Table). worker < v.settings.workers) (sym c.self.view_is) c.requires.worker in
    let there : worker < length t.seats = omega (arith, inside, c.self.invariant.seats) in
    let stays = subst (λ (v : Table). (counts_of v).signed_off worker ≡ false) (sym c.self.view_is) c.requires.stays in
    let journal = c.push_reserved.ensures.items ∙ ap (λ (j : List Event). j ++ Lease worker c.args.block c.min-quota.result ∷ []) c.in_ok-reserve.ensures.items in
    let adds = lease_adds t c.self.inside.busy.items c.self.inside.marks.near.items c.self.inside.promised _ c.self.invariant worker c.args.block c.min-quota.result c.min-quota.ensures c.push_reserved.new.self.items c.raise.new.counters.items there 63 stays journal in
    adds_as t c.args.self.now _ (λ v. Lease worker c.args.block (min v.settings.lot v.left) ∷ []) c.self.view_is adds

pub returns-clause-room : goal.returns-clause-room
returns-clause-room c =
    let t : Table = the_view c.self.inside in
    let worker : ℕ = c.args.worker in
    let inside : worker < t.settings.workers = subst (λ (v : Table). worker < v.settings.workers) (sym c.self.view_is) c.requires.worker in
    let there : worker < length t.seats = omega (arith, inside, c.self.invariant.seats) in
    let room = lease_room t c.self.inside.busy.items c.self.inside.marks.near.items c.self.inside.promised _ c.self.invariant worker c.args.block c.min-quota.result c.min-quota.ensures c.push_reserved.new.self.items c.raise.new.counters.items there 63 in
    room ∙ ap (λ (v : Table). with_entry (rooms v) worker 63) c.self.view_is
