use Rattle.std.proofs.Common.{◌≡◌, ◌<◌, ℕ, false, not, ◌&&◌, nat_lt, is_none, ◌∙◌, arith, ap, sym, subst, get_or, IsSome}
use Rattle.pb_machine.specs.Counts.{is_busy}
use Rattle.pb_machine.proofs.Callers.{busy_is_counted, item_is}
use Rattle.pb_model.proofs.Callers.{none_tested}
use Rattle.pb_lease.specs.declared.seat.Seat.{Seat}
use Rattle.pb_lease.specs.Tables.{Table, blocks, counts_of, rooms}
use Rattle.pb_lease.specs.Marking.{may_be_marked}
use Rattle.pb_lease.proofs.SeatLists.{seat_is, seated, some_out}
use Rattle.pb_lease.specs.contracts.tables.MachineTables.{the_view}
use Rattle.pb_lease.proofs.tables.MachineTables.may_be_marked.Goals as goal

pub returns : goal.returns
returns c =
    let t : Table = the_view c.self.inside in
    let worker : ℕ = c.args.worker in
    let block : ℕ = c.args.block in
    let busy = c.self.inside.busy.items in
    let leased = subst (λ (v : Table). IsSome ((counts_of v).leases worker)) (sym c.self.view_is) c.requires.leased in
    let out = some_out ((counts_of t).leases worker) leased in
    let there = seated t.seats worker out.0 out.1 in
    let known : block < (blocks t).count = subst (λ (v : Table). block < (blocks v).count) (sym c.self.view_is) c.requires.block in
    let hot_is : c.index.result.now ≡ get_or t.hot block false = item_is t.hot block c.index.result.now false (omega (arith, known, c.self.invariant.marks.hot_places)) c.index.ensures in
    let count_is : c.index-2.result.now ≡ get_or busy block 0 = item_is busy block c.index-2.result.now 0 (omega (arith, known, c.self.invariant.busy_is.places)) c.index-2.ensures in
    let busy_is : nat_lt 0 c.index-2.result.now ≡ is_busy (blocks t) t.settings.workers (counts_of t).leases block =
    ap (nat_lt 0) (count_is ∙ c.self.invariant.busy_is.counted block known) ∙ sym (busy_is_counted (blocks t) t.settings.workers (counts_of t).leases block) in
    let room_is : c.index-3.result.now.room ≡ rooms t worker = ap (λ (s : Seat). s.room) (seat_is t.seats worker c.index-3.result.now there c.index-3.ensures) in
    let end_is : c.is_none.result ≡ is_none t.end = none_tested c.is_none.result t.end c.is_none.ensures in
    let here : (c.is_none.result && not t.settings.plain && not c.index.result.now && nat_lt 0 c.index-2.result.now && not c.args.outranked && nat_lt 0 c.index-3.result.now.room) ≡ may_be_marked t worker block c.args.outranked = cc in
    here ∙ ap (λ (v : Table). may_be_marked v worker block c.args.outranked) c.self.view_is
