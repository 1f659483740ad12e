use Rattle.std.proofs.Common.{◌≡◌, ◌<◌, ◌-◌, ℕ, Bool, false, true, not, ◌&&◌, ◌||◌, ◌==◌, ◌∙◌, arith, ap, sym, refl, subst, length, get_or, IsSome, List, [], ◌∷◌}
use Rattle.pb_machine.specs.declared.event.Event.TheVariants.{Hot}
use Rattle.pb_machine.specs.Tables.{with_entry}
use Rattle.pb_machine.specs.Blocks.{Blocks, interferes}
use Rattle.pb_abstract.specs.Graph.{blocks_of}
use Rattle.pb_lease.specs.Tables.{Table, blocks, counts_of, rooms}
use Rattle.pb_lease.specs.Marking.{may_be_marked}
use Rattle.pb_lease.specs.Kept.{AreMarks}
use Rattle.pb_lease.proofs.SeatLists.{seat_is, seated, some_out}
use Rattle.pb_lease.proofs.NextEvents.{adds_as}
use Rattle.pb_lease.proofs.MarkKept.{hotter_is, marked_counts, mark_room, mark_kept, hot_may, marked_room}
use Rattle.pb_lease.specs.contracts.tables.MachineTables.{the_view}
use Rattle.pb_lease.proofs.tables.MachineTables.mark_hot.Goals as goal

pub invariant_of-self : goal.invariant_of-self
invariant_of-self c =
    let t : Table = the_view c.self.inside in
    let worker : ℕ = c.args.worker in
    let block : ℕ = c.args.block in
    let leased = subst (λ (v : Table). IsSome ((counts_of v).leases worker)) (sym c.self.view_is) c.requires.leased in
    let out = some_out ((counts_of t).leases worker) leased in
    let there = seated t.seats worker out.0 out.1 in
    let known : block < (blocks t).count = subst (λ (v : Table). block < (blocks v).count) (sym c.self.view_is) c.requires.block in
    let was = c.index-seat.result.now in
    let is = seat_is t.seats worker was there c.index-seat.ensures in
    let test = subst (λ (v : Table). may_be_marked v worker block c.args.outranked ≡ true) (sym c.self.view_is) (sym c.if-not-may_be_marked.ensures) in
    let some : 0 < rooms t worker = marked_room t worker block c.args.outranked test in
    let abstraction = ap blocks_of c.deref-3.ensures in
    let cooled = c.cool_all.new.self.hot.items in
    let apart : (other : ℕ) → get_or cooled other false ≡ (get_or t.hot other false && not (interferes (blocks t) block other)) =
    λ other. c.cool_all.ensures.hot other ∙ ap (λ r. get_or t.hot other false && not r) (c.interference.ensures.each other ∙ ap (λ (of : Blocks). interferes of block other) (ap blocks_of c.deref-2.ensures)) in
    let places : block < length cooled = omega (arith, known, c.cool_all.ensures.marks.hot_places, ap (λ (of : Blocks). of.count) (ap blocks_of c.deref.ensures)) in
    let each : (other : ℕ) → get_or c.mark.new.self.hot.items other false ≡ ((other == block) || (get_or t.hot other false && not (interferes (blocks t) block other))) =
    λ other. ap (λ (hot : List Bool). get_or hot other false) c.mark.ensures.hot ∙ hotter_is t.hot cooled block (interferes (blocks t) block) places apart other in
    let counts = marked_counts t c.self.inside.busy.items c.self.inside.marks.near.items c.self.inside.promised _ c.self.invariant worker was is out.0 out.1 c.push_reserved.new.self.items there c.mark.new.self.hot.items (λ other. (other == block) || (get_or t.hot other false && not (interferes (blocks t) block other))) each in
    mark_kept t c.self.inside.busy.items c.self.inside.marks.near.items c.self.inside.promised _ c.self.invariant worker was is out.0 out.1 c.push_reserved.new.self.items there c.mark.new.self.hot.items (Hot worker block) c.mark.new.self.near.items _ (hot_may t c.self.inside.busy.items c.self.inside.marks.near.items c.self.inside.promised _ c.self.invariant worker block out.0 c.args.outranked out.1 known test) counts c.push_reserved.ensures.items
    (subst (λ (of : Blocks). AreMarks of c.mark.new.self.hot.items c.mark.new.self.near.items) abstraction c.mark.ensures.marks) some some refl (omega arith)

pub returns-clause-events : goal.returns-clause-events
returns-clause-events c marked =
    let t : Table = the_view c.self.inside in
    let worker : ℕ = c.args.worker in
    let block : ℕ = c.args.block in
    let leased = subst (λ (v : Table). IsSome ((counts_of v).leases worker)) (sym c.self.view_is) c.requires.leased in
    let out = some_out ((counts_of t).leases worker) leased in
    let there = seated t.seats worker out.0 out.1 in
    let known : block < (blocks t).count = subst (λ (v : Table). block < (blocks v).count) (sym c.self.view_is) c.requires.block in
    let was = c.index-seat.result.now in
    let is = seat_is t.seats worker was there c.index-seat.ensures in
    let abstraction = ap blocks_of c.deref-3.ensures in
    let cooled = c.cool_all.new.self.hot.items in
    let apart : (other : ℕ) → get_or cooled other false ≡ (get_or t.hot other false && not (interferes (blocks t) block other)) =
    λ other. c.cool_all.ensures.hot other ∙ ap (λ r. get_or t.hot other false && not r) (c.interference.ensures.each other ∙ ap (λ (of : Blocks). interferes of block other) (ap blocks_of c.deref-2.ensures)) in
    let places : block < length cooled = omega (arith, known, c.cool_all.ensures.marks.hot_places, ap (λ (of : Blocks). of.count) (ap blocks_of c.deref.ensures)) in
    let each : (other : ℕ) → get_or c.mark.new.self.hot.items other false ≡ ((other == block) || (get_or t.hot other false && not (interferes (blocks t) block other))) =
    λ other. ap (λ (hot : List Bool). get_or hot other false) c.mark.ensures.hot ∙ hotter_is t.hot cooled block (interferes (blocks t) block) places apart other in
    let counts = marked_counts t c.self.inside.busy.items c.self.inside.marks.near.items c.self.inside.promised _ c.self.invariant worker was is out.0 out.1 c.push_reserved.new.self.items there c.mark.new.self.hot.items (λ other. (other == block) || (get_or t.hot other false && not (interferes (blocks t) block other))) each in
    adds_as t c.args.self.now _ (λ v. Hot worker block ∷ []) c.self.view_is (record { counts = counts; journal = c.push_reserved.ensures.items; abstraction = refl; settings = refl; past = refl })

pub returns-clause-room : goal.returns-clause-room
returns-clause-room c marked =
    let t : Table = the_view c.self.inside in
    let worker : ℕ = c.args.worker in
    let block : ℕ = c.args.block in
    let leased = subst (λ (v : Table). IsSome ((counts_of v).leases worker)) (sym c.self.view_is) c.requires.leased in
    let out = some_out ((counts_of t).leases worker) leased in
    let there = seated t.seats worker out.0 out.1 in
    let known : block < (blocks t).count = subst (λ (v : Table). block < (blocks v).count) (sym c.self.view_is) c.requires.block in
    let was = c.index-seat.result.now in
    let is = seat_is t.seats worker was there c.index-seat.ensures in
    mark_room t c.self.inside.busy.items c.self.inside.marks.near.items c.self.inside.promised _ c.self.invariant worker was is out.0 out.1 c.push_reserved.new.self.items there c.mark.new.self.hot.items ∙ ap (λ (v : Table). with_entry (rooms v) worker (rooms v worker - 1)) c.self.view_is
