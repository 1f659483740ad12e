use Rattle.std.proofs.Common.{◌≡◌, ◌<◌, ◌-◌, ℕ, Bool, false, true, not, ◌&&◌, ◌==◌, ◌∙◌, arith, ap, sym, refl, subst, get_or, IsSome, List, [], ◌∷◌}
use Rattle.pb_machine.specs.declared.event.Event.TheVariants.{Cold}
use Rattle.pb_machine.specs.Tables.{with_entry}
use Rattle.pb_machine.specs.Blocks.{Blocks}
use Rattle.pb_abstract.specs.Graph.{blocks_of}
use Rattle.pb_lease.specs.Tables.{Table, blocks, counts_of, rooms}
use Rattle.pb_lease.specs.Marking.{may_be_cooled}
use Rattle.pb_lease.specs.Kept.{AreMarks}
use Rattle.pb_lease.proofs.SeatLists.{seat_is, seated, some_out}
use Rattle.pb_lease.proofs.NextEvents.{adds_as}
use Rattle.pb_lease.proofs.MarkKept.{colder_is, marked_counts, mark_room, mark_kept, cool_may, cooled_room}
use Rattle.pb_lease.specs.contracts.tables.MachineTables.{the_view}
use Rattle.pb_lease.proofs.tables.MachineTables.cool.Goals as goal

pub invariant_of-self : goal.invariant_of-self
invariant_of-self c =
    let t : Table = the_view c.self.inside in
    let worker : ℕ = c.args.worker in
    let block : ℕ = c.args.block in
    let leased = subst (λ (v : Table). IsSome ((counts_of v).leases worker)) (sym c.self.view_is) c.requires.leased in
    let out = some_out ((counts_of t).leases worker) leased in
    let there = seated t.seats worker out.0 out.1 in
    let known : block < (blocks t).count = subst (λ (v : Table). block < (blocks v).count) (sym c.self.view_is) c.requires.block in
    let was = c.index-seat.result.now in
    let is = seat_is t.seats worker was there c.index-seat.ensures in
    let test = subst (λ (v : Table). may_be_cooled v worker block ≡ true) (sym c.self.view_is) (sym c.if-not-may_be_cooled.ensures) in
    let some : 0 < rooms t worker = cooled_room t worker block test in
    let abstraction = ap blocks_of c.deref.ensures in
    let each : (other : ℕ) → get_or c.cool.new.self.hot.items other false ≡ (get_or t.hot other false && not (other == block)) =
    λ other. ap (λ (hot : List Bool). get_or hot other false) c.cool.ensures.hot ∙ colder_is t.hot block (omega (arith, known, c.self.invariant.marks.hot_places)) other in
    let counts = marked_counts t c.self.inside.busy.items c.self.inside.marks.near.items c.self.inside.promised _ c.self.invariant worker was is out.0 out.1 c.push_reserved.new.self.items there c.cool.new.self.hot.items (λ other. get_or t.hot other false && not (other == block)) each in
    mark_kept t c.self.inside.busy.items c.self.inside.marks.near.items c.self.inside.promised _ c.self.invariant worker was is out.0 out.1 c.push_reserved.new.self.items there c.cool.new.self.hot.items (Cold worker block) c.cool.new.self.near.items _ (cool_may t c.self.inside.busy.items c.self.inside.marks.near.items c.self.inside.promised _ c.self.invariant worker block out.0 out.1 known test) counts c.push_reserved.ensures.items
    (subst (λ (of : Blocks). AreMarks of c.cool.new.self.hot.items c.cool.new.self.near.items) abstraction c.cool.ensures.marks) some some refl (omega arith)

pub returns-clause-events : goal.returns-clause-events
returns-clause-events c marked =
    let t : Table = the_view c.self.inside in
    let worker : ℕ = c.args.worker in
    let block : ℕ = c.args.block in
    let leased = subst (λ (v : Table). IsSome ((counts_of v).leases worker)) (sym c.self.view_is) c.requires.leased in
    let out = some_out ((counts_of t).leases worker) leased in
    let there = seated t.seats worker out.0 out.1 in
    let known : block < (blocks t).count = subst (λ (v : Table). block < (blocks v).count) (sym c.self.view_is) c.requires.block in
    let was = c.index-seat.result.now in
    let is = seat_is t.seats worker was there c.index-seat.ensures in
    let abstraction = ap blocks_of c.deref.ensures in
    let each : (other : ℕ) → get_or c.cool.new.self.hot.items other false ≡ (get_or t.hot other false && not (other == block)) =
    λ other. ap (λ (hot : List Bool). get_or hot other false) c.cool.ensures.hot ∙ colder_is t.hot block (omega (arith, known, c.self.invariant.marks.hot_places)) other in
    let counts = marked_counts t c.self.inside.busy.items c.self.inside.marks.near.items c.self.inside.promised _ c.self.invariant worker was is out.0 out.1 c.push_reserved.new.self.items there c.cool.new.self.hot.items (λ other. get_or t.hot other false && not (other == block)) each in
    adds_as t c.args.self.now _ (λ v. Cold worker block ∷ []) c.self.view_is (record { counts = counts; journal = c.push_reserved.ensures.items; abstraction = refl; settings = refl; past = refl })

pub returns-clause-room : goal.returns-clause-room
returns-clause-room c marked =
    let t : Table = the_view c.self.inside in
    let worker : ℕ = c.args.worker in
    let block : ℕ = c.args.block in
    let leased = subst (λ (v : Table). IsSome ((counts_of v).leases worker)) (sym c.self.view_is) c.requires.leased in
    let out = some_out ((counts_of t).leases worker) leased in
    let there = seated t.seats worker out.0 out.1 in
    let known : block < (blocks t).count = subst (λ (v : Table). block < (blocks v).count) (sym c.self.view_is) c.requires.block in
    let was = c.index-seat.result.now in
    let is = seat_is t.seats worker was there c.index-seat.ensures in
    mark_room t c.self.inside.busy.items c.self.inside.marks.near.items c.self.inside.promised _ c.self.invariant worker was is out.0 out.1 c.push_reserved.new.self.items there c.cool.new.self.hot.items ∙ ap (λ (v : Table). with_entry (rooms v) worker (rooms v worker - 1)) c.self.view_is
