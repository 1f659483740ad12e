use Rattle.std.proofs.Common.{◌≡◌, ◌<◌, ◌+◌, ◌-◌, ◌≤◌, ℕ, min, false, cond, is_some, None, Option, ◌∙◌, arith, ap, sym, refl, subst, length, List, [], ◌∷◌}
use Rattle.pb_model.specs.declared.key.Key.{Key}
use Rattle.pb_machine.specs.declared.event.Event.TheVariants.{Lease, Release}
use Rattle.pb_machine.specs.declared.event.Grant.{Grant}
use Rattle.pb_machine.specs.Blocks.{Blocks, interferes}
use Rattle.pb_machine.specs.Counts.{quota_of}
use Rattle.pb_machine.specs.Legality.{refusal}
use Rattle.pb_abstract.specs.Graph.{AbstractGraph, blocks_of, has}
use Rattle.pb_lists.specs.Bundle.{Content}
use Rattle.pb_bundles.specs.Homes.{HomeTable, content_at}
use Rattle.pb_bundles.specs.Moves.{NotesKeys}
use Rattle.pb_bundles.proofs.Callers.{put_back_length}
use Rattle.pb_lease.specs.Tables.{blocks}
use Rattle.pb_lease.specs.Events.{Adds}
use Rattle.pb_lease.specs.Free.{ShowsClear}
use Rattle.pb_lease.specs.LeaseValue.{LeaseValue}
use Rattle.pb_lease.specs.Leased.{grant_of, FitsScopes}
use Rattle.pb_lease.specs.GraphValue.{GraphValue, counts_in, IsLeaseGraph, IsOfGraph}
use Rattle.pb_lease.specs.Steps.{GoesOver, IsSwitched}
use Rattle.pb_lease.proofs.Scopes.{distinct}
use Rattle.pb_lease.proofs.NextEvents.{lease_may}
use Rattle.pb_lease.proofs.GraphBasics.{key_known, lawful_in, scope_home}
use Rattle.pb_lease.proofs.GraphKept.{leased_kept, places_vacant}
use Rattle.pb_lease.proofs.GivenOut.{moved, of_graph}
use Rattle.pb_lease.proofs.Switched.{mid_graph, mid_kept, mid_can, mid_inside, mid_stays, mid_vacant, second_adds}
use Rattle.pb_lease.proofs.Free.{fits_on, shows_switched, stays_clear}
use Rattle.pb_lease.specs.contracts.graph.LeaseGraph.{the_view}
use Rattle.pb_lease.specs.contracts.lease.Lease.{the_view as the_lease}
use Rattle.pb_lease.proofs.graph.LeaseGraph.go_over.Goals as goal

pub show_beside_hot-requires-clause-block : goal.show_beside_hot-requires-clause-block
show_beside_hot-requires-clause-block c =
    let t : GraphValue = the_view c.self.inside in
    let lease : LeaseValue = the_lease c.lease.inside in
    let of : IsOfGraph t lease = subst (λ (l : LeaseValue). IsOfGraph t l) (sym c.lease.view_is) (subst (λ (v : GraphValue). IsOfGraph v c.args.lease) (sym c.self.view_is) c.requires.of_graph) in
    ((lawful_in t c.self.invariant.lawful).known lease.worker (grant_of lease) of.leased).1

pub switch-quota-requires-clause-leased : goal.switch-quota-requires-clause-leased
switch-quota-requires-clause-leased c =
    let t : GraphValue = the_view c.self.inside in
    let lease : LeaseValue = the_lease c.lease.inside in
    let of : IsOfGraph t lease = subst (λ (l : LeaseValue). IsOfGraph t l) (sym c.lease.view_is) (subst (λ (v : GraphValue). IsOfGraph v c.args.lease) (sym c.self.view_is) c.requires.of_graph) in
    ap is_some of.leased

pub switch-quota-requires-clause-used : goal.switch-quota-requires-clause-used
switch-quota-requires-clause-used c =
    let t : GraphValue = the_view c.self.inside in
    let lease : LeaseValue = the_lease c.lease.inside in
    let of : IsOfGraph t lease = subst (λ (l : LeaseValue). IsOfGraph t l) (sym c.lease.view_is) (subst (λ (v : GraphValue). IsOfGraph v c.args.lease) (sym c.self.view_is) c.requires.of_graph) in
    subst (λ (o : Option Grant). lease.used ≤ quota_of o) (sym of.leased) c.lease.invariant.within

pub switch-quota-requires-clause-block : goal.switch-quota-requires-clause-block
switch-quota-requires-clause-block c =
    let t : GraphValue = the_view c.self.inside in
    let lease : LeaseValue = the_lease c.lease.inside in
    let of : IsOfGraph t lease = subst (λ (l : LeaseValue). IsOfGraph t l) (sym c.lease.view_is) (subst (λ (v : GraphValue). IsOfGraph v c.args.lease) (sym c.self.view_is) c.requires.of_graph) in
    let over : GoesOver t lease t c.args.block = subst (λ (l : LeaseValue). GoesOver t l t c.args.block) (sym c.lease.view_is) (subst (λ (v : GraphValue). GoesOver v c.args.lease v c.args.block) (sym c.self.view_is) c.requires.over) in
    key_known t c.self.invariant.lawful c.args.block over.0.0.1

pub switch-quota-requires-clause-free : goal.switch-quota-requires-clause-free
switch-quota-requires-clause-free c =
    let t : GraphValue = the_view c.self.inside in
    let lease : LeaseValue = the_lease c.lease.inside in
    let of : IsOfGraph t lease = subst (λ (l : LeaseValue). IsOfGraph t l) (sym c.lease.view_is) (subst (λ (v : GraphValue). IsOfGraph v c.args.lease) (sym c.self.view_is) c.requires.of_graph) in
    let over : GoesOver t lease t c.args.block = subst (λ (l : LeaseValue). GoesOver t l t c.args.block) (sym c.lease.view_is) (subst (λ (v : GraphValue). GoesOver v c.args.lease v c.args.block) (sym c.self.view_is) c.requires.over) in
    over.0.0.0

pub switch-quota-requires-clause-room : goal.switch-quota-requires-clause-room
switch-quota-requires-clause-room c =
    let t : GraphValue = the_view c.self.inside in
    let lease : LeaseValue = the_lease c.lease.inside in
    let of : IsOfGraph t lease = subst (λ (l : LeaseValue). IsOfGraph t l) (sym c.lease.view_is) (subst (λ (v : GraphValue). IsOfGraph v c.args.lease) (sym c.self.view_is) c.requires.of_graph) in
    let over : GoesOver t lease t c.args.block = subst (λ (l : LeaseValue). GoesOver t l t c.args.block) (sym c.lease.view_is) (subst (λ (v : GraphValue). GoesOver v c.args.lease v c.args.block) (sym c.self.view_is) c.requires.over) in
    over.2

pub bring_back-room-requires : goal.bring_back-room-requires
bring_back-room-requires c block there =
    let t : GraphValue = the_view c.self.inside in
    let lease : LeaseValue = the_lease c.lease.inside in
    let of : IsOfGraph t lease = subst (λ (l : LeaseValue). IsOfGraph t l) (sym c.lease.view_is) (subst (λ (v : GraphValue). IsOfGraph v c.args.lease) (sym c.self.view_is) c.requires.of_graph) in
    places_vacant t c.self.invariant.lawful lease of block there

pub interference-near-requires : goal.interference-near-requires
interference-near-requires c =
    let t : GraphValue = the_view c.self.inside in
    let lease : LeaseValue = the_lease c.lease.inside in
    let of : IsOfGraph t lease = subst (λ (l : LeaseValue). IsOfGraph t l) (sym c.lease.view_is) (subst (λ (v : GraphValue). IsOfGraph v c.args.lease) (sym c.self.view_is) c.requires.of_graph) in
    let known : lease.block < (blocks t.table).count = ((lawful_in t c.self.invariant.lawful).known lease.worker (grant_of lease) of.leased).1 in
    subst (λ (g : AbstractGraph). lease.block < (blocks_of g).count) (sym (c.abstraction.ensures ∙ c.switch-quota.ensures.events.abstraction)) known

pub show-requires : goal.show-requires
show-requires c =
    let t : GraphValue = the_view c.self.inside in
    let lease : LeaseValue = the_lease c.lease.inside in
    let of : IsOfGraph t lease = subst (λ (l : LeaseValue). IsOfGraph t l) (sym c.lease.view_is) (subst (λ (v : GraphValue). IsOfGraph v c.args.lease) (sym c.self.view_is) c.requires.of_graph) in
    let known : lease.block < (blocks t.table).count = ((lawful_in t c.self.invariant.lawful).known lease.worker (grant_of lease) of.leased).1 in
    omega (arith, known, c.show_clear.ensures.count, c.show_beside_hot.ensures.count, c.self.invariant.shows.places)

pub scope-requires : goal.scope-requires
scope-requires c =
    let t : GraphValue = the_view c.self.inside in
    let lease : LeaseValue = the_lease c.lease.inside in
    let of : IsOfGraph t lease = subst (λ (l : LeaseValue). IsOfGraph t l) (sym c.lease.view_is) (subst (λ (v : GraphValue). IsOfGraph v c.args.lease) (sym c.self.view_is) c.requires.of_graph) in
    let over : GoesOver t lease t c.args.block = subst (λ (l : LeaseValue). GoesOver t l t c.args.block) (sym c.lease.view_is) (subst (λ (v : GraphValue). GoesOver v c.args.lease v c.args.block) (sym c.self.view_is) c.requires.over) in
    subst (λ (g : AbstractGraph). c.args.block < (blocks_of g).count) (sym (c.abstraction-2.ensures ∙ c.switch-quota.ensures.events.abstraction)) (key_known t c.self.invariant.lawful c.args.block over.0.0.1)

pub take_out-parts-requires-clause-home : goal.take_out-parts-requires-clause-home
take_out-parts-requires-clause-home c block there =
    let t : GraphValue = the_view c.self.inside in
    let lease : LeaseValue = the_lease c.lease.inside in
    let of : IsOfGraph t lease = subst (λ (l : LeaseValue). IsOfGraph t l) (sym c.lease.view_is) (subst (λ (v : GraphValue). IsOfGraph v c.args.lease) (sym c.self.view_is) c.requires.of_graph) in
    let over : GoesOver t lease t c.args.block = subst (λ (l : LeaseValue). GoesOver t l t c.args.block) (sym c.lease.view_is) (subst (λ (v : GraphValue). GoesOver v c.args.lease v c.args.block) (sym c.self.view_is) c.requires.over) in
    let table = c.switch-quota.new.self in
    let quota = c.switch-quota.result in
    let adds : Adds t.table table (Release lease.worker lease.used false ∷ Lease lease.worker c.args.block quota ∷ []) =
    subst (λ q. Adds t.table table (Release lease.worker lease.used false ∷ Lease lease.worker c.args.block q ∷ [])) (sym c.switch-quota.ensures.quota) c.switch-quota.ensures.events in
    let homes = c.bring_back-room.new.self in
    let lower = t.incumbent in
    let mid : GraphValue = mid_graph t c.self.invariant.lawful lease of c.lease.invariant.within c.args.block quota table adds homes lower in
    let mid_is : IsLeaseGraph mid = mid_kept t c.self.invariant.lawful lease of c.lease.invariant.within c.args.block quota table adds homes lower (ap length c.bring_back-room.ensures.back ∙ put_back_length lease.parts t.homes.bundles) c.bring_back-room.ensures.noted.count c.bring_back-room.ensures.home in
    let scope = c.scope.result.now in
    let abstraction : blocks_of c.abstraction-2.result.now ≡ blocks t.table = ap blocks_of (c.abstraction-2.ensures ∙ adds.abstraction) in
    let each : (b : ℕ) → has scope b ≡ (blocks t.table).scope c.args.block b = λ b. c.scope.ensures.each b ∙ ap (λ (of : Blocks). of.scope c.args.block b) abstraction in
    scope_home mid mid_is c.args.block block (mid_can t c.self.invariant.lawful lease of c.lease.invariant.within c.args.block quota table adds over.0.0.0) (sym (each block) ∙ there)

pub take_out-parts-requires-clause-distinct : goal.take_out-parts-requires-clause-distinct
take_out-parts-requires-clause-distinct c = distinct c.scope.result.now c.scope.ensures.ascending

pub take_out-parts-requires-clause-room : goal.take_out-parts-requires-clause-room
take_out-parts-requires-clause-room c =
    let t : GraphValue = the_view c.self.inside in
    let lease : LeaseValue = the_lease c.lease.inside in
    let of : IsOfGraph t lease = subst (λ (l : LeaseValue). IsOfGraph t l) (sym c.lease.view_is) (subst (λ (v : GraphValue). IsOfGraph v c.args.lease) (sym c.self.view_is) c.requires.of_graph) in
    let over : GoesOver t lease t c.args.block = subst (λ (l : LeaseValue). GoesOver t l t c.args.block) (sym c.lease.view_is) (subst (λ (v : GraphValue). GoesOver v c.args.lease v c.args.block) (sym c.self.view_is) c.requires.over) in
    let table = c.switch-quota.new.self in
    let quota = c.switch-quota.result in
    let adds : Adds t.table table (Release lease.worker lease.used false ∷ Lease lease.worker c.args.block quota ∷ []) =
    subst (λ q. Adds t.table table (Release lease.worker lease.used false ∷ Lease lease.worker c.args.block q ∷ [])) (sym c.switch-quota.ensures.quota) c.switch-quota.ensures.events in
    let scope = c.scope.result.now in
    let abstraction : blocks_of c.abstraction-2.result.now ≡ blocks t.table = ap blocks_of (c.abstraction-2.ensures ∙ adds.abstraction) in
    let each : (b : ℕ) → has scope b ≡ (blocks t.table).scope c.args.block b = λ b. c.scope.ensures.each b ∙ ap (λ (of : Blocks). of.scope c.args.block b) abstraction in
    let fewer = of.fits c.args.block scope (key_known t c.self.invariant.lawful c.args.block over.0.0.1) c.scope.ensures.ascending each in
    omega (arith, fewer, c.bring_back-room.ensures.room)

pub invariant_of-self : goal.invariant_of-self
invariant_of-self c =
    let t : GraphValue = the_view c.self.inside in
    let lease : LeaseValue = the_lease c.lease.inside in
    let of : IsOfGraph t lease = subst (λ (l : LeaseValue). IsOfGraph t l) (sym c.lease.view_is) (subst (λ (v : GraphValue). IsOfGraph v c.args.lease) (sym c.self.view_is) c.requires.of_graph) in
    let over : GoesOver t lease t c.args.block = subst (λ (l : LeaseValue). GoesOver t l t c.args.block) (sym c.lease.view_is) (subst (λ (v : GraphValue). GoesOver v c.args.lease v c.args.block) (sym c.self.view_is) c.requires.over) in
    let table = c.switch-quota.new.self in
    let quota = c.switch-quota.result in
    let adds : Adds t.table table (Release lease.worker lease.used false ∷ Lease lease.worker c.args.block quota ∷ []) =
    subst (λ q. Adds t.table table (Release lease.worker lease.used false ∷ Lease lease.worker c.args.block q ∷ [])) (sym c.switch-quota.ensures.quota) c.switch-quota.ensures.events in
    let homes = c.bring_back-room.new.self in
    let lower = c.least-incumbent.result in
    let mid : GraphValue = mid_graph t c.self.invariant.lawful lease of c.lease.invariant.within c.args.block quota table adds homes lower in
    let mid_is : IsLeaseGraph mid = mid_kept t c.self.invariant.lawful lease of c.lease.invariant.within c.args.block quota table adds homes lower (ap length c.bring_back-room.ensures.back ∙ put_back_length lease.parts t.homes.bundles) c.bring_back-room.ensures.noted.count c.bring_back-room.ensures.home in
    let scope = c.scope.result.now in
    let abstraction : blocks_of c.abstraction-2.result.now ≡ blocks t.table = ap blocks_of (c.abstraction-2.ensures ∙ adds.abstraction) in
    let each : (b : ℕ) → has scope b ≡ (blocks t.table).scope c.args.block b = λ b. c.scope.ensures.each b ∙ ap (λ (of : Blocks). of.scope c.args.block b) abstraction in
    let quota_is : quota ≡ min t.table.settings.lot (t.table.left + (lease.quota - lease.used)) = c.switch-quota.ensures.quota ∙ ap (λ (o : Option Grant). min t.table.settings.lot (t.table.left + (quota_of o - lease.used))) of.leased in
    let inside = mid_inside t c.self.invariant.lawful lease of c.lease.invariant.within c.args.block quota table adds in
    let vacant = mid_vacant t c.self.invariant.lawful lease of c.lease.invariant.within c.args.block quota table adds in
    let may : refusal (blocks t.table) t.table.settings (counts_in mid) (Lease lease.worker c.args.block quota) ≡ None =
    subst (λ q. refusal (blocks t.table) t.table.settings (counts_in mid) (Lease lease.worker c.args.block q) ≡ None) (sym quota_is)
    (lease_may (blocks t.table) t.table.settings (counts_in mid) lease.worker c.args.block (key_known t c.self.invariant.lawful c.args.block over.0.0.1) inside (mid_stays t c.self.invariant.lawful lease of c.lease.invariant.within c.args.block quota table adds) vacant refl c.self.invariant.lawful.legal.range.lot.0 (mid_can t c.self.invariant.lawful lease of c.lease.invariant.within c.args.block quota table adds over.0.0.0)) in
    let near = c.interference-near.result.now in
    let near_is : (b : ℕ) → has near b ≡ interferes (blocks t.table) lease.block b =
    λ b. c.interference-near.ensures.each b ∙ ap (λ (g : AbstractGraph). interferes (blocks_of g) lease.block b) (c.abstraction.ensures ∙ adds.abstraction) in
    let shown : ShowsClear table homes.keys c.show.new.free =
    shows_switched t c.self.invariant.lawful lease of c.args.block quota table near homes.keys c.self.inside.free c.show_beside_hot.new.free c.show_clear.new.free c.show.new.free adds c.bring_back-room.ensures.noted near_is
    c.self.invariant.shows c.show_beside_hot.ensures c.show_clear.ensures c.show.ensures in
    let keys : homes.keys ≡ c.take_out-parts.new.self.keys = sym (ap (λ (h : HomeTable). h.keys) c.take_out-parts.ensures.left) in
    record {
      lawful = leased_kept mid mid_is lease.worker c.args.block quota table c.take_out-parts.new.self (second_adds t c.self.invariant.lawful lease of c.lease.invariant.within c.args.block quota table adds) may inside vacant scope each c.take_out-parts.ensures.left c.take_out-parts.ensures.out;
      shows = stays_clear table c.take_out-parts.new.self.keys c.show.new.free c.prune.new.free (subst (λ (ks : List (Option Key)). ShowsClear table ks c.show.new.free) keys shown) c.prune.ensures;
      greatest_is = fits_on t.table table (Release lease.worker lease.used false ∷ Lease lease.worker c.args.block quota ∷ []) adds c.self.inside.greatest c.self.invariant.greatest_is;
    }

pub returns-clause-switched : goal.returns-clause-switched
returns-clause-switched c =
    let t : GraphValue = the_view c.self.inside in
    let lease : LeaseValue = the_lease c.lease.inside in
    let of : IsOfGraph t lease = subst (λ (l : LeaseValue). IsOfGraph t l) (sym c.lease.view_is) (subst (λ (v : GraphValue). IsOfGraph v c.args.lease) (sym c.self.view_is) c.requires.of_graph) in
    let over : GoesOver t lease t c.args.block = subst (λ (l : LeaseValue). GoesOver t l t c.args.block) (sym c.lease.view_is) (subst (λ (v : GraphValue). GoesOver v c.args.lease v c.args.block) (sym c.self.view_is) c.requires.over) in
    let table = c.switch-quota.new.self in
    let quota = c.switch-quota.result in
    let adds : Adds t.table table (Release lease.worker lease.used false ∷ Lease lease.worker c.args.block quota ∷ []) =
    subst (λ q. Adds t.table table (Release lease.worker lease.used false ∷ Lease lease.worker c.args.block q ∷ [])) (sym c.switch-quota.ensures.quota) c.switch-quota.ensures.events in
    let homes = c.bring_back-room.new.self in
    let lower = c.least-incumbent.result in
    let mid : GraphValue = mid_graph t c.self.invariant.lawful lease of c.lease.invariant.within c.args.block quota table adds homes lower in
    let mid_is : IsLeaseGraph mid = mid_kept t c.self.invariant.lawful lease of c.lease.invariant.within c.args.block quota table adds homes lower (ap length c.bring_back-room.ensures.back ∙ put_back_length lease.parts t.homes.bundles) c.bring_back-room.ensures.noted.count c.bring_back-room.ensures.home in
    let scope = c.scope.result.now in
    let abstraction : blocks_of c.abstraction-2.result.now ≡ blocks t.table = ap blocks_of (c.abstraction-2.ensures ∙ adds.abstraction) in
    let each : (b : ℕ) → has scope b ≡ (blocks t.table).scope c.args.block b = λ b. c.scope.ensures.each b ∙ ap (λ (of : Blocks). of.scope c.args.block b) abstraction in
    let next : LeaseValue = record {
      worker = lease.worker;
      block = c.args.block;
      quota = quota;
      used = 0;
      incumbent = lower;
      weight = lease.weight;
      choice = lease.choice;
      parts = c.take_out-parts.result.parts;
      fits = c.take_out-parts.result.fits;
    } in
    let new : GraphValue = record { task = t.task; choice = t.choice; table = table; homes = c.take_out-parts.new.self; incumbent = lower } in
    let fits : FitsScopes t.table.abstraction next.fits = λ b list known up same. let le = of.fits b list known up same in omega (arith, le, c.bring_back-room.ensures.room, c.take_out-parts.ensures.fits) in
    let test = mid_can t c.self.invariant.lawful lease of c.lease.invariant.within c.args.block quota table adds over.0.0.0 in
    let back : (b : ℕ) → content_at homes b ≡ _ = c.bring_back-room.ensures.home in
    let second = second_adds t c.self.invariant.lawful lease of c.lease.invariant.within c.args.block quota table adds in
    let switched : IsSwitched t lease next new = record {
      worker_is = refl;
      quota = c.switch-quota.ensures.quota ∙ ap (λ (o : Option Grant). min t.table.settings.lot (t.table.left + (quota_of o - lease.used))) of.leased;
      used = refl;
      lent_incumbent = c.least-incumbent.ensures;
      of_graph = of_graph mid mid_is next table c.take_out-parts.new.self scope each test fits of.weight of.choice second c.take_out-parts.ensures.taken;
      moved = λ b. moved mid mid_is next table c.take_out-parts.new.self scope each test fits of.weight of.choice second c.take_out-parts.ensures.taken b
          ∙ ap (λ (o : Option Content). cond ((blocks t.table).scope next.block b) o None) (back b);
      left = λ b. c.take_out-parts.ensures.out b ∙ ap (λ r. cond r None (content_at homes b)) (each b)
          ∙ ap (λ (o : Option Content). cond ((blocks t.table).scope next.block b) None o) (back b);
      noted = subst (λ (ks : List (Option Key)). NotesKeys lease.parts t.homes.keys ks) (sym (ap (λ (h : HomeTable). h.keys) c.take_out-parts.ensures.left)) c.bring_back-room.ensures.noted;
      events = adds;
      room = c.switch-quota.ensures.room;
      task = refl;
      choice = refl;
      incumbent = c.least-incumbent.ensures;
    } in
    subst (λ (l : LeaseValue). IsSwitched c.args.self.now l next new) c.lease.view_is (subst (λ (v : GraphValue). IsSwitched v lease next new) c.self.view_is switched)
