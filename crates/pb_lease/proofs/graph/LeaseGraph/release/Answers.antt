use Rattle.std.proofs.Common.{◌≡◌, ◌<◌, ℕ, arith, sym, ap, ◌∙◌, refl, subst, length, ◌∷◌}
use Rattle.pb_bundles.proofs.Callers.{put_back_length}
use Rattle.pb_lease.specs.LeaseValue.{LeaseValue}
use Rattle.pb_lease.specs.GraphValue.{GraphValue, IsOfGraph}
use Rattle.pb_lease.specs.Steps.{IsReleased, ReleasesNext}
use Rattle.pb_lease.proofs.GraphKept.{places_vacant, released_kept}
use Rattle.pb_lease.proofs.MomentReturns.{release_is_legal, released_next}
use Rattle.pb_machine.specs.Blocks.{interferes}
use Rattle.pb_abstract.specs.Graph.{AbstractGraph, blocks_of, has}
use Rattle.pb_machine.specs.declared.event.Event.TheVariants.{Release}
use Rattle.pb_lease.specs.Tables.{blocks}
use Rattle.pb_lease.specs.Events.{ending}
use Rattle.pb_lease.specs.Leased.{grant_of}
use Rattle.pb_lease.proofs.GraphBasics.{lawful_in}
use Rattle.pb_lease.proofs.Free.{fits_on, shows_released, stays_clear}
use Rattle.pb_lease.specs.contracts.graph.LeaseGraph.{the_view}
use Rattle.pb_lease.specs.contracts.lease.Lease.{the_view as the_lease}
use Rattle.pb_lease.proofs.graph.LeaseGraph.release.Goals as goal

pub bring_back-requires : goal.bring_back-requires
bring_back-requires c block there =
    let t : GraphValue = the_view c.self.inside in
    let lease : LeaseValue = the_lease c.lease.inside in
    let of : IsOfGraph t lease = subst (λ (l : LeaseValue). IsOfGraph t l) (sym c.lease.view_is) (subst (λ (v : GraphValue). IsOfGraph v c.args.lease) (sym c.self.view_is) c.requires) in
    places_vacant t c.self.invariant.lawful lease of block there

pub show_beside_hot-requires-clause-block : goal.show_beside_hot-requires-clause-block
show_beside_hot-requires-clause-block c =
    let t : GraphValue = the_view c.self.inside in
    let lease : LeaseValue = the_lease c.lease.inside in
    let of : IsOfGraph t lease = subst (λ (l : LeaseValue). IsOfGraph t l) (sym c.lease.view_is) (subst (λ (v : GraphValue). IsOfGraph v c.args.lease) (sym c.self.view_is) c.requires) in
    let known : lease.block < (blocks t.table).count = ((lawful_in t c.self.invariant.lawful).known lease.worker (grant_of lease) of.leased).1 in
    known

pub interference-near-requires : goal.interference-near-requires
interference-near-requires c =
    let t : GraphValue = the_view c.self.inside in
    let lease : LeaseValue = the_lease c.lease.inside in
    let of : IsOfGraph t lease = subst (λ (l : LeaseValue). IsOfGraph t l) (sym c.lease.view_is) (subst (λ (v : GraphValue). IsOfGraph v c.args.lease) (sym c.self.view_is) c.requires) in
    let known : lease.block < (blocks t.table).count = ((lawful_in t c.self.invariant.lawful).known lease.worker (grant_of lease) of.leased).1 in
    subst (λ (g : AbstractGraph). lease.block < (blocks_of g).count) (sym (c.abstraction.ensures ∙ c.release.ensures.events.abstraction)) known

pub show-requires : goal.show-requires
show-requires c =
    let t : GraphValue = the_view c.self.inside in
    let lease : LeaseValue = the_lease c.lease.inside in
    let of : IsOfGraph t lease = subst (λ (l : LeaseValue). IsOfGraph t l) (sym c.lease.view_is) (subst (λ (v : GraphValue). IsOfGraph v c.args.lease) (sym c.self.view_is) c.requires) in
    let known : lease.block < (blocks t.table).count = ((lawful_in t c.self.invariant.lawful).known lease.worker (grant_of lease) of.leased).1 in
    omega (arith, known, c.show_clear.ensures.count, c.show_beside_hot.ensures.count, c.self.invariant.shows.places)

pub invariant_of-self : goal.invariant_of-self
invariant_of-self c =
    let t : GraphValue = the_view c.self.inside in
    let lease : LeaseValue = the_lease c.lease.inside in
    let of : IsOfGraph t lease = subst (λ (l : LeaseValue). IsOfGraph t l) (sym c.lease.view_is) (subst (λ (v : GraphValue). IsOfGraph v c.args.lease) (sym c.self.view_is) c.requires) in
    let near = c.interference-near.result.now in
    let each : (b : ℕ) → has near b ≡ interferes (blocks t.table) lease.block b =
    λ b. c.interference-near.ensures.each b ∙ ap (λ (g : AbstractGraph). interferes (blocks_of g) lease.block b) (c.abstraction.ensures ∙ c.release.ensures.events.abstraction) in
    let kept = released_kept t c.self.invariant.lawful lease of c.args.memory c.release.new.self c.bring_back.new.self c.least-self-inside.result c.release.ensures.events
    (release_is_legal t c.self.invariant.lawful lease of c.lease.invariant.within c.args.memory) (ap length c.bring_back.ensures.back ∙ put_back_length lease.parts t.homes.bundles) c.bring_back.ensures.noted.count c.bring_back.ensures.home in
    let shows = shows_released t c.self.invariant.lawful lease of c.args.memory c.release.new.self near c.bring_back.new.self.keys c.self.inside.free c.show_beside_hot.new.free c.show_clear.new.free c.show.new.free c.release.ensures.events c.bring_back.ensures.noted each
    c.self.invariant.shows c.show_beside_hot.ensures c.show_clear.ensures c.show.ensures in
    record {
      lawful = kept;
      shows = stays_clear c.release.new.self c.bring_back.new.self.keys c.show.new.free c.prune.new.free shows c.prune.ensures;
      greatest_is = fits_on t.table c.release.new.self (Release lease.worker lease.used c.args.memory ∷ ending c.args.memory t.table.end) c.release.ensures.events c.self.inside.greatest c.self.invariant.greatest_is;
    }

pub returns-clause-moment : goal.returns-clause-moment
returns-clause-moment c =
    let t : GraphValue = the_view c.self.inside in
    let lease : LeaseValue = the_lease c.lease.inside in
    let of : IsOfGraph t lease = subst (λ (l : LeaseValue). IsOfGraph t l) (sym c.lease.view_is) (subst (λ (v : GraphValue). IsOfGraph v c.args.lease) (sym c.self.view_is) c.requires) in
    let new : GraphValue = record { task = t.task; choice = t.choice; table = c.release.new.self; homes = c.bring_back.new.self; incumbent = c.least-self-inside.result } in
    let released : IsReleased t lease c.args.memory new = record {
      home = c.bring_back.ensures.home;
      noted = c.bring_back.ensures.noted;
      events = c.release.ensures.events;
      room = c.release.ensures.room;
      task = refl;
      choice = refl;
      incumbent = c.least-self-inside.ensures;
    } in
    subst (λ (l : LeaseValue). ReleasesNext c.args.self.now l c.args.memory new) c.lease.view_is
    (subst (λ (v : GraphValue). ReleasesNext v lease c.args.memory new) c.self.view_is (released_next t c.self.invariant.lawful lease of c.lease.invariant.within c.args.memory new released))
