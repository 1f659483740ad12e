use Rattle.std.proofs.Common.{◌≡◌, ◌<◌, ◌||◌, ◌==◌, ℕ, Some, take, sym, ap, subst, ◌∙◌}
use Rattle.std.proofs.lemmas.List.{take_all}
use Rattle.pb_machine.specs.Blocks.{interferes}
use Rattle.pb_abstract.specs.Graph.{AbstractGraph, blocks_of, has}
use Rattle.pb_lease.specs.Tables.{blocks}
use Rattle.pb_lease.specs.LeaseValue.{LeaseValue}
use Rattle.pb_lease.specs.Leased.{grant_of}
use Rattle.pb_lease.specs.GraphValue.{GraphValue, counts_in}
use Rattle.pb_lease.specs.Choices.{IsChoiceWithHome, IsBestWithHome, is_clear_in}
use Rattle.pb_lease.proofs.GraphBasics.{lawful_in}
use Rattle.pb_lease.proofs.WithHome.{is_listed, listed_first, listed_more, first_listed}
use Rattle.pb_lease.specs.contracts.graph.LeaseGraph.{the_view}
use Rattle.pb_lease.specs.contracts.lease.Lease.{the_view as the_lease}
use Rattle.pb_lease.proofs.graph.LeaseGraph.choice_with_home.Goals as goal

pub interference-near-requires : goal.interference-near-requires
interference-near-requires c =
    let t : GraphValue = the_view c.self.inside in
    let lease : LeaseValue = the_lease c.lease.inside in
    let leased : (counts_in t).leases lease.worker ≡ Some (grant_of lease) =
    subst (λ (l : LeaseValue). (counts_in t).leases l.worker ≡ Some (grant_of l)) (sym c.lease.view_is)
    (subst (λ (v : GraphValue). (counts_in v).leases c.args.lease.now.worker ≡ Some (grant_of c.args.lease.now)) (sym c.self.view_is) c.requires) in
    let known : lease.block < (blocks t.table).count = ((lawful_in t c.self.invariant.lawful).known lease.worker (grant_of lease) leased).1 in
    subst (λ (g : AbstractGraph). lease.block < (blocks_of g).count) (sym c.abstraction.ensures) known

pub better_with_home-best-requires-clause-other : goal.better_with_home-best-requires-clause-other
better_with_home-best-requires-clause-other c =
    let t : GraphValue = the_view c.self.inside in
    let lease : LeaseValue = the_lease c.lease.inside in
    let leased : (counts_in t).leases lease.worker ≡ Some (grant_of lease) =
    subst (λ (l : LeaseValue). (counts_in t).leases l.worker ≡ Some (grant_of l)) (sym c.lease.view_is)
    (subst (λ (v : GraphValue). (counts_in v).leases c.args.lease.now.worker ≡ Some (grant_of c.args.lease.now)) (sym c.self.view_is) c.requires) in
    let known : lease.block < (blocks t.table).count = ((lawful_in t c.self.invariant.lawful).known lease.worker (grant_of lease) leased).1 in
    subst (λ (v : GraphValue). lease.block < (blocks v.table).count) c.self.view_is known

pub loop-other-init : goal.loop-other-init
loop-other-init c =
    let g : GraphValue = c.args.self.now in
    let lease : LeaseValue = c.args.lease.now in
    let result = c.better_with_home-best.result in
    listed_first g lease result (subst (λ n. IsBestWithHome g lease (λ b. is_clear_in g b || (b == n)) result) (ap (λ (l : LeaseValue). l.block) c.lease.view_is)
    (c.better_with_home-best.ensures (is_clear_in g) c.clear_with_home.ensures))

pub loop-other-preserved : goal.loop-other-preserved
loop-other-preserved c =
    let g : GraphValue = c.args.self.now in
    let lease : LeaseValue = c.args.lease.now in
    let near = c.interference-near.result.now in
    let i = c.loop-other.other-index in
    listed_more g lease near i c.better_with_home-best-in-loop-other.result c.loop-other-test.true (c.better_with_home-best-in-loop-other.ensures (is_listed g lease (take i near)) c.loop-other.invariant)

pub returns : goal.returns
returns c =
    let t : GraphValue = the_view c.self.inside in
    let lease : LeaseValue = the_lease c.lease.inside in
    let leased : (counts_in t).leases lease.worker ≡ Some (grant_of lease) =
    subst (λ (l : LeaseValue). (counts_in t).leases l.worker ≡ Some (grant_of l)) (sym c.lease.view_is)
    (subst (λ (v : GraphValue). (counts_in v).leases c.args.lease.now.worker ≡ Some (grant_of c.args.lease.now)) (sym c.self.view_is) c.requires) in
    let near = c.interference-near.result.now in
    let best = c.loop-other.best in
    let each : (b : ℕ) → has near b ≡ interferes (blocks t.table) lease.block b =
    λ b. c.interference-near.ensures.each b ∙ ap (λ (g : AbstractGraph). interferes (blocks_of g) lease.block b) c.abstraction.ensures in
    let all : IsBestWithHome t lease (is_listed t lease near) best =
    subst (λ (l : LeaseValue). IsBestWithHome t l (is_listed t l near) best) (sym c.lease.view_is)
    (subst (λ (v : GraphValue). IsBestWithHome v c.args.lease.now (is_listed v c.args.lease.now near) best) (sym c.self.view_is)
    (subst (λ list. IsBestWithHome c.args.self.now c.args.lease.now (is_listed c.args.self.now c.args.lease.now list) best) (take_all c.loop-other.other-index near c.loop-other-test.false) c.loop-other.invariant)) in
    subst (λ (l : LeaseValue). IsChoiceWithHome c.args.self.now l c.args.self.now best) c.lease.view_is
    (subst (λ (v : GraphValue). IsChoiceWithHome v lease v best) c.self.view_is (first_listed t lease leased near best each all))
