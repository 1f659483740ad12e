use Rattle.std.proofs.Common.{◌≡◌, ◌<◌, Some, sym, ap, ◌∙◌, subst}
use Rattle.pb_machine.specs.Blocks.{Blocks, interferes}
use Rattle.pb_abstract.specs.Graph.{AbstractGraph, blocks_of}
use Rattle.pb_bundles.specs.Homes.{key_at}
use Rattle.pb_bundles.specs.Choosing.{IsRivalBy}
use Rattle.pb_lease.specs.Tables.{blocks}
use Rattle.pb_lease.specs.LeaseValue.{LeaseValue}
use Rattle.pb_lease.specs.Leased.{grant_of}
use Rattle.pb_lease.specs.GraphValue.{GraphValue, counts_in}
use Rattle.pb_lease.proofs.GraphBasics.{lawful_in}
use Rattle.pb_lease.proofs.Rivals.{rival_near, rival_is}
use Rattle.pb_lease.specs.contracts.graph.LeaseGraph.{the_view}
use Rattle.pb_lease.specs.contracts.lease.Lease.{the_view as the_lease}
use Rattle.pb_lease.proofs.graph.LeaseGraph.rival.Goals as goal

pub interference-requires : goal.interference-requires
interference-requires c =
    let t : GraphValue = the_view c.self.inside in
    let lease : LeaseValue = the_lease c.lease.inside in
    let leased = subst (λ (l : LeaseValue). (counts_in t).leases l.worker ≡ Some (grant_of l)) (sym c.lease.view_is) (subst (λ (v : GraphValue). (counts_in v).leases c.args.lease.now.worker ≡ Some (grant_of c.args.lease.now)) (sym c.self.view_is) c.requires) in
    subst (λ (g : AbstractGraph). lease.block < (blocks_of g).count) (sym c.abstraction.ensures) ((lawful_in t c.self.invariant.lawful).known lease.worker (grant_of lease) leased).1

pub returns-clause-rival : goal.returns-clause-rival
returns-clause-rival c =
    let t : GraphValue = the_view c.self.inside in
    let lease : LeaseValue = the_lease c.lease.inside in
    let abstraction : blocks_of c.abstraction.result.now ≡ blocks t.table = ap blocks_of c.abstraction.ensures in
    subst (λ (l : LeaseValue). IsRivalBy (interferes (blocks c.args.self.now.table) l.block) (key_at c.args.self.now.homes) l.block c.rival.result) c.lease.view_is
    (subst (λ (v : GraphValue). IsRivalBy (interferes (blocks v.table) lease.block) (key_at v.homes) lease.block c.rival.result) c.self.view_is
    (rival_near t lease.block c.interference.result.now c.rival.result (λ b. c.interference.ensures.each b ∙ ap (λ (of : Blocks). interferes of lease.block b) abstraction) c.rival.ensures))

pub returns-clause-moment : goal.returns-clause-moment
returns-clause-moment c =
    let t : GraphValue = the_view c.self.inside in
    let lease : LeaseValue = the_lease c.lease.inside in
    let abstraction : blocks_of c.abstraction.result.now ≡ blocks t.table = ap blocks_of c.abstraction.ensures in
    rival_is c.args.self.now c.args.lease.now.block c.rival.result
    (subst (λ (l : LeaseValue). IsRivalBy (interferes (blocks c.args.self.now.table) l.block) (key_at c.args.self.now.homes) l.block c.rival.result) c.lease.view_is
    (subst (λ (v : GraphValue). IsRivalBy (interferes (blocks v.table) lease.block) (key_at v.homes) lease.block c.rival.result) c.self.view_is
    (rival_near t lease.block c.interference.result.now c.rival.result (λ b. c.interference.ensures.each b ∙ ap (λ (of : Blocks). interferes of lease.block b) abstraction) c.rival.ensures)))
