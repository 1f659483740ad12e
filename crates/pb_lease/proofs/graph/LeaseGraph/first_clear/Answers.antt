use Rattle.std.proofs.Common.{◌<◌, None, get_or, subst, arith, rules}
use Rattle.pb_bundles.specs.Homes.{key_at}
use Rattle.pb_bundles.specs.Choosing.{IsFirstBy}
use Rattle.pb_bundles.proofs.Callers.{some_within}
use Rattle.pb_lease.specs.Tables.{blocks}
use Rattle.pb_lease.specs.GraphValue.{GraphValue}
use Rattle.pb_lease.specs.Choices.{is_clear_in}
use Rattle.pb_lease.proofs.Free.{first_by_shown, leasable_shown}
use Rattle.pb_lease.specs.contracts.graph.LeaseGraph.{the_view}
use Rattle.pb_lease.proofs.graph.LeaseGraph.first_clear.Goals as goal

pub returns-clause-first : goal.returns-clause-first
returns-clause-first c =
    let t : GraphValue = the_view c.self.inside in
    subst (λ (v : GraphValue). IsFirstBy (is_clear_in v) (key_at v.homes) c.first.result) c.self.view_is
    (first_by_shown (is_clear_in t) (λ n. get_or c.self.inside.free n None) (key_at t.homes) c.first.result
    (λ block clear. leasable_shown t.table t.homes.keys c.self.inside.free c.self.invariant.shows c.self.invariant.lawful.key_places block clear)
    (c.first.ensures (is_clear_in t) (λ block answer lt post. search rules)))

pub returns-clause-known : goal.returns-clause-known
returns-clause-known c block is =
    let t : GraphValue = the_view c.self.inside in
    let first = subst (IsFirstBy (is_clear_in t) (λ n. get_or c.self.inside.free n None)) is (c.first.ensures (is_clear_in t) (λ b answer lt post. search rules)) in
    let within = some_within c.self.inside.free block first.0.1 in
    let known : block < (blocks t.table).count = omega (arith, within, c.self.invariant.shows.places) in
    subst (λ (v : GraphValue). block < (blocks v.table).count) c.self.view_is known
