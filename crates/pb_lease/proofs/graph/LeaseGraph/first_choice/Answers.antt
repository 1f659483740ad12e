use Rattle.std.proofs.Common.{true, None, sym, ◌∙◌, subst, get_or, true≢false, rules}
use Rattle.pb_model.proofs.Callers.{and_true}
use Rattle.pb_bundles.specs.Homes.{key_at}
use Rattle.pb_lease.specs.Tables.{blocks}
use Rattle.pb_lease.specs.Leasing.{can_be_leased}
use Rattle.pb_lease.specs.GraphValue.{GraphValue, counts_in}
use Rattle.pb_lease.specs.Choices.{IsChoice}
use Rattle.pb_lease.proofs.Free.{first_by_shown, leasable_clear, leasable_shown}
use Rattle.pb_lease.specs.contracts.graph.LeaseGraph.{the_view}
use Rattle.pb_lease.proofs.graph.LeaseGraph.first_choice.Goals as goal

pub returns-then-not-is_open : goal.returns-then-not-is_open
returns-then-not-is_open c =
    let t : GraphValue = the_view c.self.inside in
    subst (λ (v : GraphValue). IsChoice v None) c.self.view_is
    (λ block may. absurd (true≢false (sym (and_true _ _ (and_true _ _ may.0).0).0 ∙ sym c.is_open.ensures ∙ c.if-not-is_open.true)))

pub returns : goal.returns
returns c =
    let t : GraphValue = the_view c.self.inside in
    let pass = can_be_leased (blocks t.table) t.table.settings (counts_in t) in
    subst (λ (v : GraphValue). IsChoice v c.first.result) c.self.view_is
    (first_by_shown pass (λ n. get_or c.self.inside.free n None) (key_at t.homes) c.first.result
    (λ block may. leasable_shown t.table t.homes.keys c.self.inside.free c.self.invariant.shows c.self.invariant.lawful.key_places block (leasable_clear (blocks t.table) t.table.settings (counts_in t) block may))
    (c.first.ensures pass (λ block answer lt post. search rules)))
