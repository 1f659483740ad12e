use Rattle.std.proofs.Common.{◌≡◌, true, ap, ◌∙◌, subst, rules, tests}
use Rattle.std.proofs.lemmas.Iterator.{cases_from_any, YieldsList-from_slice}
use Rattle.pb_bundles.specs.Homes.{key_at}
use Rattle.pb_bundles.specs.Choosing.{IsBetterBy}
use Rattle.pb_lease.specs.Tables.{blocks}
use Rattle.pb_lease.specs.GraphValue.{GraphValue, counts_in}
use Rattle.pb_lease.specs.Choices.{IsOutranked}
use Rattle.pb_lease.proofs.Rivals.{outranked_by}
use Rattle.pb_machine.specs.Blocks.{Blocks, interferes}
use Rattle.pb_abstract.specs.Graph.{blocks_of}
use Rattle.pb_lease.specs.contracts.graph.LeaseGraph.{the_view}
use Rattle.pb_lease.proofs.graph.LeaseGraph.is_outranked.Goals as goal

pub returns : goal.returns
returns c =
    let t : GraphValue = the_view c.self.inside in
    let cases = cases_from_any _ _ c.any.result (λ other. ((counts_in t).hot other ≡ true) × IsBetterBy (key_at t.homes) other c.args.block) (λ other. (((counts_in t).hot other ≡ true) × IsBetterBy (key_at t.homes) other c.args.block) → ⊥) c.any.ensures.ran
    (YieldsList-from_slice c.interference.result.now cc) (λ x q k. search (rules, tests)) (λ x q k. search (rules, tests)) in
    let abstraction : blocks_of c.abstraction.result.now ≡ blocks t.table = ap blocks_of c.abstraction.ensures in
    let by = outranked_by t c.args.block c.interference.result.now (λ b. c.interference.ensures.each b ∙ ap (λ (of : Blocks). interferes of c.args.block b) abstraction) c.any.result cases in
    subst (λ (v : GraphValue). (c.any.result ≡ true → IsOutranked v c.args.block) × (IsOutranked v c.args.block → c.any.result ≡ true)) c.self.view_is by
