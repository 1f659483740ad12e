use Rattle.std.proofs.Common.{◌≡◌, ◌<◌, false, Option, sym, ap, ◌∙◌, subst}
use Rattle.pb_lists.specs.Bundle.{Content}
use Rattle.pb_bundles.specs.Parts.{rows_in}
use Rattle.pb_machine.specs.Settings.{weight_of}
use Rattle.pb_lease.specs.Tables.{blocks}
use Rattle.pb_lease.specs.GraphValue.{GraphValue}
use Rattle.pb_lease.specs.Choices.{is_out_in}
use Rattle.pb_lease.specs.Moments.{IsMomentAt}
use Rattle.pb_lease.proofs.GraphBasics.{all_home, all_rows}
use Rattle.pb_lease.specs.contracts.graph.LeaseGraph.{the_view}
use Rattle.pb_lease.proofs.graph.LeaseGraph.bundle.Goals as goal

pub bundle-requires : goal.bundle-requires
bundle-requires c =
    let t : GraphValue = the_view c.self.inside in
    let home = subst (λ (v : GraphValue). is_out_in v ≡ false) (sym c.self.view_is) c.requires.home in
    let known = subst (λ (v : GraphValue). c.args.block < (blocks v.table).count) (sym c.self.view_is) c.requires.block in
    all_home t c.self.invariant.lawful home c.args.block known

pub returns-clause-weight : goal.returns-clause-weight
returns-clause-weight c =
    let t : GraphValue = the_view c.self.inside in
    c.self.invariant.lawful.weights c.args.block c.bundle.result.now c.bundle.ensures ∙ ap (λ (v : GraphValue). weight_of v.table.settings) c.self.view_is

pub returns-clause-moment : goal.returns-clause-moment
returns-clause-moment c recorded machine m state =
    let t : GraphValue = the_view c.self.inside in
    let home = subst (λ (v : GraphValue). is_out_in v ≡ false) (sym c.self.view_is) c.requires.home in
    all_rows t c.self.invariant.lawful recorded machine (subst (λ (v : GraphValue). IsMomentAt v recorded machine) (sym c.self.view_is) m) home c.args.block state
    ∙ ap (λ (o : Option Content). rows_in o state) c.bundle.ensures
