use Rattle.std.proofs.Common.{subst}
use Rattle.pb_lease.specs.GraphValue.{GraphValue, IsLeaseGraph}
use Rattle.pb_search.proofs.GoingOn.{quiet_then, left_then, fits_then}
use Rattle.pb_search.proofs.going_on.search_on.Goals as goal

pub returns-then-settings-eq1-clause-quiet : goal.returns-then-settings-eq1-clause-quiet
returns-then-settings-eq1-clause-quiet g c =
    let lawful : IsLeaseGraph c.args.graph = subst (λ (v : GraphValue). IsLeaseGraph v) c.graph.view_is c.graph.invariant.lawful in
    quiet_then c.args.graph lawful c.requires.begin c.search_alone.result c.search_alone.ensures

pub returns-then-settings-eq1-clause-left : goal.returns-then-settings-eq1-clause-left
returns-then-settings-eq1-clause-left g c =
    let lawful : IsLeaseGraph c.args.graph = subst (λ (v : GraphValue). IsLeaseGraph v) c.graph.view_is c.graph.invariant.lawful in
    left_then c.args.graph lawful c.requires.begin c.search_alone.result c.search_alone.ensures

pub returns-clause-quiet : goal.returns-clause-quiet
returns-clause-quiet g c =
    let lawful : IsLeaseGraph c.args.graph = subst (λ (v : GraphValue). IsLeaseGraph v) c.graph.view_is c.graph.invariant.lawful in
    quiet_then c.args.graph lawful c.requires.begin c.search_together.result c.search_together.ensures

pub returns-clause-left : goal.returns-clause-left
returns-clause-left g c =
    let lawful : IsLeaseGraph c.args.graph = subst (λ (v : GraphValue). IsLeaseGraph v) c.graph.view_is c.graph.invariant.lawful in
    left_then c.args.graph lawful c.requires.begin c.search_together.result c.search_together.ensures

pub returns-clause-fits : goal.returns-clause-fits
returns-clause-fits g c =
    let lawful : IsLeaseGraph c.args.graph = subst (λ (v : GraphValue). IsLeaseGraph v) c.graph.view_is c.graph.invariant.lawful in
    fits_then c.args.graph lawful c.requires.begin c.search_together.result c.search_together.ensures
