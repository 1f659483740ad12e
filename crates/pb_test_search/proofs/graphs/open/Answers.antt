use Rattle.std.proofs.Common.{sym, ap, ◌∙◌}
use Rattle.pb_machine.specs.declared.settings.Settings.{Settings}
use Rattle.pb_machine.specs.Counts.{opening_counts}
use Rattle.pb_test_search.proofs.graphs.open.Goals as goal

pub returns-clause-opening : goal.returns-clause-opening
returns-clause-opening c = record {
  counts = c.in_ok-graph.ensures.counts ∙ ap (λ (s : Settings). opening_counts s 0) (sym c.in_ok-graph.ensures.settings);
  moment = c.in_ok-graph.ensures.moment;
}
