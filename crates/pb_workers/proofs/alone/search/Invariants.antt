use Rattle.std.proofs.Common.{◌≡◌, IsFalse}
use Rattle.pb_lease.specs.GraphValue.{counts_in}
use Rattle.pb_lease.specs.Choices.{is_out_in}
use Rattle.pb_workers.specs.Runs.{IsSameSearch, IsAnyMoment, RunsOn}
use Rattle.pb_yard.specs.Marking.{no_turn}
use Rattle.pb_workers.specs.Turns.{HasTurn}
use Rattle.pb_workers.specs.Serving.{Serves, searched_in}
use Rattle.pb_workers.proofs.Searching.{distance}
use Rattle.pb_workers.proofs.alone.search.Given as goal

abbrev pub invariant-leases : goal.invariant-leases
invariant-leases g l = record {
  serves : Serves l.worker (searched_in l.graph);
  alone : l.graph.table.settings.workers ≡ 1;
  moment : IsAnyMoment l.graph;
  home : IsFalse (is_out_in l.graph);
  stays : IsFalse ((counts_in l.graph).signed_off 0);
  same : IsSameSearch l.initial.graph l.graph;
  runs : RunsOn l.initial.graph l.graph;
  turn : HasTurn l.initial.graph 0 no_turn → HasTurn l.graph 0 no_turn;
}

abbrev pub decreases-leases : goal.decreases-leases
decreases-leases g l = distance l.graph
