use Rattle.pb_lease.specs.GraphValue.{IsOfGraph}
use Rattle.pb_test_search.proofs.graphs.mark_often.Given as goal

abbrev pub invariant-loop : goal.invariant-loop
invariant-loop l = IsOfGraph l.graph l.lease
