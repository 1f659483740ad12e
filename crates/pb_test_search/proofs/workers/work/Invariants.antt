use Rattle.std.proofs.Common.{◌≡◌}
use Rattle.pb_yard.specs.Passes.{view_of, parts_of, IsOf}
use Rattle.pb_yard.specs.Calls.{IsReady, KeepsWorkers}
use Rattle.pb_test_search.proofs.workers.work.Given as goal

abbrev pub invariant-loop : goal.invariant-loop
invariant-loop g l = record {
  can_next : (goal.iterator-loop g).can_next l.iterator';
  is_finite : (goal.iterator-loop g).is_finite l.iterator';
  own : IsOf l.yard l.pass;
  parts : parts_of l.pass ≡ parts_of l.initial.pass;
  workers : KeepsWorkers (view_of l.initial.pass) (view_of l.pass);
  ready : IsReady (view_of l.pass);
}
