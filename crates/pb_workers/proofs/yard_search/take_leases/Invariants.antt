use Rattle.pb_yard.specs.Passes.{view_of}
use Rattle.pb_workers.specs.Serving.{Serves, searched_by}
use Rattle.pb_workers.specs.Sharing.{HasNone}
use Rattle.pb_workers.proofs.yard_search.take_leases.Given as goal

abbrev pub invariant-loop : goal.invariant-loop
invariant-loop g l = record {
  can : (goal.iterator-loop g).can_next l.iterator';
  finite : (goal.iterator-loop g).is_finite l.iterator';
  none : HasNone l.initial.lessor.watch l.lessor.watch;
  serves : Serves l.worker (searched_by (view_of l.lessor.watch.pass));
}
