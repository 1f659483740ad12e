use Rattle.std.proofs.Common.{◌≡◌, All, vec_len, vec_capacity}
use Rattle.pb_estimate.specs.Tables.{IsOfTask}
use Rattle.pb_answer.proofs.checking.estimators_for.Given as goal

abbrev pub invariant-loop : goal.invariant-loop
invariant-loop l = record {
  each : All (λ e. IsOfTask e l.task l.choice) l.estimators.items;
  count : vec_len l.estimators ≡ l.counter;
  room : vec_capacity l.estimators ≡ l.workers;
}
