use Rattle.std.proofs.Common.{◌≡◌, vec_len, vec_capacity}
use Rattle.pb_workers.specs.Tools.{AllAreFor}
use Rattle.pb_workers.proofs.workers.tools_for.Given as goal

abbrev pub invariant-loop-i : goal.invariant-loop-i
invariant-loop-i l = record {
  tools : AllAreFor l.task l.choice l.tools.items;
  count : vec_len l.tools ≡ l._i;
  room : vec_capacity l.tools ≡ l.workers;
}
