use Rattle.std.proofs.Common.{◌≡◌, ◌+◌, ℕ, length, get_or, take}
use Rattle.pb_machine.specs.Tables.{one_if}
use Rattle.pb_abstract.specs.Graph.{has}
use Rattle.pb_lease.proofs.tables.counters.lower.Given as goal

abbrev pub invariant-loop-block : goal.invariant-loop-block
invariant-loop-block l = record {
  places : length l.counters.items ≡ length l.initial.counters.items;
  each : (c : ℕ) → get_or l.counters.items c 0 + one_if (has (take l.block-index l.near) c) ≡ get_or l.initial.counters.items c 0;
}
