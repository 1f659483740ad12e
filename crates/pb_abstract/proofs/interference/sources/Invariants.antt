use Rattle.std.proofs.Common.{◌≡◌, ◌&&◌, ℕ, [], get_or, length, nat_lt}
use Rattle.pb_abstract.specs.Graph.{has}
use Rattle.pb_abstract.proofs.interference.sources.Given as goal

abbrev pub invariant-loop-block : goal.invariant-loop-block
invariant-loop-block l = record {
  len : length l.lists.items ≡ length l.scopes;
  each : (place other : ℕ) → has (get_or l.lists.items place []) other ≡ (nat_lt other l.block && has (get_or l.scopes other []) place);
}
