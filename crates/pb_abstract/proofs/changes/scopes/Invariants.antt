use Rattle.std.proofs.Common.{◌≡◌, ◌<◌, ◌↔◌, ◌⊎◌, ℕ, [], IsTrue, get_or, length}
use Rattle.pb_abstract.specs.Tracked.{IsTrackedEdge}
use Rattle.pb_abstract.specs.Graph.{has}
use Rattle.pb_abstract.proofs.changes.scopes.Given as goal

abbrev pub invariant-loop-block : goal.invariant-loop-block
invariant-loop-block l = record {
  count : length l.scopes.items ≡ l.block;
  scope : (block other : ℕ) → block < l.block → IsTrue (has (get_or l.scopes.items block []) other) ↔ ((block ≡ other) ⊎ IsTrackedEdge l.strips l.atoms block other);
}
