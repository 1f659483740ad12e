use Rattle.std.proofs.Common.{◌≡◌, ◌<◌, ◌↔◌, ◌⊎◌, ℕ, [], IsTrue, get_or, length}
use Rattle.pb_abstract.specs.Squares.{IsSquareEdge}
use Rattle.pb_abstract.specs.Graph.{has}
use Rattle.pb_abstract.proofs.squares.scopes.Given as goal

abbrev pub invariant-loop-block : goal.invariant-loop-block
invariant-loop-block l = record {
  count : length l.scopes.items ≡ l.block;
  scope : (block other : ℕ) → block < l.block → IsTrue (has (get_or l.scopes.items block []) other) ↔ ((block ≡ other) ⊎ IsSquareEdge l.grid l.side block other);
}
