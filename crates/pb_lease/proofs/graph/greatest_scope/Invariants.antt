use Rattle.std.proofs.Common.{◌≡◌, ◌<◌, ◌≤◌, ℕ, List, length}
use Rattle.std.specs.List.Sorted.{IsStrictlyIncreasing}
use Rattle.pb_abstract.specs.Graph.{blocks_of, has}
use Rattle.pb_lease.proofs.graph.greatest_scope.Given as goal

abbrev pub invariant-loop-block : goal.invariant-loop-block
invariant-loop-block l =
    (block : ℕ) (scope : List ℕ) → block < l.block → block < (blocks_of l.abstraction).count → IsStrictlyIncreasing scope → ((other : ℕ) → has scope other ≡ (blocks_of l.abstraction).scope block other) → length scope ≤ l.greatest
