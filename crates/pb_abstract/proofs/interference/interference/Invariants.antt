use Rattle.std.proofs.Common.{◌≡◌, ◌<◌, ℕ, [], get_or, length}
use Rattle.pb_machine.specs.Blocks.{interferes}
use Rattle.pb_abstract.specs.Graph.{has, blocks_in}
use Rattle.pb_abstract.proofs.interference.interference.Given as goal

abbrev pub invariant-loop-block : goal.invariant-loop-block
invariant-loop-block l = record {
  len : length l.lists.items ≡ l.block;
  each : (block other : ℕ) → block < l.block → has (get_or l.lists.items block []) other ≡ interferes (blocks_in l.scopes) block other;
}
