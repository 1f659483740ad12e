use Rattle.std.proofs.Common.{◌≡◌, ℕ, false, None, not, ◌&&◌, get_or, take, length}
use Rattle.pb_machine.specs.Counts.{is_busy}
use Rattle.pb_abstract.specs.Graph.{blocks_of, has}
use Rattle.pb_journal.proofs.effects.cool_idle.Given as goal

abbrev pub invariant-loop-block : goal.invariant-loop-block
invariant-loop-block l = record {
  places : length l.hot.items ≡ length l.initial.hot.items;
  each : (c : ℕ)
      → get_or l.hot.items c false
      ≡ (get_or l.initial.hot.items c false
      && not (has (take l.block-index l.near) c
      && not (is_busy (blocks_of l.graph) (length l.leases)
      (λ worker. get_or l.leases worker None) c)));
}
