use Rattle.std.proofs.Common.{◌≡◌, ℕ, false, not, ◌&&◌, ◌==◌, get_or, take}
use Rattle.pb_abstract.specs.Graph.{blocks_of, has}
use Rattle.pb_lease.specs.Kept.{AreMarks}
use Rattle.pb_lease.proofs.tables.marks.Marks.cool_idle.Given as goal

abbrev pub invariant-loop-block : goal.invariant-loop-block
invariant-loop-block l = record {
  marks : AreMarks (blocks_of l.abstraction) l.self.hot.items l.self.near.items;
  each : (c : ℕ) → get_or l.self.hot.items c false ≡ (get_or l.initial.self.hot.items c false && not (has (take l.block-index l.blocks) c && (get_or l.busy c 0 == 0)));
}
