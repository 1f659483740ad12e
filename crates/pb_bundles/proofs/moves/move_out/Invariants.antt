use Rattle.std.proofs.Common.{◌≡◌, ◌+◌, ◌≤◌, length, take}
use Rattle.indexmap.specs.IndexMap.{spare}
use Rattle.pb_bundles.specs.Moves.{vacated, moved}
use Rattle.pb_bundles.proofs.moves.move_out.Given as goal

abbrev pub invariant-loop-block : goal.invariant-loop-block
invariant-loop-block l = record {
  left : l.bundles.items ≡ vacated (take l.block-index l.scope) l.initial.bundles.items;
  gone : l.parts.entries ≡ moved (take l.block-index l.scope) l.initial.bundles.items;
  places : length l.parts.entries ≡ l.block-index;
  room : spare l.initial.parts ≤ spare l.parts + l.block-index;
}
