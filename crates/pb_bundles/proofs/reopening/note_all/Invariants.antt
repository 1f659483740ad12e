use Rattle.std.proofs.Common.{◌≡◌, ◌<◌, ℕ, Some, None, length, get_or}
use Rattle.pb_model.specs.Key.{IsBest}
use Rattle.pb_lists.specs.Bundle.{Content, row_of}
use Rattle.pb_bundles.proofs.reopening.note_all.Given as goal

abbrev pub invariant-loop-block : goal.invariant-loop-block
invariant-loop-block l = record {
  noted : (block : ℕ) (content : Content) → block < l.block → get_or l.bundles block None ≡ Some content → IsBest content.weight (row_of content) (get_or l.keys block None);
  count : length l.keys ≡ length l.initial.keys;
}
