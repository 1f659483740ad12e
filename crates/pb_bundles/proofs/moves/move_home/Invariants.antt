use Rattle.std.proofs.Common.{◌≡◌, ◌<◌, ◌≤◌, length, All}
use Rattle.indexmap.specs.Drain.{drain_rest, drain_room, drain_kept, drain_lender}
use Rattle.pb_bundles.specs.Moves.{put_back}
use Rattle.pb_bundles.proofs.moves.move_home.Given as goal

abbrev pub invariant-loop-block : goal.invariant-loop-block
invariant-loop-block l = record {
  places : length l.bundles.items ≡ length l.initial.bundles.items;
  below : All (λ part. part.0 < length l.initial.bundles.items) (drain_rest l.rest);
  back : put_back (drain_rest l.rest) l.bundles.items ≡ put_back (drain_rest l.initial.rest) l.initial.bundles.items;
  kept : drain_kept l.rest ≡ drain_kept l.initial.rest;
  lender : drain_lender l.rest ≡ drain_lender l.initial.rest;
  room : drain_room l.initial.rest ≤ drain_room l.rest;
}

abbrev pub decreases-loop-block : goal.decreases-loop-block
decreases-loop-block l = length (drain_rest l.rest)
