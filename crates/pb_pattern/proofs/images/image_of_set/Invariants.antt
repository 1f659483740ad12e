use Rattle.std.proofs.Common.{◌≡◌, ◌<◌, ◌^◌, slice_index}
use Rattle.pb_task.specs.Strips.{has_atom, set_of}
use Rattle.pb_pattern.proofs.images.image_of_set.Given as goal

abbrev pub invariant-loop-place : goal.invariant-loop-place
invariant-loop-place l = (l.image ≡ set_of l.place (λ place. has_atom l.set (slice_index l.tracked place))) × (l.image < 2 ^ l.place)
