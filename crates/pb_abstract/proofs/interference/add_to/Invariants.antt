use Rattle.std.proofs.Common.{◌≡◌, ◌||◌, ◌&&◌, ◌==◌, ℕ, [], take, get_or}
use Rattle.pb_abstract.specs.Graph.{has}
use Rattle.pb_abstract.proofs.interference.add_to.Given as goal

abbrev pub invariant-loop-place : goal.invariant-loop-place
invariant-loop-place l =
    (place c : ℕ) → has (get_or l.lists place []) c ≡ (has (get_or l.fn.lists place []) c || (has (take l.place-index l.places) place && (l.number == c)))
