use Rattle.std.proofs.Common.{◌≡◌, ◌≤◌, ℕ, All, map, take}
use Rattle.pb_packed.specs.Sizes.{most_atoms}
use Rattle.pb_strips.specs.Grounding.{packed_action}
use Rattle.pb_strips.specs.Packing.{HasAtoms}
use Rattle.pb_strips.proofs.parts.packed_actions.Given as goal

abbrev pub invariant-loop-action : goal.invariant-loop-action
invariant-loop-action l =
    (count : ℕ) → count ≤ most_atoms → All (HasAtoms count) l.actions → l.all ≡ map (packed_action l.domain l.problem count) (take l.action-index l.actions)
