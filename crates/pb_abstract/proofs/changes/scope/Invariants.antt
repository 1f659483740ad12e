use Rattle.std.proofs.Common.{◌≡◌, ◌||◌, ◌==◌, ℕ, take}
use Rattle.std.specs.List.{list_any}
use Rattle.pb_abstract.specs.Borders.{is_number}
use Rattle.pb_abstract.specs.Changes.{block_after}
use Rattle.pb_abstract.specs.Graph.{has}
use Rattle.pb_abstract.proofs.changes.scope.Given as goal

abbrev pub invariant-loop-change : goal.invariant-loop-change
invariant-loop-change l = (c : ℕ) → has l.numbers.items c ≡ ((l.block == c) || list_any (λ change. is_number (block_after change l.block) c) (take l.change-index l.changes))
