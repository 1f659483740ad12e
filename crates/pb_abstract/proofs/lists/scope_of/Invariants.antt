use Rattle.std.proofs.Common.{◌≡◌, ◌||◌, ◌==◌, ℕ, take}
use Rattle.std.specs.List.{list_any}
use Rattle.pb_abstract.specs.Borders.{is_number}
use Rattle.pb_abstract.specs.Graph.{has}
use Rattle.pb_abstract.proofs.lists.scope_of.Given as goal

abbrev pub invariant-loop-other : goal.invariant-loop-other
invariant-loop-other l = (c : ℕ) → has l.numbers.items c ≡ ((l.block == c) || list_any (λ other. is_number other c) (take l.other-index l.other-items))
