use Rattle.std.proofs.Common.{◌≡◌, ℕ, [], take, get_or}
use Rattle.std.specs.List.{list_any}
use Rattle.pb_abstract.specs.Graph.{has}
use Rattle.pb_abstract.proofs.interference.near.Given as goal

abbrev pub invariant-loop-shared : goal.invariant-loop-shared
invariant-loop-shared l = (c : ℕ) → has l.found.items c ≡ list_any (λ shared. has (get_or l.sources shared []) c) (take l.shared-index l.scope)
