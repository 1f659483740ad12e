use Rattle.std.proofs.Common.{◌≡◌, ◌&&◌, Bool, take}
use Rattle.std.specs.List.{list_any}
use Rattle.pb_abstract.specs.Changes.{change_of, changes_some}
use Rattle.pb_abstract.specs.declared.changes.Change.{Change}
use Rattle.pb_abstract.proofs.changes.all_changes.Given as goal

abbrev pub invariant-loop-at : goal.invariant-loop-at
invariant-loop-at l =
    (test : Change → Bool) → list_any test l.changes.items ≡ list_any (λ action. changes_some (change_of l.atoms action) && test (change_of l.atoms action)) (take l.at l.actions)
