use Rattle.std.proofs.Common.{◌≡◌, suc, not, None}
use Rattle.pb_tables.specs.Below.{first_below, some_if}
use Rattle.pb_tables.specs.Suits.{is_ordered}
use Rattle.pb_tables.proofs.order.order_fault.Given as goal

abbrev pub invariant-loop-place : goal.invariant-loop-place
invariant-loop-place l =
    first_below l.place (λ place. some_if (not (is_ordered l.count l.tracked l.listed place)) (suc place)) ≡ None
