use Rattle.std.proofs.Common.{◌≡◌, ℕ, ◌<◌, slice_index}
use Rattle.pb_task.specs.Strips.{action_at}
use Rattle.pb_tables.specs.Below.{greatest_below}
use Rattle.pb_tables.specs.Tables.{drop_at}
use Rattle.pb_tables.proofs.paid.drops_of_table.Given as goal

abbrev pub invariant-loop-place : goal.invariant-loop-place
invariant-loop-place l =
    (sum : ℕ) → sum < l.sums → slice_index l.drops sum ≡ greatest_below l.place (drop_at l.strips.atoms l.sums (action_at l.strips.actions l.action) l.table sum)
