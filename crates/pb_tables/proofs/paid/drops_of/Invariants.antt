use Rattle.std.proofs.Common.{◌≡◌, ℕ, ◌<◌, slice_index}
use Rattle.pb_task.specs.Strips.{action_at}
use Rattle.pb_tables.specs.Tables.{drops_of}
use Rattle.pb_tables.proofs.paid.drops_of.Given as goal

abbrev pub invariant-loop-number : goal.invariant-loop-number
invariant-loop-number l =
    (sum : ℕ) → sum < l.sums → slice_index l.totals sum ≡ drops_of l.strips.atoms (action_at l.strips.actions l.action) l.sums l.tables l.number sum
