use Rattle.std.proofs.Common.{◌≡◌, ◌<◌, ℕ, false, slice_index}
use Rattle.pb_task.specs.Strips.{action_at}
use Rattle.pb_tables.specs.Images.{leads_out}
use Rattle.pb_tables.proofs.closed.first_out.Given as goal

abbrev pub invariant-loop-place : goal.invariant-loop-place
invariant-loop-place l =
    (other : ℕ) → other < l.place → leads_out l.strips.atoms l.tracked l.listed (action_at l.strips.actions l.action) (slice_index l.listed other) ≡ false
