use Rattle.std.proofs.Common.{slice_index}
use Rattle.pb_task.specs.Strips.{action_at}
use Rattle.pb_tables.specs.Below.{any_below}
use Rattle.pb_tables.specs.Images.{leads_out}
use Rattle.pb_tables.specs.Looking.{IsFirst}
use Rattle.pb_tables.proofs.closed.first_open.Given as goal

abbrev pub invariant-loop-action : goal.invariant-loop-action
invariant-loop-action l =
    IsFirst l.limit (λ place. any_below l.action (λ number. leads_out l.strips.atoms l.tracked l.listed (action_at l.strips.actions number) (slice_index l.listed place))) l.first
