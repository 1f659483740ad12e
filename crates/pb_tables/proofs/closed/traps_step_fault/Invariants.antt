use Rattle.std.proofs.Common.{◌≡◌, ◌+◌, None}
use Rattle.pb_tables.specs.Below.{first_below}
use Rattle.pb_tables.specs.Tables.{trap_at}
use Rattle.pb_tables.specs.Suits.{line_of, trap_fault}
use Rattle.pb_tables.proofs.closed.traps_step_fault.Given as goal

abbrev pub invariant-loop-number : goal.invariant-loop-number
invariant-loop-number l = first_below l.number (λ list. line_of (l.before + list) (trap_fault l.strips (trap_at l.traps list))) ≡ None
