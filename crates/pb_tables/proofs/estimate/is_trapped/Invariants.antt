use Rattle.std.proofs.Common.{◌≡◌, false}
use Rattle.pb_tables.specs.Below.{any_below}
use Rattle.pb_tables.specs.Tables.{trap_at}
use Rattle.pb_tables.specs.Estimate.{catches}
use Rattle.pb_tables.proofs.estimate.is_trapped.Given as goal

abbrev pub invariant-loop-number : goal.invariant-loop-number
invariant-loop-number l = any_below l.number (λ n. catches l.count l.state (trap_at l.traps n)) ≡ false
