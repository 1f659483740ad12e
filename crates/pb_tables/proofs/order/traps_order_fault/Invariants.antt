use Rattle.std.proofs.Common.{◌≡◌, ◌+◌, None}
use Rattle.pb_tables.specs.Below.{first_below}
use Rattle.pb_tables.specs.Tables.{trap_at}
use Rattle.pb_tables.specs.Suits.{line_of, order_fault}
use Rattle.pb_tables.proofs.order.traps_order_fault.Given as goal

abbrev pub invariant-loop-number : goal.invariant-loop-number
invariant-loop-number l =
    first_below l.number (λ list. line_of (l.before + list) (order_fault l.count (trap_at l.traps list).tracked (trap_at l.traps list).listed)) ≡ None
