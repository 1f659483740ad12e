use Rattle.std.proofs.Common.{◌≡◌, None}
use Rattle.pb_tables.specs.Below.{first_below}
use Rattle.pb_tables.specs.Tables.{table_at}
use Rattle.pb_tables.specs.Suits.{line_of, order_fault}
use Rattle.pb_tables.proofs.order.tables_order_fault.Given as goal

abbrev pub invariant-loop-list : goal.invariant-loop-list
invariant-loop-list l =
    first_below l.list (λ list. line_of list (order_fault l.count (table_at l.tables list).tracked (table_at l.tables list).listed)) ≡ None
