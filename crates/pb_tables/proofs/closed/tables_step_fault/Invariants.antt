use Rattle.std.proofs.Common.{◌≡◌, None}
use Rattle.pb_tables.specs.Below.{first_below}
use Rattle.pb_tables.specs.Tables.{table_at}
use Rattle.pb_tables.specs.Suits.{line_of, table_fault}
use Rattle.pb_tables.proofs.closed.tables_step_fault.Given as goal

abbrev pub invariant-loop-list : goal.invariant-loop-list
invariant-loop-list l = first_below l.list (λ list. line_of list (table_fault l.strips l.sums (table_at l.tables list))) ≡ None
