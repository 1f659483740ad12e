use Rattle.std.proofs.Common.{All, length}
use Rattle.pb_tables.specs.Tables.{IsTable}
use Rattle.pb_finder.specs.Sizes.{TableListsFew}
use Rattle.pb_finder.proofs.fitted.tables_of.Given as goal

abbrev pub invariant-loop-number : goal.invariant-loop-number
invariant-loop-number l =
    All (IsTable (length l.sums)) l.tables.items × All TableListsFew l.tables.items
