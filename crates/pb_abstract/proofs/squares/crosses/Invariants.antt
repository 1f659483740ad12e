use Rattle.std.proofs.Common.{◌≡◌, false}
use Rattle.pb_machine.specs.Tables.{any_below}
use Rattle.pb_abstract.specs.Borders.{are_joined, border_cell}
use Rattle.pb_abstract.proofs.squares.crosses.Given as goal

abbrev pub invariant-loop-i : goal.invariant-loop-i
invariant-loop-i l = any_below l.i (λ i. are_joined l.grid (border_cell l.side l.column l.row l.action i) l.action) ≡ false
