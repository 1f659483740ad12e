use Rattle.std.proofs.Common.{sym, ◌∙◌}
use Rattle.pb_check.proofs.Finding.{order_rises}
use Rattle.pb_check.proofs.row_faults.rows_order_fault.Goals as goal

pub returns-clause-rises : goal.returns-clause-rises
returns-clause-rises c = λ none. order_rises c.args.line c.args.rows.now (sym c.first_in_order.ensures ∙ none)
