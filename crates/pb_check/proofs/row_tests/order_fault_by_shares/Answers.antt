use Rattle.std.proofs.Common.{sym, ◌∙◌}
use Rattle.pb_check.proofs.Finding.{order_rises}
use Rattle.pb_check.proofs.row_tests.order_fault_by_shares.Goals as goal

pub returns-clause-rises : goal.returns-clause-rises
returns-clause-rises g c = λ none. order_rises c.args.line c.args.rows.now (sym c.first_by_shares.ensures ∙ none)
