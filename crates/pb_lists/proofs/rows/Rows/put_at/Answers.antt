use Rattle.std.proofs.Common.{◌∙◌, ap}
use Rattle.pb_lists.specs.Bundle.{row_in}
use Rattle.pb_lists.proofs.Tables.{put_found}
use Rattle.pb_lists.proofs.rows.Rows.put_at.Goals as goal

pub returns-clause-updates : goal.returns-clause-updates
returns-clause-updates c = λ was found other.
    ap (λ entries. row_in entries other) (c.replace_at.ensures was found) ∙ put_found c.args.state.now c.args.row.now c.args.self.now.entries other
