use Rattle.std.proofs.Common.{◌∙◌, ap}
use Rattle.pb_lists.specs.Bundle.{row_in}
use Rattle.pb_lists.proofs.Tables.{put_found}
use Rattle.pb_lists.proofs.rows.Rows.set_status_at.Goals as goal

pub returns-clause-updates : goal.returns-clause-updates
returns-clause-updates c = λ state row found other.
    ap (λ entries. row_in entries other) (c.put_status_at.ensures state row found) ∙ put_found state (record row { status = c.args.status }) c.args.self.now.entries other
