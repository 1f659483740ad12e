use Rattle.std.proofs.Common.{◌∙◌, ap}
use Rattle.pb_lists.specs.Bundle.{row_in}
use Rattle.pb_lists.proofs.Tables.{put_found}
use Rattle.pb_lists.proofs.rows.Rows.insert_small.Goals as goal

pub returns-clause-updates : goal.returns-clause-updates
returns-clause-updates c = λ other. ap (λ entries. row_in entries other) c.put_small.ensures ∙ put_found c.args.words c.args.row c.args.self.now.entries other
