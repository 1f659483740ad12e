use Rattle.std.proofs.Common.{◌≡◌, sym, ap, subst, ◌∙◌}
use Rattle.pb_lists.specs.Bundle.{Content, row_in}
use Rattle.pb_lists.specs.Fields.{weight_of}
use Rattle.pb_lists.specs.Reopened.{reopened_entries}
use Rattle.pb_lists.proofs.AgainOpened.{reopened_found}
use Rattle.pb_lists.proofs.bundle.Bundle.adopt.Goals as goal

pub returns-clause-rows : goal.returns-clause-rows
returns-clause-rows c = λ state.
    rw (← c.self.view_is)
    (ap (λ entries. row_in entries state) c.reopen_rows.ensures
    ∙ reopened_found (weight_of c.args.set.num c.args.set.den) c.args.set.bound c.self.inside.rows.entries state)
