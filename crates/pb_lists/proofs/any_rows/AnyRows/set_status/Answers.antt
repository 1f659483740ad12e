use Rattle.std.proofs.Common.{◌≡◌, ◌∙◌, sym, ap, is_some, nat_eq, subst, Some}
use Rattle.indexmap.specs.IndexMap.{insert_entry}
use Rattle.pb_model.specs.declared.row.Row.{Row}
use Rattle.pb_lists.specs.Bundle.{row_in}
use Rattle.pb_lists.specs.ListedRows.{ListedRows}
use Rattle.pb_lists.proofs.Entries.{put_there}
use Rattle.pb_lists.proofs.any_rows.AnyRows.set_status.Goals as goal

pub returns-clause-entries : goal.returns-clause-entries
returns-clause-entries c = λ row found.
    let entries = c.self.inside.rows.entries in
    let state = c.args.state.now in
    let here : row_in entries state ≡ Some row = subst (λ (l : ListedRows). row_in l.entries state ≡ Some row) (sym c.self.view_is) found in
    let both : Some c.in-Some.row.now ≡ Some row = c.in-Some.ensures.value ∙ here in
    let same : c.in-Some.row.now ≡ row = cc in
    let written = record c.in-Some.row.now { status = c.args.status } in
    rw (← c.self.view_is)
    ((c.get_mut.follows.holds written).0
    ∙ (sym (put_there state written entries (ap is_some here)) ∙ ap (λ (was : Row). insert_entry nat_eq entries state (record was { status = c.args.status })) same))
