use Rattle.std.proofs.Common.{◌≡◌, ◌∙◌, sym, ap, nat_eq, subst, Some, slice_get}
use Rattle.indexmap.specs.IndexMap.{insert_entry}
use Rattle.pb_model.specs.declared.row.Row.{Row}
use Rattle.pb_lists.specs.ListedRows.{ListedRows}
use Rattle.pb_lists.proofs.Tables.{put_at}
use Rattle.pb_lists.proofs.any_rows.AnyRows.put_at.Goals as goal

pub returns-clause-entries : goal.returns-clause-entries
returns-clause-entries c = λ state was found.
    let entries = c.self.inside.rows.entries in
    let there : slice_get entries c.args.place ≡ Some (state, was) = subst (λ (l : ListedRows). slice_get l.entries c.args.place ≡ Some (state, was)) (sym c.self.view_is) found in
    rw (← c.self.view_is)
    (put_at entries state was c.args.row.now c.args.place there c.get_index_mut.ensures.unique)
