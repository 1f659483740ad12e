use Rattle.std.proofs.Common.{◌≡◌, ◌∙◌, sym, ap, is_some, nat_eq, subst, Some}
use Rattle.indexmap.specs.IndexMap.{insert_entry}
use Rattle.pb_model.specs.declared.row.Row.{Row}
use Rattle.pb_lists.specs.Bundle.{row_in}
use Rattle.pb_lists.specs.ListedRows.{ListedRows}
use Rattle.pb_lists.proofs.Entries.{put_there}
use Rattle.pb_lists.proofs.narrow_rows.NarrowRows.set_status.Goals as goal

pub returns-clause-entries : goal.returns-clause-entries
returns-clause-entries g c = λ row found.
    let entries = c.self.inside.rows.entries in
    let word = c.in-Some.words in
    let there : row_in entries c.args.state.now ≡ Some row = subst (λ (l : ListedRows). row_in l.entries c.args.state.now ≡ Some row) (sym c.self.view_is) found in
    let here : row_in entries word ≡ Some row = subst (λ state. row_in entries state ≡ Some row) (sym c.in-Some.ensures.some) there in
    let both : Some c.in-Some-get_mut.row.now ≡ Some row = c.in-Some-get_mut.ensures.value ∙ here in
    let same : c.in-Some-get_mut.row.now ≡ row = cc in
    let written = c.set_status.new.self in
    let is : written ≡ record row { status = c.args.status } = c.set_status.ensures ∙ ap (λ (was : Row). record was { status = c.args.status }) same in
    rw (← c.self.view_is)
    ((c.get_mut.follows.holds written).0
    ∙ (sym (put_there word written entries (ap is_some here))
    ∙ (ap (λ state. insert_entry nat_eq entries state written) c.in-Some.ensures.some ∙ ap (λ (new : Row). insert_entry nat_eq entries c.args.state.now new) is)))
