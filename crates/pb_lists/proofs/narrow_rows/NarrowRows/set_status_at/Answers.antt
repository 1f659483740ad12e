use Rattle.std.proofs.Common.{◌≡◌, ◌∙◌, sym, ap, nat_eq, subst, Some, slice_get}
use Rattle.indexmap.specs.IndexMap.{insert_entry}
use Rattle.pb_model.specs.declared.row.Row.{Row}
use Rattle.pb_lists.specs.ListedRows.{ListedRows}
use Rattle.pb_lists.proofs.Tables.{put_at, value_at, absent_at}
use Rattle.pb_lists.proofs.narrow_rows.NarrowRows.set_status_at.Goals as goal

pub returns-clause-entries : goal.returns-clause-entries
returns-clause-entries g c = λ state row found.
    let entries = c.self.inside.rows.entries in
    let there : slice_get entries c.args.place ≡ Some (state, row) = subst (λ (l : ListedRows). slice_get l.entries c.args.place ≡ Some (state, row)) (sym c.self.view_is) found in
    let both : Some c.in-Some.row.now ≡ Some row = c.in-Some.ensures.value ∙ value_at entries c.args.place state row there in
    let same : c.in-Some.row.now ≡ row = cc in
    let written = c.set_status.new.self in
    let is : written ≡ record row { status = c.args.status } = c.set_status.ensures ∙ ap (λ (was : Row). record was { status = c.args.status }) same in
    rw (← c.self.view_is)
    (put_at entries state row written c.args.place there c.get_index_mut.ensures.unique ∙ ap (λ (new : Row). insert_entry nat_eq entries state new) is)

pub invariant_of-self-2 : goal.invariant_of-self-2
invariant_of-self-2 g c = (
  λ state above. absent_at c.self.inside.rows.entries c.args.place c.set_status.new.self state (c.self.invariant.0 state above),
  c.self.invariant.1,
  c.self.invariant.2,
)
