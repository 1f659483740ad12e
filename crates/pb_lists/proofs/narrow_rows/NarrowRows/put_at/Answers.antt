use Rattle.std.proofs.Common.{◌≡◌, ◌∙◌, sym, ap, nat_eq, subst, Some, slice_get}
use Rattle.indexmap.specs.IndexMap.{insert_entry}
use Rattle.pb_model.specs.declared.row.Row.{Row}
use Rattle.pb_lists.specs.ListedRows.{ListedRows}
use Rattle.pb_lists.proofs.Tables.{put_at, absent_at}
use Rattle.pb_lists.proofs.narrow_rows.NarrowRows.put_at.Goals as goal

pub returns-clause-entries : goal.returns-clause-entries
returns-clause-entries g c = λ state was found.
    let entries = c.self.inside.rows.entries in
    let there : slice_get entries c.args.place ≡ Some (state, was) = subst (λ (l : ListedRows). slice_get l.entries c.args.place ≡ Some (state, was)) (sym c.self.view_is) found in
    rw (← c.self.view_is)
    (put_at entries state was c.in-Some.narrow c.args.place there c.get_index_mut.ensures.unique ∙ ap (λ (new : Row). insert_entry nat_eq entries state new) c.in-Some.ensures.some)

pub invariant_of-self-2 : goal.invariant_of-self-2
invariant_of-self-2 g c = (
  λ state above. absent_at c.self.inside.rows.entries c.args.place c.in-Some.narrow state (c.self.invariant.0 state above),
  c.self.invariant.1,
  c.self.invariant.2,
)
