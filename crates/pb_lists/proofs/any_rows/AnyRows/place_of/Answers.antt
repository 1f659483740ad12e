use Rattle.std.proofs.Common.{◌≡◌, ◌∙◌, sym, ap, subst, Some, slice_get}
use Rattle.pb_model.specs.declared.row.Row.{Row}
use Rattle.pb_lists.specs.Bundle.{row_in}
use Rattle.pb_lists.specs.ListedRows.{ListedRows}
use Rattle.pb_lists.proofs.Entries.{key_by_state}
use Rattle.pb_lists.proofs.any_rows.AnyRows.place_of.Goals as goal

pub returns-in-Some-clause-some : goal.returns-in-Some-clause-some
returns-in-Some-clause-some c =
    let found = c.in-Some.found in
    let entries = c.self.inside.rows.entries in
    subst (λ (l : ListedRows). (row : Row) × (row_in l.entries c.args.state.now ≡ Some row) × (slice_get l.entries found.0 ≡ Some (c.args.state.now, row))) c.self.view_is (
      found.2.now,
      sym c.in-Some.ensures.value,
      c.in-Some.ensures.entry ∙ ap (λ state. Some (state, found.2.now)) (sym (key_by_state c.args.state.now entries found.1.now (sym c.in-Some.ensures.key))),
    )
