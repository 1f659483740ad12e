use Rattle.std.proofs.Common.{◌≡◌, ◌∙◌, sym, ap, subst, Some, slice_get}
use Rattle.pb_lists.specs.ListedRows.{ListedRows}
use Rattle.pb_lists.specs.NarrowRow.{FitsWords}
use Rattle.pb_lists.proofs.Tables.{fits_found}
use Rattle.pb_lists.proofs.narrow_rows.NarrowRows.at.Goals as goal

pub returns-clause-state : goal.returns-clause-state
returns-clause-state g c =
    subst (FitsWords g.row.W) (sym c.from_words.ensures)
    (fits_found g.row.W c.in-Some.entry.0.now c.in-Some.entry.1.now c.self.inside.rows.entries c.self.invariant.0 c.in-Some.ensures.value)
