use Rattle.std.proofs.Common.{◌∙◌, List, sym, ap, subst}
use Rattle.pb_tables.specs.Tables.{TableValue, TablesValue}
use Rattle.pb_tables.specs.Order.{AreWritten}
use Rattle.pb_tables.specs.Suits.{sums_unpaid, first_unpaid}
use Rattle.pb_tables.proofs.Written.{tables_written}
use Rattle.pb_tables.proofs.tables.Tables.first_unpaid.Goals as goal

pub first_unpaid-requires-clause-written : goal.first_unpaid-requires-clause-written
first_unpaid-requires-clause-written c =
    subst (λ (tables : List TableValue). AreWritten c.args.strips.now.atoms tables)
    (ap (λ (t : TablesValue). t.tables) (sym c.self.view_is) ∙ sym c.deref.ensures.value) (tables_written c.args.strips.now c.args.self.now c.requires.order).0

pub returns : goal.returns
unfolding first_unpaid
returns c =
    c.first_unpaid.ensures ∙ ap (λ (ts : List TableValue). sums_unpaid c.args.strips.now c.self.inside.sums ts) c.deref.ensures.value
    ∙ ap (λ (t : TablesValue). first_unpaid c.args.strips.now t) c.self.view_is
