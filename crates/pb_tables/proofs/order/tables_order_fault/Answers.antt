use Rattle.std.proofs.Common.{◌≡◌, ◌∙◌, ℕ, List, Some, Option, length, sym, ap}
use Rattle.std.proofs.lemmas.List.{get_or_read}
use Rattle.pb_tables.specs.declared.fault.TablesFault.TheVariants.{Line}
use Rattle.pb_tables.specs.Tables.{TableValue, table_at}
use Rattle.pb_tables.specs.Suits.{line_of, order_fault}
use Rattle.pb_tables.proofs.Searches.{found_first}
use Rattle.pb_tables.proofs.Estimating.{empty}
use Rattle.pb_tables.proofs.order.tables_order_fault.Goals as goal

pub returns-in-Some : goal.returns-in-Some
returns-in-Some c =
    let count = c.args.count in
    let tables = c.args.tables.now in
    let list = c.loop-list.list in
    let table : TableValue = c.index-tables-list.result in
    let here : table ≡ table_at tables list = get_or_read tables list table c.loop-list-test.true c.index-tables-list.is empty in
    let line : order_fault count (table_at tables list).tracked (table_at tables list).listed ≡ Some c.in-Some.line =
    ap (λ (t : TableValue). order_fault count t.tracked t.listed) (sym here)
    ∙ ap (λ (tracked : ℕ). order_fault count tracked table.listed) (sym c.tracked.ensures)
    ∙ ap (λ (listed : List ℕ). order_fault count c.tracked.result.now listed) (sym c.listed.ensures)
    ∙ sym c.order_fault.ensures ∙ c.in-Some.is in
    sym (found_first (length tables) (λ n. line_of n (order_fault count (table_at tables n).tracked (table_at tables n).listed)) list (Line list c.in-Some.line) c.loop-list-test.true c.loop-list.invariant
    (ap (λ (o : Option ℕ). line_of list o) line))
