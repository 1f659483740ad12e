use Rattle.std.proofs.Common.{◌≡◌, ◌∙◌, ℕ, Some, Option, length, sym, ap}
use Rattle.std.proofs.lemmas.List.{get_or_read}
use Rattle.pb_tables.specs.declared.fault.TablesFault.TheVariants.{Line}
use Rattle.pb_tables.specs.Tables.{TableValue, table_at}
use Rattle.pb_tables.specs.Suits.{line_of, table_fault}
use Rattle.pb_tables.proofs.Searches.{found_first}
use Rattle.pb_tables.proofs.Estimating.{empty}
use Rattle.pb_tables.proofs.closed.tables_step_fault.Goals as goal

pub returns-in-Some : goal.returns-in-Some
returns-in-Some c =
    let strips = c.args.strips.now in
    let tables = c.args.tables.now in
    let list = c.loop-list.list in
    let table : TableValue = c.index-tables-list.result in
    let here : table ≡ table_at tables list = get_or_read tables list table c.loop-list-test.true c.index-tables-list.is empty in
    let line : table_fault strips c.args.sums (table_at tables list) ≡ Some c.in-Some.line =
    ap (λ (t : TableValue). table_fault strips c.args.sums t) (sym here) ∙ sym c.table_fault.ensures ∙ c.in-Some.is in
    sym (found_first (length tables) (λ n. line_of n (table_fault strips c.args.sums (table_at tables n))) list (Line list c.in-Some.line) c.loop-list-test.true c.loop-list.invariant
    (ap (λ (o : Option ℕ). line_of list o) line))
