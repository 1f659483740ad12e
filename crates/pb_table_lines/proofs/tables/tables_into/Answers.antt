use Rattle.std.proofs.Common.{◌≡◌, map, Ok, sym, ap, ◌∙◌, arith}
use Rattle.pb_tables.specs.Tables.{TablesValue}
use Rattle.pb_table_lines.specs.Reading.{counted, lines_of_lists, of_trap}
use Rattle.pb_table_lines.proofs.Counted.{lines_counted, all_read}
use Rattle.pb_table_lines.proofs.tables.tables_into.Goals as goal

pub returns-clause-gives : goal.returns-clause-gives
returns-clause-gives c =
    all_read c.args.digits c.args.line c.args.text.now c.in_ok-first.first.now c.in_ok-first.rest.now (counted c.in_ok-counts.counts.sums c.in_ok-counts.counts.tables c.in_ok-counts.counts.traps) c.in_ok-tables.tables.items c.in_ok-tables.place.text.now c.in_ok-tables.place.line c.in_ok-traps.traps.items c.in_ok-traps.place.text.now
    c.in_ok-first.ensures.gives c.in_ok-counts.ensures.gives c.in_ok-tables.ensures.gives c.in_ok-tables.ensures.line c.in_ok-traps.ensures.gives
    ∙ ap (λ (t : TablesValue). Ok (t, c.in_ok-traps.place.text.now)) (sym c.of.ensures)

pub returns-clause-line : goal.returns-clause-line
returns-clause-line c =
    let all = lines_counted c.args.digits c.of.result in
    let tables : lines_of_lists c.of.result.tables ≡ lines_of_lists c.in_ok-tables.tables.items = ap (λ (t : TablesValue). lines_of_lists t.tables) c.of.ensures in
    let traps : lines_of_lists (map of_trap c.of.result.traps) ≡ lines_of_lists (map of_trap c.in_ok-traps.traps.items) = ap (λ (t : TablesValue). lines_of_lists (map of_trap t.traps)) c.of.ensures in
    omega (arith, all, tables, traps, c.in_ok-tables.ensures.line, c.in_ok-traps.ensures.line)
