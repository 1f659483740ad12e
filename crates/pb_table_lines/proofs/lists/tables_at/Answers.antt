use Rattle.std.proofs.Common.{◌≡◌, ◌+◌, ◌-◌, All, ◌∷◌, [], ◌++◌, List, length, codes, sym, ap, ◌∙◌, subst, arith, length-append}
use Rattle.std.proofs.lemmas.Result.{err_from_is_err_and}
use Rattle.std.proofs.lemmas.List.Elements.{All-push}
use Rattle.pb_packed.specs.Words.{AreWords}
use Rattle.pb_tables.specs.Tables.{TableValue, IsTable}
use Rattle.pb_table_lines.specs.Reading.{lists_at, lines_of_lists}
use Rattle.pb_table_lines.proofs.Sixteens.{words_long}
use Rattle.pb_table_lines.proofs.Loops.{list_read, list_fails, lists_done, next_list, lines_more}
use Rattle.pb_table_lines.proofs.lists.tables_at.Goals as goal

pub returns-in_err-table-clause-gives : goal.returns-in_err-table-clause-gives
returns-in_err-table-clause-gives c =
    let p = err_from_is_err_and c.from_residual.result c.from_residual.ensures.1 in
    rw (p.1, p.2) (list_fails c.args.digits (codes "table ") c.args.sums c.args.count c.loop-number.number c.loop-number.line c.loop-number.rest.now c.loop-number.tables.items (lists_at c.args.digits (codes "table ") c.args.sums c.args.count c.args.place.line c.args.place.text.now)
    c.in_err-table.field-0.0 c.loop-number-test.true c.in_err-table.ensures.gives c.loop-number.invariant.so_far)

pub loop-number-preserved : goal.loop-number-preserved
loop-number-preserved c =
    let inv = c.loop-number.invariant in
    let front : List TableValue = c.loop-number.tables.items in
    let table : TableValue = c.in_ok-table.table in
    let long : length c.table_at.new.words ≡ length c.loop-number.words = words_long _ _ c.in_ok-table.ensures.words in
    let items : c.push.new.self.items ≡ front ++ table ∷ [] = c.in_ok-push.ensures.items in
    let listed : c.len.result ≡ length table.listed = c.len.ensures ∙ ap length c.listed.ensures in
    let lines : lines_of_lists c.push.new.self.items ≡ lines_of_lists front + (1 + length table.listed) = ap lines_of_lists items ∙ lines_more front table in
    record {
      so_far = next_list c.args.digits (codes "table ") c.args.sums (c.args.count - (c.loop-number.number + 1)) c.loop-number.line (c.loop-number.line + (1 + c.len.result)) c.in_ok-table.after.now front c.push.new.self.items table (lists_at c.args.digits (codes "table ") c.args.sums c.args.count c.args.place.line c.args.place.text.now) (omega (arith, listed)) items
          (list_read c.args.digits (codes "table ") c.args.sums c.args.count c.loop-number.number c.loop-number.line c.loop-number.rest.now front (lists_at c.args.digits (codes "table ") c.args.sums c.args.count c.args.place.line c.args.place.text.now) table c.in_ok-table.after.now c.loop-number-test.true c.in_ok-table.ensures.gives inv.so_far);
      line_is = omega (arith, inv.line_is, listed, lines);
      tables_are = subst (λ (ts : List TableValue). All (IsTable c.args.sums) ts) (sym items) (All-push (IsTable c.args.sums) front table inv.tables_are c.in_ok-table.ensures.table);
      many = ap length items ∙ (let one = length-append front (table ∷ []) in omega (arith, one, inv.many));
      shorter = omega (arith, inv.shorter, listed, c.in_ok-table.ensures.shorter);
      long = long ∙ inv.long;
      words = subst (λ k. AreWords k c.table_at.new.words) (sym long) c.in_ok-table.ensures.words;
    }

pub returns-clause-gives : goal.returns-clause-gives
returns-clause-gives c =
    lists_done c.args.digits (codes "table ") c.args.sums c.args.count c.loop-number.number c.loop-number.line c.loop-number.rest.now c.loop-number.tables.items (lists_at c.args.digits (codes "table ") c.args.sums c.args.count c.args.place.line c.args.place.text.now) c.loop-number-test.false c.loop-number.invariant.so_far
