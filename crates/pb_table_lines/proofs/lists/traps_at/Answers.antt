use Rattle.std.proofs.Common.{◌≡◌, ◌+◌, ◌-◌, ◌<◌, ◌^◌, All, ◌∷◌, [], ◌++◌, List, length, map, codes, sym, ap, ◌∙◌, subst, arith, length-append}
use Rattle.std.proofs.lemmas.Result.{err_from_is_err_and}
use Rattle.std.proofs.lemmas.List.{map-append}
use Rattle.std.proofs.lemmas.List.Elements.{All-push}
use Rattle.pb_packed.specs.Words.{AreWords}
use Rattle.pb_tables.specs.Tables.{TrapValue, TableValue}
use Rattle.pb_table_lines.specs.Reading.{lists_at, lines_of_lists, of_trap}
use Rattle.pb_table_lines.proofs.Sixteens.{words_long}
use Rattle.pb_table_lines.proofs.Loops.{list_read, list_fails, lists_done, next_list, lines_more}
use Rattle.pb_table_lines.proofs.lists.traps_at.Goals as goal

pub returns-in_err-trap-clause-gives : goal.returns-in_err-trap-clause-gives
returns-in_err-trap-clause-gives c =
    let p = err_from_is_err_and c.from_residual.result c.from_residual.ensures.1 in
    rw (p.1, p.2) (list_fails c.args.digits (codes "trap ") 0 c.args.count c.loop-number.number c.loop-number.line c.loop-number.rest.now (map of_trap c.loop-number.traps.items) (lists_at c.args.digits (codes "trap ") 0 c.args.count c.args.place.line c.args.place.text.now)
    c.in_err-trap.field-0.0 c.loop-number-test.true c.in_err-trap.ensures.gives c.loop-number.invariant.so_far)

pub loop-number-preserved : goal.loop-number-preserved
loop-number-preserved c =
    let inv = c.loop-number.invariant in
    let traps : List TrapValue = c.loop-number.traps.items in
    let front : List TableValue = map of_trap traps in
    let trap : TrapValue = c.in_ok-trap.trap in
    let list : TableValue = of_trap trap in
    let long : length c.trap_at.new.words ≡ length c.loop-number.words = words_long _ _ c.in_ok-trap.ensures.words in
    let items : c.push.new.self.items ≡ traps ++ trap ∷ [] = c.in_ok-push.ensures.items in
    let lists : map of_trap c.push.new.self.items ≡ front ++ list ∷ [] = ap (map of_trap) items ∙ map-append of_trap traps (trap ∷ []) in
    let listed : c.len.result ≡ length trap.listed = c.len.ensures ∙ ap length c.listed.ensures in
    let lines : lines_of_lists (map of_trap c.push.new.self.items) ≡ lines_of_lists front + (1 + length trap.listed) = ap lines_of_lists lists ∙ lines_more front list in
    record {
      so_far = next_list c.args.digits (codes "trap ") 0 (c.args.count - (c.loop-number.number + 1)) c.loop-number.line (c.loop-number.line + (1 + c.len.result)) c.in_ok-trap.after.now front (map of_trap c.push.new.self.items) list (lists_at c.args.digits (codes "trap ") 0 c.args.count c.args.place.line c.args.place.text.now) (omega (arith, listed)) lists
          (list_read c.args.digits (codes "trap ") 0 c.args.count c.loop-number.number c.loop-number.line c.loop-number.rest.now front (lists_at c.args.digits (codes "trap ") 0 c.args.count c.args.place.line c.args.place.text.now) list c.in_ok-trap.after.now c.loop-number-test.true c.in_ok-trap.ensures.gives inv.so_far);
      line_is = omega (arith, inv.line_is, listed, lines);
      few = subst (λ (ts : List TrapValue). All (λ (t : TrapValue). length t.listed < 2 ^ 63) ts) (sym items) (All-push (λ (t : TrapValue). length t.listed < 2 ^ 63) traps trap inv.few c.in_ok-trap.ensures.few);
      many = ap length items ∙ (let one = length-append traps (trap ∷ []) in omega (arith, one, inv.many));
      shorter = omega (arith, inv.shorter, listed, c.in_ok-trap.ensures.shorter);
      long = long ∙ inv.long;
      words = subst (λ k. AreWords k c.trap_at.new.words) (sym long) c.in_ok-trap.ensures.words;
    }

pub returns-clause-gives : goal.returns-clause-gives
returns-clause-gives c =
    lists_done c.args.digits (codes "trap ") 0 c.args.count c.loop-number.number c.loop-number.line c.loop-number.rest.now (map of_trap c.loop-number.traps.items) (lists_at c.args.digits (codes "trap ") 0 c.args.count c.args.place.line c.args.place.text.now) c.loop-number-test.false c.loop-number.invariant.so_far
