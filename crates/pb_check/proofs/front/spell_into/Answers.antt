use Rattle.std.proofs.Common.{rules, ◌≡◌, ◌++◌, ◌∷◌, [], Some, None, length, refl, sym, subst, ◌∙◌, arith, length-append}
use Rattle.pb_packed.specs.Words.{number_of, AreWords}
use Rattle.pb_model.specs.Certificate.{Line}
use Rattle.pb_check.specs.declared.front.Spelled.{Spelled}
use Rattle.pb_check.specs.Words.{words_for}
use Rattle.pb_check.specs.Fronts.{row_front, rows_while}
use Rattle.pb_check.specs.Kept.{IsSpelledAs}
use Rattle.pb_table_lines.proofs.Callers.{words_long}
use Rattle.pb_check.proofs.TextByRows.{rows_go_on, rows_end}
use Rattle.pb_check.proofs.front.spell_into.Goals as goal

pub loop-end-preserved : goal.loop-end-preserved
loop-end-preserved c =
    let inv = c.loop-end.invariant in
    let row : Line = record { state = number_of c.row_front.new.words; g = c.in-Some.end.g; is_closed = c.in-Some.end.is_closed } in
    let front : row_front c.args.width c.loop-end.rest.now ≡ Some (row, c.in-Some.after.now) = c.in-Some.ensures.some in
    let long : length c.row_front.new.words ≡ length c.loop-end.words = words_long _ _ c.row_front.ensures.words in
    record {
      all = inv.all ++ row ∷ [];
      so_far = rows_go_on c.args.width inv.all c.loop-end.rest.now c.in-Some.after.now row (rows_while c.args.width c.args.text.now) front inv.so_far;
      kept = c.in_ok-push.ensures.kept (words_for c.args.width) inv.all inv.kept;
      count_is = omega (arith, inv.count_is, length-append inv.all (row ∷ []));
      few = omega (arith, inv.few, c.in-Some.ensures.shorter);
      long = long ∙ inv.long;
      words = subst (λ k. AreWords k c.row_front.new.words) (sym long) c.row_front.ensures.words;
    }

pub returns : goal.returns
returns c =
    let inv = c.loop-end.invariant in
    let none : row_front c.args.width c.loop-end.rest.now ≡ None = search rules in
    let total = rows_end c.args.width inv.all c.loop-end.rest.now (rows_while c.args.width c.args.text.now) none inv.so_far in
    let spelled : Spelled = record { rows = c.loop-end.rows; count = c.loop-end.count; left = length c.loop-end.rest.now } in
    subst (IsSpelledAs spelled (words_for c.args.width)) (sym total) (record { rows = inv.kept; count_is = inv.count_is; left_is = refl })
