use Rattle.std.proofs.Common.{◌≡◌, ◌≤◌, length, true, Ok, refl, ap, ◌∙◌, subst, arith}
use Rattle.pb_check.specs.Rows.{rows_of}
use Rattle.pb_check.specs.Fronts.{Front, rows_while, ending, text_with}
use Rattle.pb_check.proofs.Keeping.{few_kept}
use Rattle.pb_check.proofs.TextByRows.{rows_fit, text_passes}
use Rattle.pb_check.proofs.reading.text_by.Goals as goal

pub need_end-requires : goal.need_end-requires
need_end-requires c =
    let text = c.args.text.now in
    let rest : c.rest_of-rest.result.now ≡ (rows_while c.args.front.spelling.width text).1 = c.rest_of-rest.ensures ∙ ap (λ (f : Front). (rows_while f.spelling.width text).1) c.front.view_is in
    let first : c.front.inside.first ≡ c.args.front.first = ap (λ (f : Front). f.first) c.front.view_is in
    let fit = rows_fit c.args.front.spelling.width text in
    let count = c.requires.spelled.count_is in
    let few = c.requires.few in
    omega (arith, fit, count, ap length rest, first, few)

pub returns-clause-kept : goal.returns-clause-kept
returns-clause-kept c =
    let text = c.args.text.now in
    let found = rows_while c.args.front.spelling.width text in
    let rest : c.rest_of-rest.result.now ≡ found.1 = c.rest_of-rest.ensures ∙ ap (λ (f : Front). (rows_while f.spelling.width text).1) c.front.view_is in
    let ends : ending c.args.front.count c.args.front.first c.args.spelled.count c.rest_of-rest.result.now ≡ Ok true =
    subst (λ (f : Front). ending f.count f.first c.args.spelled.count c.rest_of-rest.result.now ≡ Ok true) c.front.view_is c.in_ok-need_end.ensures.gives in (
      text_with c.args.front found.0,
      text_passes c.args.front found c.args.spelled.count c.rest_of-rest.result.now true c.requires.spelled.count_is rest ends,
      record {
        spelling = ap (λ (f : Front). f.spelling) c.front.view_is;
        weight = ap (λ (f : Front). f.weight) c.front.view_is;
        plan = ap (λ (f : Front). f.plan) c.front.view_is;
        first = ap (λ (f : Front). f.first) c.front.view_is;
        falls = c.args.spelled.rows.falls;
        lines = c.requires.spelled.rows.rows_are;
      },
    )

pub returns-clause-few : goal.returns-clause-few
returns-clause-few c =
    let text = c.args.text.now in
    let rows = c.args.spelled.rows in
    let rest : c.rest_of-rest.result.now ≡ (rows_while c.args.front.spelling.width text).1 = c.rest_of-rest.ensures ∙ ap (λ (f : Front). (rows_while f.spelling.width text).1) c.front.view_is in
    let first : c.front.inside.first ≡ c.args.front.first = ap (λ (f : Front). f.first) c.front.view_is in
    let fit = rows_fit c.args.front.spelling.width text in
    let kept : length (rows_of rows.states.numbers rows.costs.items rows.closed.items) ≤ length (rows_while c.args.front.spelling.width text).0 =
    few_kept rows.falls (rows_of rows.states.numbers rows.costs.items rows.closed.items) (rows_while c.args.front.spelling.width text).0 c.requires.spelled.rows.rows_are (length (rows_while c.args.front.spelling.width text).0) refl in
    let some = c.in_ok-need_end.ensures.some.1 in
    let few = c.requires.few in
    omega (arith, fit, kept, some, ap length rest, first, few)
