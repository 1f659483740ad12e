use Rattle.std.proofs.Common.{◌≡◌, ◌∙◌, ◌+◌, ◌*◌, ◌^◌, ◌<◌, ◌≤◌, ℕ, true, false, Bool, List, Some, is_none, length, slice_index, if◌then◌else◌, refl, sym, ap, subst, arith}
use Rattle.std.proofs.lemmas.List.{get_or_read}
use Rattle.pb_tables.specs.Below.{greatest_below}
use Rattle.pb_tables.specs.Images.{both, place_in}
use Rattle.pb_tables.specs.Tables.{TableValue, table_at, value_at, value_in}
use Rattle.pb_tables.specs.Estimate.{place_of, is_unlisted, sum_of}
use Rattle.pb_tables.proofs.Searches.{found_any, any_more, greatest_same, sum_more}
use Rattle.pb_tables.proofs.Imaging.{IsPlace, place_is}
use Rattle.pb_tables.proofs.Estimating.{empty, table_is, values_inside, sum_small, nothing_yet, some_listed, none_listed}
use Rattle.pb_tables.proofs.estimate.greatest_sum.Goals as goal
use Rattle.pb_tables.proofs.estimate.greatest_sum.Goals.{After-place_of}

pub loop-number-init : goal.loop-number-init
loop-number-init c = record {
  listed = refl;
  totals = λ sum less. ap (λ (ts : List ℕ). slice_index ts sum) c.no_sums-totals.ensures ∙ nothing_yet sum c.args.sums less c.requires.sums;
}

pub both-image-requires-clause-other : goal.both-image-requires-clause-other
both-image-requires-clause-other c =
    let number = c.loop-number.number in
    let table : TableValue = c.index-tables-number.result in
    let here : table ≡ table_at c.args.tables.now number = get_or_read c.args.tables.now number table c.loop-number-test.true c.index-tables-number.is empty in
    let small = (c.requires.written.each number c.loop-number-test.true).small in
    subst (λ (t : ℕ). t < 2 ^ c.args.count) (ap (λ (t : TableValue). t.tracked) (sym here) ∙ sym c.tracked.ensures) small

-- the table in hand, and where it lists the image
table_here : (c : After-place_of) → c.index-tables-number.result ≡ table_at c.args.tables.now c.loop-number.number
table_here c = get_or_read c.args.tables.now c.loop-number.number c.index-tables-number.result c.loop-number-test.true c.index-tables-number.is empty

place_here : (c : After-place_of) → c.place_of.result ≡ place_of c.args.count c.args.state.now (table_at c.args.tables.now c.loop-number.number)
place_here c =
    c.place_of.ensures ∙ ap (λ (list : List ℕ). place_in list c.both-image.result) c.listed.ensures
    ∙ ap (λ (image : ℕ). place_in c.index-tables-number.result.listed image) (c.both-image.ensures.both ∙ ap (λ (tracked : ℕ). both c.args.count c.args.state.now tracked) c.tracked.ensures)
    ∙ ap (λ (t : TableValue). place_of c.args.count c.args.state.now t) (table_here c)

pub add_values-requires-clause-place : goal.add_values-requires-clause-place
add_values-requires-clause-place c =
    let here : After-place_of = (goal.at.add_values-requires-clause-place c).After-place_of in
    let table = table_at c.args.tables.now c.loop-number.number in
    let place : IsPlace table.listed (both c.args.count c.args.state.now table.tracked) c.in-Some.place =
    place_is table.listed (both c.args.count c.args.state.now table.tracked) c.in-Some.place (sym (place_here here) ∙ c.in-Some.is) in
    let inside = values_inside c.args.sums table (table_is c.args.sums c.args.tables.now c.requires.tables c.loop-number.number c.loop-number-test.true) c.in-Some.place place.inside in
    subst (λ (values : List ℕ). c.in-Some.place * c.args.sums + c.args.sums ≤ length values)
    (ap (λ (t : TableValue). t.values) (sym (table_here here)) ∙ sym c.values.ensures) inside

pub add_values-requires-clause-room : goal.add_values-requires-clause-room
add_values-requires-clause-room c = λ sum less.
    subst (λ (n : ℕ). n ≤ 2 ^ 52) (sym (c.loop-number.invariant.totals sum less))
    (sum_small c.args.count c.args.sums c.args.tables.now c.requires.tables c.loop-number.number c.args.state.now sum (omega (arith, c.loop-number-test.true)) c.requires.few)

pub returns-in-None : goal.returns-in-None
returns-in-None c =
    let here : After-place_of = (goal.at.returns-in-None c).After-place_of in
    let none : is_unlisted c.args.count c.args.tables.now (length c.args.tables.now) c.args.state.now ≡ true =
    found_any (length c.args.tables.now) (λ n. is_none (place_of c.args.count c.args.state.now (table_at c.args.tables.now n))) c.loop-number.number c.loop-number-test.true
    (none_listed (place_of c.args.count c.args.state.now (table_at c.args.tables.now c.loop-number.number)) (sym (place_here here) ∙ c.in-None.is)) in
    ap (λ (b : Bool). if b then 0 else greatest_below c.args.sums (sum_of c.args.count c.args.sums c.args.tables.now (length c.args.tables.now) c.args.state.now)) (sym none)

pub loop-number-preserved : goal.loop-number-preserved
loop-number-preserved c =
    let here : After-place_of = (goal.at.loop-number-preserved c).After-place_of in
    let table = table_at c.args.tables.now c.loop-number.number in
    let place : place_of c.args.count c.args.state.now table ≡ Some c.in-Some.place = sym (place_here here) ∙ c.in-Some.is in
    record {
      listed = any_more c.loop-number.number (λ n. is_none (place_of c.args.count c.args.state.now (table_at c.args.tables.now n))) c.loop-number.invariant.listed
          (some_listed (place_of c.args.count c.args.state.now table) c.in-Some.place place);
      totals = λ sum less.
          let before = c.loop-number.invariant.totals sum less in
          let value : value_at c.args.sums c.values.result.now sum c.in-Some.place ≡ value_in c.args.sums table.values sum (place_of c.args.count c.args.state.now table) =
          ap (λ (values : List ℕ). value_at c.args.sums values sum c.in-Some.place) (c.values.ensures ∙ ap (λ (t : TableValue). t.values) (table_here here))
          ∙ ap (value_in c.args.sums table.values sum) (sym place) in
          c.add_values.ensures sum less ∙ ap (λ (n : ℕ). n + value_at c.args.sums c.values.result.now sum c.in-Some.place) before
          ∙ ap (λ (n : ℕ). sum_of c.args.count c.args.sums c.args.tables.now c.loop-number.number c.args.state.now sum + n) value
          ∙ sym (sum_more c.loop-number.number (λ n. value_in c.args.sums (table_at c.args.tables.now n).values sum (place_of c.args.count c.args.state.now (table_at c.args.tables.now n))));
    }

pub returns : goal.returns
returns c =
    let all : c.loop-number.number ≡ length c.args.tables.now = omega (arith, c.loop-number-test.false, c.loop-number.auto.number-end) in
    let listed : is_unlisted c.args.count c.args.tables.now (length c.args.tables.now) c.args.state.now ≡ false =
    subst (λ n. is_unlisted c.args.count c.args.tables.now n c.args.state.now ≡ false) all c.loop-number.invariant.listed in
    c.greatest.ensures
    ∙ greatest_same c.args.sums (slice_index c.loop-number.totals) (sum_of c.args.count c.args.sums c.args.tables.now (length c.args.tables.now) c.args.state.now)
    (λ sum less. c.loop-number.invariant.totals sum less ∙ ap (λ n. sum_of c.args.count c.args.sums c.args.tables.now n c.args.state.now sum) all)
    ∙ ap (λ (b : Bool). if b then 0 else greatest_below c.args.sums (sum_of c.args.count c.args.sums c.args.tables.now (length c.args.tables.now) c.args.state.now)) (sym listed)
