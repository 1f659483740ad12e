use Rattle.std.proofs.Common.{◌≡◌, ◌∙◌, ◌&&◌, ◌+◌, ◌^◌, ◌≤◌, ℕ, nat_eq, List, slice_index, sym, ap, subst, arith}
use Rattle.std.proofs.lemmas.Bool.{not-false, and_parts, eqb-true}
use Rattle.std.proofs.lemmas.List.{get_or_read}
use Rattle.pb_task.specs.declared.parts.GroundAction.{GroundAction}
use Rattle.pb_packed.specs.Words.{number_of}
use Rattle.pb_task.specs.Strips.{action_at}
use Rattle.pb_tables.specs.Images.{both}
use Rattle.pb_tables.specs.Tables.{TableValue, IsTable, table_at, drop_of, drops_of}
use Rattle.pb_tables.specs.Order.{IsWritten}
use Rattle.pb_tables.proofs.Searches.{sum_more}
use Rattle.pb_tables.proofs.Estimating.{empty, table_is, nothing_yet}
use Rattle.pb_tables.proofs.Paying.{table_drop_small, drops_small, untouched_drop}
use Rattle.pb_tables.proofs.paid.drops_of.Goals as goal
use Rattle.pb_tables.proofs.paid.drops_of.Goals.{After-touches, then-touches, else-touches}

pub loop-number-init : goal.loop-number-init
loop-number-init c = λ sum less. ap (λ (ts : List ℕ). slice_index ts sum) c.no_sums-totals.ensures ∙ nothing_yet sum c.args.sums less c.requires.sums

table_here : (c : After-touches) → table_at c.args.tables.now c.loop-number.number ≡ c.index-tables-number.result
table_here c = sym (get_or_read c.args.tables.now c.loop-number.number c.index-tables-number.result c.loop-number-test.true c.index-tables-number.is empty)

written_here : (c : After-touches) → IsWritten c.args.strips.now.atoms c.index-tables-number.result.tracked c.index-tables-number.result.listed
written_here c = subst (λ (t : TableValue). IsWritten c.args.strips.now.atoms t.tracked t.listed) (table_here c) (c.requires.written.each c.loop-number.number c.loop-number-test.true)

pub drops_of_table-drops-requires-clause-written : goal.drops_of_table-drops-requires-clause-written
drops_of_table-drops-requires-clause-written c = written_here (goal.at.drops_of_table-drops-requires-clause-written c).After-touches

pub add_drops-requires-clause-small : goal.add_drops-requires-clause-small
add_drops-requires-clause-small c = λ sum less.
    let here : After-touches = (goal.at.add_drops-requires-clause-small c).After-touches in
    let is : IsTable c.args.sums c.index-tables-number.result =
    subst (IsTable c.args.sums) (table_here here) (table_is c.args.sums c.args.tables.now c.requires.tables c.loop-number.number c.loop-number-test.true) in
    subst (λ (n : ℕ). n ≤ 2 ^ 40) (sym (c.drops_of_table-drops.ensures sum less))
    (table_drop_small c.args.strips.now.atoms c.args.sums (action_at c.args.strips.now.actions c.args.action) c.index-tables-number.result sum is)

pub add_drops-requires-clause-room : goal.add_drops-requires-clause-room
add_drops-requires-clause-room c = λ sum less.
    subst (λ (n : ℕ). n ≤ 2 ^ 52) (sym (c.loop-number.invariant sum less))
    (drops_small c.args.strips.now.atoms c.args.sums (action_at c.args.strips.now.actions c.args.action) c.args.tables.now c.requires.tables c.loop-number.number sum (omega (arith, c.loop-number-test.true)) c.requires.few)

pub loop-number-preserved : goal.loop-number-preserved
loop-number-preserved c = λ sum less.
    let here : After-touches = (goal.at.loop-number-preserved c).After-touches in
    let count = c.args.strips.now.atoms in
    let act : GroundAction = action_at c.args.strips.now.actions c.args.action in
    let number = c.loop-number.number in
    let table : TableValue = c.index-tables-number.result in
    let drop = λ (n : ℕ). drop_of count c.args.sums act (table_at c.args.tables.now n) sum in
    let before = drops_of count act c.args.sums c.args.tables.now number sum in
    let own : drop_of count c.args.sums act table sum ≡ drop number = ap (λ (t : TableValue). drop_of count c.args.sums act t sum) (sym (table_here here)) in
    elim c.if-touches.branch [
      | then-touches w ↦
          ap (λ (ts : List ℕ). slice_index ts sum) w.totals-is ∙ w.add_drops.ensures sum less
          ∙ ap (λ (n : ℕ). n + slice_index w.drops_of_table-drops.result sum) (c.loop-number.invariant sum less)
          ∙ ap (λ (n : ℕ). before + n) (w.drops_of_table-drops.ensures sum less ∙ own)
          ∙ sym (sum_more number drop)
      | else-touches w ↦
          let effect = c.effect_of-effect.result in
          let none = and_parts (nat_eq (number_of effect.adds) 0) (nat_eq (number_of effect.deletes) 0) (not-false (nat_eq (number_of effect.adds) 0 && nat_eq (number_of effect.deletes) 0) (sym c.touches.ensures ∙ w.if-touches.false)) in
          let adds : both count act.adds table.tracked ≡ 0 = ap (λ (t : ℕ). both count act.adds t) (sym c.tracked.ensures) ∙ sym c.effect_of-effect.ensures.adds ∙ eqb-true (number_of effect.adds) 0 none.0 in
          let deletes : both count act.deletes table.tracked ≡ 0 = ap (λ (t : ℕ). both count act.deletes t) (sym c.tracked.ensures) ∙ sym c.effect_of-effect.ensures.deletes ∙ eqb-true (number_of effect.deletes) 0 none.1 in
          let nothing : drop number ≡ 0 = sym own ∙ untouched_drop count c.args.sums act table sum (written_here here) adds deletes in
          let same : before + drop number ≡ before = omega (arith, nothing) in
          ap (λ (ts : List ℕ). slice_index ts sum) w.totals-is ∙ c.loop-number.invariant sum less ∙ sym same ∙ sym (sum_more number drop)
    ]
