use Rattle.std.proofs.Common.{◌≡◌, ◌∙◌, ℕ, true, false, Bool, List, length, if◌then◌else◌, refl, sym, ap, subst}
use Rattle.pb_model.specs.declared.row.Estimate.{Estimate}
use Rattle.pb_model.specs.declared.row.Estimate.TheVariants.{Cost, Dead}
use Rattle.pb_tables.specs.Below.{greatest_below}
use Rattle.pb_tables.specs.Tables.{TableValue, TrapValue, TablesValue}
use Rattle.pb_tables.specs.Order.{AreWritten, AreTrapsWritten}
use Rattle.pb_tables.specs.Estimate.{is_trapped, is_unlisted, sum_of, tables_estimate}
use Rattle.pb_tables.proofs.Admissible.{faultless}
use Rattle.pb_tables.proofs.Written.{tables_written}
use Rattle.pb_tables.proofs.tables.Tables.estimate.Goals as goal

pub is_trapped-requires-clause-written : goal.is_trapped-requires-clause-written
is_trapped-requires-clause-written c =
    subst (λ (traps : List TrapValue). AreTrapsWritten c.args.strips.now.atoms traps)
    (ap (λ (t : TablesValue). t.traps) (sym c.self.view_is) ∙ sym c.deref.ensures.value)
    (tables_written c.args.strips.now c.args.self.now (faultless c.args.strips.now c.args.self.now c.requires.suit).order).1

pub greatest_sum-requires-clause-written : goal.greatest_sum-requires-clause-written
greatest_sum-requires-clause-written c =
    subst (λ (tables : List TableValue). AreWritten c.args.strips.now.atoms tables)
    (ap (λ (t : TablesValue). t.tables) (sym c.self.view_is) ∙ sym c.deref-else-is_trapped.ensures.value)
    (tables_written c.args.strips.now c.args.self.now (faultless c.args.strips.now c.args.self.now c.requires.suit).order).0

pub returns-then-is_trapped : goal.returns-then-is_trapped
unfolding tables_estimate
returns-then-is_trapped c =
    let count = c.args.strips.now.atoms in
    let tables : TablesValue = c.args.self.now in
    let rest : Estimate = if is_unlisted count tables.tables (length tables.tables) c.args.state.now then Cost 0
    else Cost (greatest_below tables.sums (sum_of count tables.sums tables.tables (length tables.tables) c.args.state.now)) in
    let trapped : is_trapped count tables.traps c.args.state.now ≡ true =
    ap (λ (traps : List TrapValue). is_trapped count traps c.args.state.now) (ap (λ (t : TablesValue). t.traps) (sym c.self.view_is) ∙ sym c.deref.ensures.value)
    ∙ sym c.is_trapped.ensures ∙ c.if-is_trapped.true in
    ap (λ (b : Bool). if b then Dead else rest) (sym trapped)

cost_if : (b : Bool) (value : ℕ) → Cost (if b then 0 else value) ≡ (if b then Cost 0 else Cost value)
cost_if true value = refl
cost_if false value = refl

pub returns-else-is_trapped : goal.returns-else-is_trapped
unfolding tables_estimate
returns-else-is_trapped c =
    let count = c.args.strips.now.atoms in
    let tables : TablesValue = c.args.self.now in
    let sum = λ (t : TablesValue). greatest_below t.sums (sum_of count t.sums t.tables (length t.tables) c.args.state.now) in
    let unlisted = λ (t : TablesValue). is_unlisted count t.tables (length t.tables) c.args.state.now in
    let inside : TablesValue = record { sums = c.self.inside.sums; tables = c.self.inside.tables.items; traps = c.self.inside.traps.items } in
    let rest : Estimate = if unlisted tables then Cost 0 else Cost (sum tables) in
    let trapped : is_trapped count tables.traps c.args.state.now ≡ false =
    ap (λ (traps : List TrapValue). is_trapped count traps c.args.state.now) (ap (λ (t : TablesValue). t.traps) (sym c.self.view_is) ∙ sym c.deref.ensures.value)
    ∙ sym c.is_trapped.ensures ∙ c.if-is_trapped.false in
    let own : c.greatest_sum.result ≡ (if unlisted inside then 0 else sum inside) =
    c.greatest_sum.ensures
    ∙ ap (λ (ts : List TableValue). if is_unlisted count ts (length ts) c.args.state.now then 0 else greatest_below c.self.inside.sums (sum_of count c.self.inside.sums ts (length ts) c.args.state.now)) c.deref-else-is_trapped.ensures.value in
    ap (λ (n : ℕ). Cost n) (own ∙ ap (λ (t : TablesValue). if unlisted t then 0 else sum t) c.self.view_is)
    ∙ cost_if (unlisted tables) (sum tables)
    ∙ ap (λ (b : Bool). if b then Dead else rest) (sym trapped)
