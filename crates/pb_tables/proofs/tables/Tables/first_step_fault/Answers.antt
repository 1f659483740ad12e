use Rattle.std.proofs.Common.{◌≡◌, ◌∙◌, ℕ, List, length, sym, ap, subst}
use Rattle.pb_tables.specs.Tables.{TableValue, TrapValue, TablesValue}
use Rattle.pb_tables.specs.Order.{AreWritten, AreTrapsWritten}
use Rattle.pb_tables.specs.Suits.{tables_step_fault, traps_step_fault, first_step_fault}
use Rattle.pb_tables.proofs.Searches.{some_else, none_else}
use Rattle.pb_tables.proofs.Written.{tables_written}
use Rattle.pb_tables.proofs.tables.Tables.first_step_fault.Goals as goal
use Rattle.pb_tables.proofs.tables.Tables.first_step_fault.Goals.{After-tables_step_fault}

abbrev inside : After-tables_step_fault → TablesValue
inside c = record { sums = c.self.inside.sums; tables = c.self.inside.tables.items; traps = c.self.inside.traps.items }

of_tables : (c : After-tables_step_fault) → tables_step_fault c.args.strips.now c.self.inside.sums c.self.inside.tables.items ≡ c.tables_step_fault.result
of_tables c = sym (c.tables_step_fault.ensures ∙ ap (λ (ts : List TableValue). tables_step_fault c.args.strips.now c.self.inside.sums ts) c.deref.ensures.value)

pub returns-in-Some : goal.returns-in-Some
unfolding first_step_fault
returns-in-Some c =
    let here : After-tables_step_fault = (goal.at.returns-in-Some c).After-tables_step_fault in
    sym (some_else (tables_step_fault c.args.strips.now c.self.inside.sums c.self.inside.tables.items) (traps_step_fault c.args.strips.now (length c.self.inside.tables.items) c.self.inside.traps.items) c.in-Some.fault (of_tables here ∙ c.in-Some.is))
    ∙ ap (λ (t : TablesValue). first_step_fault c.args.strips.now t) c.self.view_is

pub returns-in-None : goal.returns-in-None
unfolding first_step_fault
returns-in-None c =
    let here : After-tables_step_fault = (goal.at.returns-in-None c).After-tables_step_fault in
    let long : c.len.result ≡ length c.self.inside.tables.items = c.len.ensures ∙ sym c.deref.ensures.len ∙ ap (λ (ts : List TableValue). length ts) c.deref.ensures.value in
    c.traps_step_fault.ensures ∙ ap (λ (n : ℕ). traps_step_fault c.args.strips.now n c.deref-in-None.result.now) long
    ∙ ap (λ (ts : List TrapValue). traps_step_fault c.args.strips.now (length c.self.inside.tables.items) ts) c.deref-in-None.ensures.value
    ∙ sym (none_else (tables_step_fault c.args.strips.now c.self.inside.sums c.self.inside.tables.items) (traps_step_fault c.args.strips.now (length c.self.inside.tables.items) c.self.inside.traps.items) (of_tables here ∙ c.in-None.is))
    ∙ ap (λ (t : TablesValue). first_step_fault c.args.strips.now t) c.self.view_is

pub tables_step_fault-requires-clause-written : goal.tables_step_fault-requires-clause-written
tables_step_fault-requires-clause-written c =
    subst (λ (tables : List TableValue). AreWritten c.args.strips.now.atoms tables)
    (ap (λ (t : TablesValue). t.tables) (sym c.self.view_is) ∙ sym c.deref.ensures.value) (tables_written c.args.strips.now c.args.self.now c.requires.order).0

pub traps_step_fault-requires-clause-written : goal.traps_step_fault-requires-clause-written
traps_step_fault-requires-clause-written c =
    subst (λ (traps : List TrapValue). AreTrapsWritten c.args.strips.now.atoms traps)
    (ap (λ (t : TablesValue). t.traps) (sym c.self.view_is) ∙ sym c.deref-in-None.ensures.value) (tables_written c.args.strips.now c.args.self.now c.requires.order).1
