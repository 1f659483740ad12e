use Rattle.std.proofs.Common.{◌≡◌, ◌∙◌, ℕ, List, length, sym, ap}
use Rattle.pb_tables.specs.Tables.{TableValue, TrapValue, TablesValue}
use Rattle.pb_tables.specs.Suits.{tables_order_fault, traps_order_fault, first_order_fault}
use Rattle.pb_tables.proofs.Searches.{some_else, none_else}
use Rattle.pb_tables.proofs.tables.Tables.first_order_fault.Goals as goal
use Rattle.pb_tables.proofs.tables.Tables.first_order_fault.Goals.{After-tables_order_fault}

abbrev inside : After-tables_order_fault → TablesValue
inside c = record { sums = c.self.inside.sums; tables = c.self.inside.tables.items; traps = c.self.inside.traps.items }

of_tables : (c : After-tables_order_fault) → tables_order_fault c.args.strips.now.atoms c.self.inside.tables.items ≡ c.tables_order_fault.result
of_tables c = sym (c.tables_order_fault.ensures ∙ ap (λ (ts : List TableValue). tables_order_fault c.args.strips.now.atoms ts) c.deref.ensures.value)

pub returns-in-Some : goal.returns-in-Some
unfolding first_order_fault
returns-in-Some c =
    let here : After-tables_order_fault = (goal.at.returns-in-Some c).After-tables_order_fault in
    sym (some_else (tables_order_fault c.args.strips.now.atoms c.self.inside.tables.items) (traps_order_fault c.args.strips.now.atoms (length c.self.inside.tables.items) c.self.inside.traps.items) c.in-Some.fault (of_tables here ∙ c.in-Some.is))
    ∙ ap (λ (t : TablesValue). first_order_fault c.args.strips.now t) c.self.view_is

pub returns-in-None : goal.returns-in-None
unfolding first_order_fault
returns-in-None c =
    let here : After-tables_order_fault = (goal.at.returns-in-None c).After-tables_order_fault in
    let long : c.len.result ≡ length c.self.inside.tables.items = c.len.ensures ∙ sym c.deref.ensures.len ∙ ap (λ (ts : List TableValue). length ts) c.deref.ensures.value in
    c.traps_order_fault.ensures ∙ ap (λ (n : ℕ). traps_order_fault c.args.strips.now.atoms n c.deref-in-None.result.now) long
    ∙ ap (λ (ts : List TrapValue). traps_order_fault c.args.strips.now.atoms (length c.self.inside.tables.items) ts) c.deref-in-None.ensures.value
    ∙ sym (none_else (tables_order_fault c.args.strips.now.atoms c.self.inside.tables.items) (traps_order_fault c.args.strips.now.atoms (length c.self.inside.tables.items) c.self.inside.traps.items) (of_tables here ∙ c.in-None.is))
    ∙ ap (λ (t : TablesValue). first_order_fault c.args.strips.now t) c.self.view_is
