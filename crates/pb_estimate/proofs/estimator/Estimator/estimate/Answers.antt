use Rattle.std.proofs.Common.{◌≡◌, true, subst, sym, ap, ◌∙◌, option_map}
use Rattle.std.specs.Arc.{arc_value}
use Rattle.pb_tables.specs.Tables.{TablesValue}
use Rattle.pb_estimate.specs.Choices.{Choice}
use Rattle.pb_estimate.specs.Estimates.{estimate_by, estimate_by_tables, tables_suit}
use Rattle.pb_estimate.specs.Tables.{EstimatorValue}
use Rattle.pb_estimate.proofs.Choices.{looks_up_tables}
use Rattle.pb_estimate.proofs.estimator.Estimator.estimate.Goals as goal

pub by_tables-requires : goal.by_tables-requires
by_tables-requires c =
    let is =
    looks_up_tables c.args.self.now c.args.task.now c.requires.task.0 c.requires.task.1 (arc_value c.in-Some.tables)
    (ap (λ (e : EstimatorValue). e.tables) (sym c.self.view_is) ∙ ap (λ t. option_map arc_value t) c.in-Some.is) in
    record { suit = subst (λ (t : TablesValue). tables_suit c.args.task.now t ≡ true) (sym c.deref.ensures) is.1 }

pub returns-in-Some-clause-estimate : goal.returns-in-Some-clause-estimate
returns-in-Some-clause-estimate c choice of_task =
    let is =
    looks_up_tables c.args.self.now c.args.task.now choice of_task (arc_value c.in-Some.tables)
    (ap (λ (e : EstimatorValue). e.tables) (sym c.self.view_is) ∙ ap (λ t. option_map arc_value t) c.in-Some.is) in
    c.by_tables.ensures
    ∙ ap (λ (t : TablesValue). estimate_by_tables c.args.task.now t c.args.state.now) c.deref.ensures
    ∙ sym (ap (λ (x : Choice). estimate_by c.args.task.now x c.args.state.now) is.0)
