use Rattle.std.proofs.Common.{sym, ap, ◌∙◌, option_map}
use Rattle.std.specs.Arc.{arc_value}
use Rattle.pb_pattern.specs.Tables.{TableValue}
use Rattle.pb_estimate.specs.Choices.{Choice}
use Rattle.pb_estimate.specs.Choices.{pattern_of}
use Rattle.pb_estimate.specs.Tables.{EstimatorValue}
use Rattle.pb_estimate.proofs.Choices.{looks_up, has_no_number}
use Rattle.pb_estimate.proofs.estimator.Estimator.pattern.Goals as goal

pub returns-in-None : goal.returns-in-None
returns-in-None c task choice of_task =
    sym (has_no_number c.args.self.now task choice of_task
    (ap (λ (e : EstimatorValue). e.table) (sym c.self.view_is) ∙ ap (λ t. option_map arc_value t) c.in-None.is))

pub returns-in-Some : goal.returns-in-Some
returns-in-Some c task choice of_task =
    let is =
    looks_up c.args.self.now task choice of_task (arc_value c.in-Some.table)
    (ap (λ (e : EstimatorValue). e.table) (sym c.self.view_is) ∙ ap (λ t. option_map arc_value t) c.in-Some.is) in
    c.pattern.ensures ∙ ap (λ (t : TableValue). t.pattern) c.deref.ensures ∙ sym (ap (λ (x : Choice). pattern_of x) is.1)
