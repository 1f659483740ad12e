use Rattle.std.proofs.Common.{rules, sym, ap, ◌∙◌}
use Rattle.pb_lists.specs.Bundle.{Content, row_of}
use Rattle.pb_task.specs.Parts.{space_of, greatest_cost}
use Rattle.pb_task.proofs.Callers.{tasks_are_proper}
use Rattle.std.proofs.lemmas.Bool.{eqb-false}
use Rattle.pb_test_shown.proofs.TwoRows.{one_part_is_sound, has_next}
use Rattle.pb_test_shown.proofs.saved.plan_of_step.Goals as goal

pub trace-requires-clause-sound : goal.trace-requires-clause-sound
trace-requires-clause-sound c =
    one_part_is_sound (space_of c.args.task.now) greatest_cost (tasks_are_proper c.args.task.now c.initial-start.ensures.lawful).0 c.initial-start.result c.args.action _ _
    c.in_ok-bundle.bundle c.offer.new.self c.offer-2.new.self c.initial-start.ensures.start
    (λ state. ap (λ (content : Content). row_of content state) c.in_ok-bundle.ensures)
    (ap (λ (content : Content). content.weight) c.in_ok-offer-2.ensures.put ∙ ap (λ (content : Content). content.weight) c.in_ok-offer.ensures.put ∙ ap (λ (content : Content). content.weight) c.in_ok-bundle.ensures)
    (sym c.in-Some.ensures) c.if-eq.ensures c.in_ok-offer.ensures.sets c.in_ok-offer-2.ensures.sets

pub apply-requires : goal.apply-requires
apply-requires c = rw c.initial-start.ensures.start ((tasks_are_proper c.args.task.now c.initial-start.ensures.lawful).0.start)

pub trace-requires-clause-goal : goal.trace-requires-clause-goal
trace-requires-clause-goal c = (
  0,
  _,
  _,
  has_next c.initial-start.result _ _ c.args.action (eqb-false _ c.initial-start.result (sym c.if-eq.ensures)) c.in_ok-bundle.bundle c.offer.new.self c.offer-2.new.self
      (λ state. ap (λ (content : Content). row_of content state) c.in_ok-bundle.ensures) c.in_ok-offer.ensures.sets c.in_ok-offer-2.ensures.sets,
  search rules,
)
