use Rattle.std.proofs.Common.{List, ℕ, Option, sym, subst}
use Rattle.pb_check.specs.declared.fault.Verdict.{Verdict}
use Rattle.pb_made.specs.Answers.{IsJudged}
use Rattle.pb_made.proofs.Answered.{IsOfRows, with_its_settings, is_unweighted, answered, not_refused}
use Rattle.pb_made.proofs.solving.answer_end.Goals as goal

pub best_plan-requires : goal.best_plan-requires
best_plan-requires c =
    with_its_settings c.args.task.now c.args.graph.now c.args.workers c.requires

pub certificate_text-requires-clause-quiet : goal.certificate_text-requires-clause-quiet
certificate_text-requires-clause-quiet c =
    with_its_settings c.args.task.now c.args.graph.now c.args.workers c.requires

pub certificate_text-requires-clause-weight : goal.certificate_text-requires-clause-weight
certificate_text-requires-clause-weight c =
    is_unweighted c.args.task.now c.args.graph.now c.args.workers c.requires

pub returns : goal.returns
returns c =
    answered c.args.task.now c.args.graph.now c.args.workers c.requires c.in_ok-plan.plan
    c.as_slice.result.now c.in-Some.verdict
    c.in_ok-plan.ensures
    (subst (λ (text : List ℕ).
    IsOfRows c.args.task.now c.args.graph.now c.args.workers c.requires c.in_ok-plan.plan text)
    (sym c.as_slice.ensures.value)
    c.in_ok-text.ensures)
    (subst (λ (o : Option Verdict). IsJudged c.args.task.now c.as_slice.result.now o) c.in-Some.is
    c.in_ok-judgement.ensures)

pub unreachable-requires : goal.unreachable-requires
unreachable-requires c =
    not_refused c.args.task.now c.args.graph.now c.args.workers c.requires c.in_ok-plan.plan
    c.as_slice.result.now
    (subst (λ (text : List ℕ).
    IsOfRows c.args.task.now c.args.graph.now c.args.workers c.requires c.in_ok-plan.plan text)
    (sym c.as_slice.ensures.value)
    c.in_ok-text.ensures)
    (subst (λ (o : Option Verdict). IsJudged c.args.task.now c.as_slice.result.now o) c.in-None.is
    c.in_ok-judgement.ensures)
