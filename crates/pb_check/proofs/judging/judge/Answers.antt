use Rattle.std.proofs.Common.{◌≡◌, true, Ok, ap, ◌∙◌, subst}
use Rattle.std.proofs.lemmas.Result.{err_from_is_err_and}
use Rattle.pb_model.specs.Certificate.{cost_of}
use Rattle.pb_check.specs.Faults.{Fails}
use Rattle.pb_check.specs.Reading.{Text}
use Rattle.pb_check.specs.Judging.{verdict_of}
use Rattle.pb_check.proofs.Before.{rows_judged, before_fails, rows_fail, rows_pass}
use Rattle.pb_check.proofs.judging.judge.Goals as goal

pub returns-in_err-judge_before-clause-verdict : goal.returns-in_err-judge_before-clause-verdict
returns-in_err-judge_before-clause-verdict c =
    let p = err_from_is_err_and c.from_residual.result c.from_residual.ensures.1 in
    rw (p.1, p.2) (before_fails c.in_err-judge_before.field-0.0 c.args.task.now c.args.text.now c.in_err-judge_before.ensures.gives)

pub returns-in_err-need_rows-clause-verdict : goal.returns-in_err-need_rows-clause-verdict
returns-in_err-need_rows-clause-verdict c =
    let p = err_from_is_err_and c.from_residual-in_err-need_rows.result c.from_residual-in_err-need_rows.ensures.1 in
    rw (p.1, p.2) (rows_fail c.in_err-need_rows.field-0.0 c.args.task.now c.args.text.now true c.cost_of.result c.in_ok-judge_before.ensures.gives
    (c.cost_of.ensures ∙ ap (λ (text : Text). cost_of text.certificate.plan) c.text.view_is)
    (subst (λ (text : Text). Fails c.in_err-need_rows.field-0.0 (rows_judged c.args.task.now text c.cost_of.result)) c.text.view_is c.in_err-need_rows.ensures.gives))

pub returns-clause-verdict : goal.returns-clause-verdict
returns-clause-verdict c =
    rows_pass c.args.task.now c.args.text.now true true c.cost_of.result c.on.result c.in_ok-judge_before.ensures.gives
    (c.cost_of.ensures ∙ ap (λ (text : Text). cost_of text.certificate.plan) c.text.view_is)
    (subst (λ (text : Text). rows_judged c.args.task.now text c.cost_of.result ≡ Ok true) c.text.view_is c.in_ok-need_rows.ensures.gives)
    (c.on.ensures ∙ c.verdict_of.ensures ∙ ap (λ (text : Text). verdict_of text.certificate.weight text.certificate.plan) c.text.view_is)
