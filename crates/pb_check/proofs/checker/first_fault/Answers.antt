use Rattle.std.proofs.Common.{sym, subst}
use Rattle.std.proofs.lemmas.Result.{err_from_is_err_and}
use Rattle.pb_estimate.specs.Choices.{Choice}
use Rattle.pb_estimate.specs.Tables.{IsOfTask}
use Rattle.pb_check.proofs.Keeping.{checked_fails, checked_kept, kept_choice_is}
use Rattle.pb_check.proofs.checker.first_fault.Goals as goal

pub returns-in_err-text-clause-exact : goal.returns-in_err-text-clause-exact
returns-in_err-text-clause-exact c =
    let p = err_from_is_err_and c.from_residual.result c.from_residual.ensures.1 in
    rw (p.1, p.2) (checked_fails c.in_err-text.field-0.0 c.args.task.now c.args.bytes.now c.in_err-text.ensures.kept)

pub judge-requires-clause-task : goal.judge-requires-clause-task
judge-requires-clause-task c =
    subst (λ (choice : Choice). IsOfTask c.args.estimator.now c.args.task.now choice)
    (kept_choice_is c.args.task.now c.args.bytes.now c.in_ok-text.text c.in_ok-text.ensures.kept) c.requires.task

pub returns-clause-exact : goal.returns-clause-exact
returns-clause-exact c = checked_kept c.args.task.now c.args.bytes.now c.in_ok-text.text c.judge.result c.in_ok-text.ensures.kept c.judge.ensures.verdict

pub returns-clause-task : goal.returns-clause-task
returns-clause-task c =
    subst (λ (choice : Choice). IsOfTask c.judge.new.estimator c.args.task.now choice)
    (sym (kept_choice_is c.args.task.now c.args.bytes.now c.in_ok-text.text c.in_ok-text.ensures.kept)) c.judge.ensures.task
