use Rattle.std.proofs.Common.{sym, subst}
use Rattle.std.specs.Prelude.{All}
use Rattle.std.proofs.lemmas.Result.{err_from_is_err_and}
use Rattle.pb_estimate.specs.Choices.{Choice}
use Rattle.pb_estimate.specs.Tables.{IsOfTask}
use Rattle.pb_check.proofs.Keeping.{checked_fails, checked_kept, kept_choice_is}
use Rattle.pb_check.proofs.pieces.first_fault.Goals as goal

pub returns-in_err-text-clause-exact : goal.returns-in_err-text-clause-exact
returns-in_err-text-clause-exact g c =
    let p = err_from_is_err_and c.from_residual.result c.from_residual.ensures.1 in
    rw (p.1, p.2) (checked_fails c.in_err-text.field-0.0 c.args.task.now c.args.bytes.now c.in_err-text.ensures.kept)

pub judge-requires-clause-task : goal.judge-requires-clause-task
judge-requires-clause-task g c = λ κs lives.
    subst (λ (choice : Choice). All (λ e. IsOfTask e c.args.task.now choice) c.args.estimators.now)
    (kept_choice_is c.args.task.now c.args.bytes.now c.in_ok-text.text c.in_ok-text.ensures.kept) c.requires.task

pub returns-clause-exact : goal.returns-clause-exact
returns-clause-exact g c = checked_kept c.args.task.now c.args.bytes.now c.in_ok-text.text c.judge.result c.in_ok-text.ensures.kept c.judge.ensures.verdict

pub returns-clause-task : goal.returns-clause-task
returns-clause-task g c =
    subst (λ (choice : Choice). All (λ e. IsOfTask e c.args.task.now choice) c.judge.new.estimators)
    (sym (kept_choice_is c.args.task.now c.args.bytes.now c.in_ok-text.text c.in_ok-text.ensures.kept)) c.judge.ensures.task
