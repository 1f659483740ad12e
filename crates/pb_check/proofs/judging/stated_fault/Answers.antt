use Rattle.std.proofs.Common.{sym, ◌∙◌}
use Rattle.pb_check.proofs.Claims.{with_tables}
use Rattle.pb_check.proofs.Completeness.{choice_ok}
use Rattle.pb_check.proofs.judging.stated_fault.Goals as goal

pub returns-in-Tables-clause-fault : goal.returns-in-Tables-clause-fault
returns-in-Tables-clause-fault c =
    sym (choice_ok c.args.task.now c.args.stated.now.choice
    (with_tables c.args.estimator.now c.args.task.now c.args.stated.now.choice c.requires.task (sym c.has_tables.ensures ∙ c.if-has_tables.true)))

pub returns-in-Tables-clause-suits : goal.returns-in-Tables-clause-suits
returns-in-Tables-clause-suits c = λ none. with_tables c.args.estimator.now c.args.task.now c.args.stated.now.choice c.requires.task (sym c.has_tables.ensures ∙ c.if-has_tables.true)
