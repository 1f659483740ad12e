use Rattle.std.proofs.Common.{sym, ◌∙◌, subst}
use Rattle.std.specs.Arc.{arc_value}
use Rattle.pb_task.specs.declared.parts.TaskParts.{TaskParts}
use Rattle.pb_command.specs.Causes.{solve_meant}
use Rattle.pb_answer.specs.Searches.{IsChoiceAsked}
use Rattle.pb_answer.proofs.Asked.{Suit}
use Rattle.pb_answer.proofs.Certified.{found_by}
use Rattle.pb_answer.proofs.solve.solve_task.Goals as goal

pub choice_for-requires-clause-given : goal.choice_for-requires-clause-given
choice_for-requires-clause-given g c =
    subst (λ (p : TaskParts). Suit p c.args.read.tables)
    (sym (c.deref.ensures ∙ c.in_ok-task.ensures.ok)) c.requires.suits

pub returns-in-Leases : goal.returns-in-Leases
returns-in-Leases g c =
    let solve = solve_meant c.args.solve in
    found_by solve (c.args.read.task, c.args.read.tables) (arc_value c.in_ok-task.task)
    c.in_ok-task.ensures.ok c.in_ok-choice.choice
    (subst (λ (p : TaskParts). IsChoiceAsked solve c.args.read.tables p c.in_ok-choice.choice)
    c.deref.ensures c.in_ok-choice.ensures.asked) c.solve_by_leases.result
    c.solve_by_leases.ensures

pub returns : goal.returns
returns g c =
    let solve = solve_meant c.args.solve in
    found_by solve (c.args.read.task, c.args.read.tables) (arc_value c.in_ok-task.task)
    c.in_ok-task.ensures.ok c.in_ok-choice.choice
    (subst (λ (p : TaskParts). IsChoiceAsked solve c.args.read.tables p c.in_ok-choice.choice)
    c.deref.ensures c.in_ok-choice.ensures.asked) c.solve_by_owners.result
    c.solve_by_owners.ensures
