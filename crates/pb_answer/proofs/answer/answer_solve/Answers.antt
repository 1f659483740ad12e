use Rattle.std.proofs.Common.{inl, List, ℕ, Result, sym, subst}
use Rattle.pb_command.specs.Causes.{solve_meant}
use Rattle.pb_answer.specs.Answer.{IsFoundOf, OrRefused, said_of}
use Rattle.pb_answer.proofs.SolveTask.{ReadTask}
use Rattle.pb_answer.proofs.answer.answer_solve.Goals as goal

pub returns-in_ok-answer-in-Ok-clause-answers : goal.returns-in_ok-answer-in-Ok-clause-answers
returns-in_ok-answer-in-Ok-clause-answers g c =
    let solve = solve_meant c.args.solve in
    let read = c.in-Ok.read in
    let found = subst (IsFoundOf solve (read.task, read.tables)) (sym c.after.ensures)
    c.in_ok-answer-in-Ok.ensures in
    inl (subst (λ (given : Result ReadTask (List ℕ)). OrRefused given (IsFoundOf solve)
    (said_of c.after.result)) (sym c.in-Ok.ensures.read) found)
