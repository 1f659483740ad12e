use Rattle.std.proofs.Common.{◌≡◌, ◌≤◌, ◌+◌, Some, IsSome, sym, ◌∙◌, subst, IfOk}
use Rattle.std.proofs.lemmas.Result.{IfOk-weaker}
use Rattle.std.specs.Arc.{arc_value}
use Rattle.pb_model.specs.Weight.{IsWeight}
use Rattle.pb_machine.specs.declared.event.End.TheVariants.{Quiet}
use Rattle.pb_falling.specs.Falling.{weight_at}
use Rattle.pb_command.specs.Causes.{solve_meant}
use Rattle.pb_answer.specs.Searches.{weight_asked}
use Rattle.pb_answer.specs.FallingRuns.{FallingValue, IsFalling, IsLast, GoesOn}
use Rattle.pb_answer.proofs.FallingBegins.{IsMade, quiet_rows_of, all_made, begins_next, fits_next, plan_fits, goes_on}
use Rattle.pb_answer.proofs.FallingLast.{more_runs, some_claim, next_is_weight, claim_is_quiet}
use Rattle.pb_answer.proofs.falling.FallingSearch.go_on.Goals as goal

pub numerator_at-num-requires-clause-within : goal.numerator_at-num-requires-clause-within
numerator_at-num-requires-clause-within g c =
    subst (λ (v : FallingValue). v.run + 1 ≤ v.steps) (sym c.self.view_is)
    (more_runs c.requires.after.0 c.requires.after.1 c.args.self c.requires.after.2
    c.requires.not_last)

pub reopen-requires-clause-quiet : goal.reopen-requires-clause-quiet
reopen-requires-clause-quiet g c =
    let claim = some_claim c.requires.after.0 c.requires.after.1 c.args.self c.requires.after.2
    c.requires.not_last in
    subst (λ (v : FallingValue). v.graph.table.end ≡ Some Quiet) (sym c.self.view_is)
    (claim_is_quiet c.requires.after.0 c.requires.after.1 c.args.self c.requires.after.2 claim.0
    claim.1).0

pub reopen-requires-clause-incumbent : goal.reopen-requires-clause-incumbent
reopen-requires-clause-incumbent g c =
    let claim = some_claim c.requires.after.0 c.requires.after.1 c.args.self c.requires.after.2
    c.requires.not_last in
    subst (λ (v : FallingValue). IsSome v.graph.incumbent) (sym c.self.view_is)
    (claim_is_quiet c.requires.after.0 c.requires.after.1 c.args.self c.requires.after.2 claim.0
    claim.1).1

pub reopen-requires-clause-small : goal.reopen-requires-clause-small
reopen-requires-clause-small g c =
    let more = more_runs c.requires.after.0 c.requires.after.1 c.args.self c.requires.after.2
    c.requires.not_last in
    let weight = subst (λ (v : FallingValue).
    IsWeight (weight_at (weight_asked v.solve) v.steps (v.run + 1))) (sym c.self.view_is)
    (next_is_weight c.requires.after.0 c.requires.after.1 c.args.self c.requires.after.2 more) in
    subst (λ n. n ≤ 1000) (sym c.numerator_at-num.ensures) weight.small

pub search_on-requires-clause-begin : goal.search_on-requires-clause-begin
search_on-requires-clause-begin g c κs within =
    begins_next c.requires.after.0 c.requires.after.1 _
    (subst (λ (v : FallingValue). IsFalling c.requires.after.0 c.requires.after.1 v)
    (sym c.self.view_is) c.requires.after.2) _ c.in-Ok.again c.in-Ok.ensures.begin

pub search_on-requires-clause-fits : goal.search_on-requires-clause-fits
search_on-requires-clause-fits g c κs within =
    fits_next c.requires.after.0 c.requires.after.1 _
    (subst (λ (v : FallingValue). IsFalling c.requires.after.0 c.requires.after.1 v)
    (sym c.self.view_is) c.requires.after.2) _ c.in-Ok.again c.in-Ok.ensures.reopened

pub after_run-requires-clause-quiet : goal.after_run-requires-clause-quiet
after_run-requires-clause-quiet g c = λ quiet.
    let f = subst (λ (v : FallingValue). IsFalling c.requires.after.0 c.requires.after.1 v)
    (sym c.self.view_is) c.requires.after.2 in
    let best = c.in_ok-last.ensures.quiet quiet in
    quiet_rows_of (arc_value c.self.inside.task) c.in_ok-last.last
    (c.in_ok-last.ensures.of_run.task ∙ c.in-Ok.ensures.reopened.task ∙ f.task) best.0 best.1

pub after_run-requires-clause-fits : goal.after_run-requires-clause-fits
after_run-requires-clause-fits g c =
    plan_fits c.requires.after.0 c.requires.after.1 _
    (subst (λ (v : FallingValue). IsFalling c.requires.after.0 c.requires.after.1 v)
    (sym c.self.view_is) c.requires.after.2)

pub returns-clause-falling : goal.returns-clause-falling
returns-clause-falling g c before machine falling =
    let f = subst (λ (v : FallingValue). IsFalling before machine v) (sym c.self.view_is) falling in
    let not_last = subst (λ (v : FallingValue). IsLast v → ⊥) (sym c.self.view_is)
    c.requires.not_last in
    let claim = some_claim before machine _ f not_last in
    let more = more_runs before machine _ f not_last in
    let task = c.in_ok-last.ensures.of_run.task ∙ c.in-Ok.ensures.reopened.task ∙ f.task in
    let last = c.in_ok-last.last in
    subst (λ (v : FallingValue). IfOk c.after_run.result (GoesOn before machine v)) c.self.view_is
    (IfOk-weaker c.after_run.result
    (IsMade (solve_meant c.self.inside.solve) (arc_value c.self.inside.task) c.self.inside.steps
    (c.self.inside.run + 1) last c.self.inside.plan) _
    (goes_on before machine _ f more not_last claim.0 claim.1 c.numerator_at-num.result
    c.numerator_at-num.ensures c.in-Ok.again c.in-Ok.ensures.reopened c.in-Ok.ensures.begin last
    c.abstraction-lawful.ensures.lawful c.in_ok-last.ensures.of_run c.in_ok-last.ensures.ended
    c.in_ok-last.ensures.home
    (λ quiet. let best = c.in_ok-last.ensures.quiet quiet in
    quiet_rows_of (arc_value c.self.inside.task) last task best.0 best.1)
    c.in_ok-last.ensures.left c.in_ok-last.ensures.fits)
    (all_made (solve_meant c.self.inside.solve) (arc_value c.self.inside.task) c.self.inside.steps
    (c.self.inside.run + 1) last c.self.inside.plan c.after_run.result c.after_run.ensures.solve
    c.after_run.ensures.task c.after_run.ensures.steps c.after_run.ensures.run
    c.after_run.ensures.graph c.after_run.ensures.plan c.after_run.ensures.name))
