use Rattle.std.proofs.Common.{◌≡◌, true, Some, None, [], ◌++◌, refl, ap, sym, ◌∙◌, subst}
use Rattle.std.specs.Arc.{arc_value}
use Rattle.pb_machine.specs.declared.event.End.TheVariants.{Quiet}
use Rattle.pb_task.specs.declared.parts.TaskParts.{TaskParts}
use Rattle.pb_task.specs.Parts.{space_of}
use Rattle.pb_estimate.specs.Choices.{Choice}
use Rattle.pb_estimate.specs.Estimates.{suits}
use Rattle.pb_lists.specs.Store.{IsQuietEnd}
use Rattle.pb_abstract.specs.Graph.{home_of}
use Rattle.pb_lease.specs.Begins.{home_store}
use Rattle.pb_command.specs.Causes.{solve_meant}
use Rattle.pb_answer.specs.Ended.{guide_by}
use Rattle.pb_answer.specs.Answer.{Said, certificates_of}
use Rattle.pb_answer.specs.Falling.{asked_of_run}
use Rattle.pb_answer.specs.FallingRuns.{FallingValue, IsFalling, SaysNoneNow}
use Rattle.pb_answer.proofs.FallingRuns.{suits_here}
use Rattle.pb_answer.proofs.FallingSaid.{certified, end_here, none_said}
use Rattle.pb_answer.proofs.falling.FallingSearch.answer_none.Goals as goal

pub certify-requires-clause-end : goal.certify-requires-clause-end
certify-requires-clause-end c =
    let f = subst (λ (v : FallingValue). IsFalling c.requires.after.0 c.requires.after.1 v)
    (sym c.self.view_is) c.requires.after.2 in
    let quiet = subst (λ (v : FallingValue). v.graph.table.end ≡ Some Quiet) (sym c.self.view_is)
    c.requires.quiet in
    subst (λ (p : TaskParts). IsQuietEnd (space_of p) (guide_by p c.choice.result.now
    (home_of c.self.inside.graph.task c.self.inside.graph.table.abstraction))
    (home_store c.self.inside.graph)) (sym c.deref.ensures)
    (subst (λ (choice : Choice). IsQuietEnd (space_of (arc_value c.self.inside.task))
    (guide_by (arc_value c.self.inside.task) choice
    (home_of c.self.inside.graph.task c.self.inside.graph.table.abstraction))
    (home_store c.self.inside.graph)) (sym c.choice.ensures.choice)
    (end_here c.requires.after.0 c.requires.after.1 _ f quiet))

pub certify-requires-clause-suits : goal.certify-requires-clause-suits
certify-requires-clause-suits c =
    let f = subst (λ (v : FallingValue). IsFalling c.requires.after.0 c.requires.after.1 v)
    (sym c.self.view_is) c.requires.after.2 in
    subst (λ (p : TaskParts). suits p c.choice.result.now ≡ true) (sym c.deref.ensures)
    (subst (λ (choice : Choice). suits (arc_value c.self.inside.task) choice ≡ true)
    (sym c.choice.ensures.choice) (suits_here c.requires.after.0 c.requires.after.1 _ f))

pub returns : goal.returns
returns c before machine falling =
    let f = subst (λ (v : FallingValue). IsFalling before machine v) (sym c.self.view_is) falling in
    let solve = solve_meant c.words-words.result in
    let words = subst (λ (v : FallingValue). solve ≡ asked_of_run v.solve v.steps v.run)
    (sym c.self.view_is) c.words-words.ensures in
    let none = ap (λ (v : FallingValue). v.plan) c.self.view_is ∙ c.requires.none in
    let quiet = subst (λ (v : FallingValue). v.graph.table.end ≡ Some Quiet) (sym c.self.view_is)
    c.requires.quiet in
    let outputs = certificates_of c.in_ok-certificate.certificate in
    let said : Said = record { status = 1; report = c.in_ok-report.report; outputs = outputs ++ []; looks = 0 } in
    subst (λ (v : FallingValue). SaysNoneNow before v said) c.self.view_is
    (none_said before machine _ f solve words none quiet said refl c.in_ok-report.ensures outputs refl
    (certified solve c.deref.result.now (arc_value c.self.inside.task) c.deref.ensures
    c.choice.result.now c.self.inside.graph.choice c.choice.ensures.choice None None refl
    (home_of c.self.inside.graph.task c.self.inside.graph.table.abstraction)
    (home_store c.self.inside.graph) outputs c.in_ok-certificate.ensures))
