use Rattle.std.proofs.Common.{◌≡◌, true, Some, [], ◌++◌, refl, ap, sym, ◌∙◌, subst}
use Rattle.std.specs.Arc.{arc_value}
use Rattle.pb_model.specs.Plan.{Plan, IsBound}
use Rattle.pb_task.specs.declared.parts.TaskParts.{TaskParts}
use Rattle.pb_task.specs.Parts.{space_of}
use Rattle.pb_estimate.specs.Choices.{Choice}
use Rattle.pb_estimate.specs.Estimates.{suits}
use Rattle.pb_lists.specs.Store.{IsQuietEnd}
use Rattle.pb_abstract.specs.Graph.{home_of}
use Rattle.pb_lease.specs.Begins.{home_store}
use Rattle.pb_report.specs.Texts.{AreActions, claim_text}
use Rattle.pb_command.specs.Causes.{solve_meant}
use Rattle.pb_answer.specs.Searches.{weight_asked}
use Rattle.pb_answer.specs.Ended.{guide_by}
use Rattle.pb_answer.specs.Answer.{Said, certificates_of}
use Rattle.pb_answer.specs.Falling.{asked_of_run}
use Rattle.pb_answer.specs.FallingRuns.{FallingValue, weight_now, IsFalling, SaysClaimNow}
use Rattle.pb_answer.proofs.FallingLast.{claim_is_quiet}
use Rattle.pb_answer.proofs.FallingRuns.{suits_here}
use Rattle.pb_answer.proofs.FallingSaid.{certified, end_here, plan_actions, claim_said}
use Rattle.pb_answer.proofs.falling.FallingSearch.answer_claim.Goals as goal

pub of_claim-requires : goal.of_claim-requires
of_claim-requires c =
    subst (λ (p : TaskParts). AreActions (space_of p) c.args.plan.now.actions)
    (sym (c.deref.ensures ∙ ap (λ (v : FallingValue). v.parts) c.self.view_is))
    (plan_actions c.requires.after.0 c.requires.after.1 c.args.self.now c.requires.after.2
    (asked_of_run c.args.self.now.solve c.args.self.now.steps c.args.self.now.run) refl
    c.args.plan.now c.requires.plan)

pub certify-requires-clause-end : goal.certify-requires-clause-end
certify-requires-clause-end c =
    let f = subst (λ (v : FallingValue). IsFalling c.requires.after.0 c.requires.after.1 v)
    (sym c.self.view_is) c.requires.after.2 in
    let plan_is = ap (λ (v : FallingValue). v.plan) c.self.view_is ∙ c.requires.plan in
    let quiet = (claim_is_quiet c.requires.after.0 c.requires.after.1 _ f c.args.plan.now plan_is).0 in
    subst (λ (p : TaskParts). IsQuietEnd (space_of p) (guide_by p c.choice.result.now
    (home_of c.self.inside.graph.task c.self.inside.graph.table.abstraction))
    (home_store c.self.inside.graph)) (sym c.deref-2.ensures)
    (subst (λ (choice : Choice). IsQuietEnd (space_of (arc_value c.self.inside.task))
    (guide_by (arc_value c.self.inside.task) choice
    (home_of c.self.inside.graph.task c.self.inside.graph.table.abstraction))
    (home_store c.self.inside.graph)) (sym c.choice.ensures.choice)
    (end_here c.requires.after.0 c.requires.after.1 _ f quiet))

pub certify-requires-clause-suits : goal.certify-requires-clause-suits
certify-requires-clause-suits c =
    let f = subst (λ (v : FallingValue). IsFalling c.requires.after.0 c.requires.after.1 v)
    (sym c.self.view_is) c.requires.after.2 in
    subst (λ (p : TaskParts). suits p c.choice.result.now ≡ true) (sym c.deref-2.ensures)
    (subst (λ (choice : Choice). suits (arc_value c.self.inside.task) choice ≡ true)
    (sym c.choice.ensures.choice) (suits_here c.requires.after.0 c.requires.after.1 _ f))

pub returns : goal.returns
returns c before machine falling =
    let f = subst (λ (v : FallingValue). IsFalling before machine v) (sym c.self.view_is) falling in
    let solve = solve_meant c.words-words.result in
    let words = subst (λ (v : FallingValue). solve ≡ asked_of_run v.solve v.steps v.run)
    (sym c.self.view_is) c.words-words.ensures in
    let plan_is = ap (λ (v : FallingValue). v.plan) c.self.view_is ∙ c.requires.plan in
    let bounded = subst (λ (v : FallingValue).
    IsBound (weight_now v) c.args.plan.now.cost c.bound-bound.result) (sym c.self.view_is)
    c.bound-bound.ensures in
    let outputs = certificates_of c.in_ok-certificate.certificate in
    let said : Said = record { status = 0; report = c.in_ok-report.report; outputs = outputs ++ []; looks = 0 } in
    subst (λ (v : FallingValue). SaysClaimNow before machine v said) c.self.view_is
    (claim_said before machine _ f solve words c.claims_hold.ensures c.args.plan.now plan_is
    c.bound-bound.result bounded said refl
    (c.in_ok-report.ensures ∙ ap (λ (p : TaskParts). claim_text p (weight_asked solve)
    c.args.plan.now c.bound-bound.result) c.deref.ensures) outputs refl
    (certified solve c.deref-2.result.now (arc_value c.self.inside.task) c.deref-2.ensures
    c.choice.result.now c.self.inside.graph.choice c.choice.ensures.choice
    (Some c.in_ok-stated.stated) (Some c.args.plan.now)
    (ap (λ (p : Plan). Some p) c.in_ok-stated.ensures)
    (home_of c.self.inside.graph.task c.self.inside.graph.table.abstraction)
    (home_store c.self.inside.graph) outputs c.in_ok-certificate.ensures))
