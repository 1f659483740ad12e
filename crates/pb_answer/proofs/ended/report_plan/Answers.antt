use Rattle.std.proofs.Common.{◌<◌, ◌++◌, ℕ, Some, refl, subst}
use Rattle.std.proofs.lemmas.List.Elements.{All-from_recursion}
use Rattle.pb_model.specs.Plan.{IsBound}
use Rattle.pb_task.specs.Parts.{space_of, greatest_cost}
use Rattle.pb_task.proofs.Callers.{tasks_are_proper}
use Rattle.pb_lists.specs.Store.{store_with}
use Rattle.pb_cert.proofs.Callers.{walk_actions, can_be_traced, traced_plan}
use Rattle.pb_command.specs.Causes.{solve_meant}
use Rattle.pb_answer.specs.Ended.{guide_by}
use Rattle.pb_answer.specs.Searches.{weight_asked}
use Rattle.pb_answer.specs.Answer.{certificates_of, journals_of}
use Rattle.pb_answer.proofs.Certified.{can_be_stated, solved, certifies}
use Rattle.pb_answer.proofs.ended.report_plan.Goals as goal

pub trace-requires-clause-sound : goal.trace-requires-clause-sound
trace-requires-clause-sound g c =
    (can_be_traced c.args.task.now
    (guide_by c.args.task.now c.args.choice.now (g.S.Store.home c.args.store.now))
    (store_with (g.S.Store.rows c.args.store.now) (g.S.Store.weight c.args.store.now)
    (g.S.Store.incumbent c.args.store.now))
    c.requires.quiet.end c.requires.known.0 c.requires.known.1).0

pub trace-requires-clause-goal : goal.trace-requires-clause-goal
trace-requires-clause-goal g c =
    (can_be_traced c.args.task.now
    (guide_by c.args.task.now c.args.choice.now (g.S.Store.home c.args.store.now))
    (store_with (g.S.Store.rows c.args.store.now) (g.S.Store.weight c.args.store.now)
    (g.S.Store.incumbent c.args.store.now))
    c.requires.quiet.end c.requires.known.0 c.requires.known.1).1

pub of_plan-requires : goal.of_plan-requires
of_plan-requires g c =
    let is = c.in_ok-plan.ensures.plan in
    All-from_recursion (λ (action : ℕ). action < (space_of c.args.task.now).actions)
    c.in_ok-plan.plan.actions
    (walk_actions (space_of c.args.task.now) greatest_cost
    (tasks_are_proper c.args.task.now c.max_degree-lawful.ensures.lawful).0
    c.in_ok-plan.plan.actions (space_of c.args.task.now).start c.in_ok-plan.plan.cost is.0 is.1)

pub returns : goal.returns
returns g c =
    let solve = solve_meant c.args.solve.now in
    let parts = c.args.task.now in
    let choice = c.args.choice.now in
    let homes = g.S.Store.home c.args.store.now in
    let store = store_with (g.S.Store.rows c.args.store.now) (g.S.Store.weight c.args.store.now)
    (g.S.Store.incumbent c.args.store.now) in
    let journal = journals_of c.args.journal in
    let best = traced_plan parts (guide_by parts choice homes) store c.requires.quiet.end
    c.max_degree-lawful.ensures.lawful c.requires.known.0 c.requires.known.1 c.in_ok-plan.plan
    c.in_ok-plan.ensures.plan c.in_ok-plan.ensures.cheapest c.in_ok-plan.ensures.traced in
    solved solve parts choice homes store journal c.requires.quiet c.max_degree-lawful.ensures.lawful
    c.requires.names c.requires.known.0 c.requires.known.1 c.in_ok-plan.plan best
    c.bound_of-bound.result
    (subst (λ n. IsBound (weight_asked solve) n c.bound_of-bound.result) c.cost.ensures
    c.bound_of-bound.ensures)
    (record {
      status = 0;
      report = c.in_ok-report.report;
      outputs = certificates_of c.in_ok-certificate.certificate ++ journal;
      looks = 0;
    })
    refl c.in_ok-report.ensures.report c.in_ok-report.ensures.fits
    (certifies solve parts choice homes store journal c.requires.quiet (Some c.in_ok-plan.plan)
    (certificates_of c.in_ok-certificate.certificate) best (c.in_ok-certificate.ensures
    (can_be_stated solve parts choice homes store journal c.requires.quiet (Some c.in_ok-plan.plan) best)))
