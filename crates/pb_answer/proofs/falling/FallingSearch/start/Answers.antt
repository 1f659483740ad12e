use Rattle.std.proofs.Common.{◌≡◌, None, [], ap, sym, ◌∙◌, subst}
use Rattle.std.proofs.lemmas.Result.{IfOk-weaker}
use Rattle.std.specs.Arc.{arc_value}
use Rattle.pb_machine.specs.Machine.{Machine}
use Rattle.pb_task.specs.declared.parts.TaskParts.{TaskParts}
use Rattle.pb_estimate.specs.Choices.{Choice}
use Rattle.pb_abstract.specs.Projection.{IsFinest}
use Rattle.pb_abstract.specs.Graph.{IsGraphOf}
use Rattle.pb_lease.specs.GraphValue.{GraphValue}
use Rattle.pb_search.specs.Ends.{IsLeftBySearch}
use Rattle.pb_command.specs.Causes.{solve_meant}
use Rattle.pb_answer.specs.FallingRuns.{FallingValue, IsFalling}
use Rattle.pb_answer.proofs.FallingBegins.{IsMade, quiet_rows_of, all_made, first_falls}
use Rattle.pb_answer.proofs.falling.FallingSearch.start.Goals as goal

pub after_run-requires-clause-quiet : goal.after_run-requires-clause-quiet
after_run-requires-clause-quiet g c = λ quiet.
    let best = c.in_ok-graph.ensures.quiet quiet in
    quiet_rows_of (arc_value c.in_ok-task.task) c.in_ok-graph.graph
    (c.in_ok-graph.ensures.task ∙ sym c.in_ok-task.ensures.cases) best.best best.small

pub search-requires-clause-suits : goal.search-requires-clause-suits
search-requires-clause-suits g c κs within = c.requires.suits

pub returns-clause-choice : goal.returns-clause-choice
returns-clause-choice g c =
    IfOk-weaker c.after_run.result (λ (s : FallingValue). s.graph ≡ c.in_ok-graph.graph)
    (λ (s : FallingValue). s.graph.choice ≡ c.args.choice)
    (λ s is. ap (λ (v : GraphValue). v.choice) is ∙ c.in_ok-graph.ensures.choice)
    c.after_run.ensures.graph

pub returns-clause-falling : goal.returns-clause-falling
returns-clause-falling g c =
    let parts : TaskParts = arc_value c.in_ok-task.task in
    let its : arc_value c.args.task.now ≡ parts = sym c.in_ok-task.ensures.cases in
    let graph = c.in_ok-graph.graph in
    let solve = solve_meant c.args.falling.solve in
    let steps = c.args.falling.steps in
    let task : graph.task ≡ parts = c.in_ok-graph.ensures.task ∙ its in
    IfOk-weaker c.after_run.result (IsMade solve parts steps 0 graph None)
    (λ (s : FallingValue). (machine : Machine) × IsFalling [] machine s)
    (first_falls solve steps c.requires.range parts graph c.abstraction-lawful.ensures.lawful task
    (subst (λ (p : TaskParts). IsGraphOf p graph.table.abstraction) its c.in_ok-graph.ensures.blocks)
    (subst (λ (p : TaskParts). IsFinest p solve.settings.wish graph.table.abstraction.projection) its
    c.in_ok-graph.ensures.finest)
    c.in_ok-graph.ensures.settings
    c.in_ok-graph.ensures.past
    c.in_ok-graph.ensures.ended
    (λ quiet. let best = c.in_ok-graph.ensures.quiet quiet in
    quiet_rows_of parts graph task best.best best.small)
    (subst (λ (p : TaskParts). IsLeftBySearch p graph.choice solve.settings graph) its
    (subst (λ (choice : Choice). IsLeftBySearch (arc_value c.args.task.now) choice solve.settings graph)
    (sym c.in_ok-graph.ensures.choice) c.in_ok-graph.ensures.left))
    c.in_ok-graph.ensures.fits)
    (all_made solve parts steps 0 graph None c.after_run.result c.after_run.ensures.solve
    c.after_run.ensures.task c.after_run.ensures.steps c.after_run.ensures.run
    c.after_run.ensures.graph c.after_run.ensures.plan c.after_run.ensures.name)
