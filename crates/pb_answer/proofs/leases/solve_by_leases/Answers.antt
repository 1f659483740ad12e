use Rattle.std.proofs.Common.{◌≡◌, true, Some, sym, subst}
use Rattle.std.specs.Arc.{arc_value}
use Rattle.pb_machine.specs.declared.event.End.TheVariants.{Budget}
use Rattle.pb_task.specs.declared.parts.TaskParts.{TaskParts}
use Rattle.pb_estimate.specs.Choices.{Choice}
use Rattle.pb_estimate.specs.Estimates.{suits}
use Rattle.pb_lease.specs.GraphValue.{GraphValue}
use Rattle.pb_search.specs.Searches.{LeavesStopped}
use Rattle.pb_command.specs.Causes.{solve_meant}
use Rattle.pb_answer.proofs.Certified.{found, stop_found}
use Rattle.pb_answer.proofs.leases.solve_by_leases.Goals as goal

pub search-requires-clause-suits : goal.search-requires-clause-suits
search-requires-clause-suits g c κs within =
    subst (λ (choice : Choice). suits (arc_value c.args.task.now) choice ≡ true)
    (sym c.in_ok-searched.ensures.cases) c.requires.suits

pub answer_end-requires-clause-suits : goal.answer_end-requires-clause-suits
answer_end-requires-clause-suits g c =
    subst (λ (p : TaskParts). suits p c.args.choice.now ≡ true) (sym c.deref.ensures)
    c.requires.suits

pub returns-in-Some-Quiet : goal.returns-in-Some-Quiet
returns-in-Some-Quiet g c =
    found (solve_meant c.args.solve) c.args.choice.now c.deref.result.now
    (arc_value c.args.task.now) c.deref.ensures c.answer_end.result c.answer_end.ensures

pub returns-in-Some-Budget : goal.returns-in-Some-Budget
returns-in-Some-Budget g c =
    stop_found (solve_meant c.args.solve) c.args.choice.now c.deref-in-Some-Budget.result.now
    (arc_value c.args.task.now) c.deref-in-Some-Budget.ensures c.answer_stop.result
    c.answer_stop.ensures

pub answer_stop-requires-clause-stopped : goal.answer_stop-requires-clause-stopped
answer_stop-requires-clause-stopped g c =
    let here : c.keep_leases-graph.result.now.table.end ≡ Some Budget =
    cc (c.end.ensures, c.in-Some-Budget.is, c.in-Some-Budget.field-0-is) in
    let ended : c.in_ok-graph.graph.table.end ≡ Some Budget =
    subst (λ (v : GraphValue). v.table.end ≡ Some Budget) c.keep_leases-graph.ensures here in
    subst (λ (v : GraphValue). LeavesStopped c.deref-in-Some-Budget.result.now c.args.choice.now
    c.args.solve.settings v) (sym c.keep_leases-graph.ensures)
    (subst (λ (p : TaskParts). LeavesStopped p c.args.choice.now c.args.solve.settings
    c.in_ok-graph.graph) (sym c.deref-in-Some-Budget.ensures)
    (subst (λ (choice : Choice). LeavesStopped (arc_value c.args.task.now) choice
    c.args.solve.settings c.in_ok-graph.graph) c.in_ok-searched.ensures.cases
    (record {
      settings_are = c.in_ok-graph.ensures.settings;
      run = c.in_ok-graph.ensures.budget ended;
      plain = c.in_ok-graph.ensures.plain;
    })))
