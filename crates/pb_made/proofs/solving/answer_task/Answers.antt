use Rattle.std.proofs.Common.{◌≡◌, IfOk, Some, ap, sym, subst}
use Rattle.std.specs.Arc.{arc_value}
use Rattle.pb_machine.specs.declared.event.End.TheVariants.{Quiet, Budget}
use Rattle.pb_machine.specs.declared.settings.Settings.{Settings}
use Rattle.pb_task.specs.declared.parts.TaskParts.{TaskParts}
use Rattle.pb_estimate.specs.Choices.{Choice, Plain}
use Rattle.pb_search.specs.Searches.{SearchEnds, LeavesQuiet}
use Rattle.pb_made.specs.Answers.{made_settings, IsAnswered}
use Rattle.pb_search.proofs.Callers.{leaves_quiet, search_stops}
use Rattle.pb_made.proofs.solving.answer_task.Goals as goal

pub answer_end-requires : goal.answer_end-requires
answer_end-requires g c =
    let ended : c.in_ok-graph.graph.table.end ≡ Some Quiet =
    cc (c.end.ensures, c.in-Some-Quiet.is, c.in-Some-Quiet.field-0-is) in
    subst (λ (p : TaskParts). LeavesQuiet p Plain (made_settings c.args.workers) c.in_ok-graph.graph)
    (sym c.deref.ensures)
    (subst (λ (choice : Choice).
    LeavesQuiet (arc_value c.args.task.now) choice (made_settings c.args.workers) c.in_ok-graph.graph)
    c.plain.ensures
    (leaves_quiet (arc_value c.args.task.now) c.plain.result c.made_settings-settings.result
    (made_settings c.args.workers) c.in_ok-graph.graph c.made_settings-settings.ensures.settings
    c.in_ok-graph.ensures.settings (c.in_ok-graph.ensures.quiet ended)
    (c.in_ok-graph.ensures.quiet_run ended) c.in_ok-graph.ensures.plain))

pub returns-in-Some-Quiet : goal.returns-in-Some-Quiet
returns-in-Some-Quiet g c =
    subst (λ (p : TaskParts). IfOk c.answer_end.result (IsAnswered p c.args.workers))
    c.deref.ensures c.answer_end.ensures

pub returns-in-Some-Budget : goal.returns-in-Some-Budget
returns-in-Some-Budget g c =
    let ended : c.in_ok-graph.graph.table.end ≡ Some Budget =
    cc (c.end.ensures, c.in-Some-Budget.is, c.in-Some-Budget.field-0-is) in (
      ap (λ (s : Settings). s.budget) c.made_settings-settings.ensures.settings,
      (
        c.in_ok-graph.graph.table.journal,
        subst (λ (choice : Choice). SearchEnds (arc_value c.args.task.now) choice
            (made_settings c.args.workers) Budget c.in_ok-graph.graph.table.journal)
            c.plain.ensures
            (search_stops (arc_value c.args.task.now) c.plain.result c.made_settings-settings.result
            (made_settings c.args.workers) c.in_ok-graph.graph
            c.made_settings-settings.ensures.settings (c.in_ok-graph.ensures.budget ended)
            c.in_ok-graph.ensures.plain),
      ),
    )
