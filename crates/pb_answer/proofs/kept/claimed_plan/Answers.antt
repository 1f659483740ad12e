use Rattle.std.proofs.Common.{◌≡◌, Some, sym, ap, ◌∙◌}
use Rattle.pb_machine.specs.declared.event.End.{End}
use Rattle.pb_machine.specs.declared.event.End.TheVariants.{Quiet}
use Rattle.pb_answer.proofs.FallingKept.{kept_now}
use Rattle.pb_answer.proofs.kept.claimed_plan.Goals as goal

pub returns-in_ok-traced-in-Some : goal.returns-in_ok-traced-in-Some
returns-in_ok-traced-in-Some c =
    let quiet : c.args.graph.now.table.end ≡ Some Quiet =
    sym c.end.ensures ∙ c.in-Some-Quiet.is ∙ ap (λ (e : End). Some e) c.in-Some-Quiet.field-0-is in
    kept_now c.args.task.now c.args.graph.now (c.requires.quiet quiet) c.in-Some.field-0
    (sym c.incumbent.ensures ∙ c.in-Some.is) c.max_degree-lawful.ensures.lawful quiet c.args.before
    c.requires.fits c.in_ok-traced-in-Some.traced c.in_ok-traced-in-Some.ensures.plan
    c.in_ok-traced-in-Some.ensures.cheapest c.in_ok-traced-in-Some.ensures.traced
    c.cheaper_plan.result c.cheaper_plan.ensures
