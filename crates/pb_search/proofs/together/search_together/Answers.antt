use Rattle.std.proofs.Common.{◌≡◌, Some, inl, inr, sym, ap, ◌∙◌, subst}
use Rattle.pb_machine.specs.declared.event.End.TheVariants.{Quiet, Budget}
use Rattle.pb_workers.specs.Teams.{KeepsSearch}
use Rattle.pb_yard.specs.declared.view.View.{View}
use Rattle.pb_yard.specs.Views.{opening_view}
use Rattle.pb_yard.specs.Marking.{turn_of}
use Rattle.pb_yard.specs.Passes.{view_of}
use Rattle.pb_yard.proofs.Callers.{closed_in_order}
use Rattle.pb_search.proofs.Ending.{first_of, yard_ran}
use Rattle.pb_search.proofs.together.search_together.Goals as goal

pub run_workers-requires-clause-choice : goal.run_workers-requires-clause-choice
run_workers-requires-clause-choice g c _ _ =
    ap (λ (u : View). u.choice) c.in-Ok.ensures.view ∙ sym (c.in_ok-choice.ensures.cases ∙ c.choice.ensures.choice)

pub returns-in-Some-Quiet : goal.returns-in-Some-Quiet
returns-in-Some-Quiet g c =
    let same : view_of c.in-Ok.pass ≡ opening_view c.args.opening = c.in-Ok.ensures.view in
    let last = view_of c.in-Ok-run_workers.pass in
    let keeps : KeepsSearch (opening_view c.args.opening) last = subst (λ (v : View). KeepsSearch v last) same c.in-Ok-run_workers.ensures.search in
    let end : c.close-graph.result.table.end ≡ Some Quiet = cc in
    yard_ran c.args.opening (first_of c.args.opening c.requires.begin) last keeps c.close-graph.result (closed_in_order last c.close-graph.result keeps.left_order c.close-graph.ensures.closed)
    c.abstraction-lawful.ensures.lawful c.journal-events.ensures.within (inl end) (c.in-Ok-run_workers.ensures.marks (ap (λ (u : View). turn_of u.journal.own.events) same))

pub returns-in-Some-Budget : goal.returns-in-Some-Budget
returns-in-Some-Budget g c =
    let same : view_of c.in-Ok.pass ≡ opening_view c.args.opening = c.in-Ok.ensures.view in
    let last = view_of c.in-Ok-run_workers.pass in
    let keeps : KeepsSearch (opening_view c.args.opening) last = subst (λ (v : View). KeepsSearch v last) same c.in-Ok-run_workers.ensures.search in
    let end : c.close-graph.result.table.end ≡ Some Budget = cc in
    yard_ran c.args.opening (first_of c.args.opening c.requires.begin) last keeps c.close-graph.result (closed_in_order last c.close-graph.result keeps.left_order c.close-graph.ensures.closed)
    c.abstraction-lawful.ensures.lawful c.journal-events.ensures.within (inr end) (c.in-Ok-run_workers.ensures.marks (ap (λ (u : View). turn_of u.journal.own.events) same))
