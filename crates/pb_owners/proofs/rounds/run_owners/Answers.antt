use Rattle.std.proofs.Common.{◌≡◌, ◌∙◌, ap, sym, subst, arith}
use Rattle.pb_task.specs.declared.parts.TaskParts.{TaskParts}
use Rattle.pb_task.specs.Parts.{IsTask}
use Rattle.pb_task.proofs.Callers.{tasks_are_proper}
use Rattle.pb_abstract.specs.Graph.{AbstractGraph, IsGraphOf}
use Rattle.pb_owners.specs.Owners.{OwnersValue, IsOpening}
use Rattle.pb_owners.specs.contracts.owners.Owners.{the_view}
use Rattle.pb_owners.proofs.Owning.{owners_ended}
use Rattle.pb_owners.proofs.rounds.run_owners.Goals as goal

pub search-requires-clause-plan : goal.search-requires-clause-plan
search-requires-clause-plan g c κs within =
    let opening : IsOpening (the_view c.owners.inside) = subst IsOpening (sym c.owners.view_is) c.requires.opening in
    let some = opening.settings.workers.0 in
    let task : (the_view c.owners.inside).task ≡ c.args.task.now = ap (λ (v : OwnersValue). v.task) c.owners.view_is ∙ c.requires.task in
    let abstraction : (the_view c.owners.inside).abstraction ≡ c.args.abstraction.now = ap (λ (v : OwnersValue). v.abstraction) c.owners.view_is ∙ c.requires.abstraction in
    record {
      abstraction = subst (λ (t : TaskParts). IsGraphOf t c.args.abstraction.now) task (subst (λ (a : AbstractGraph). IsGraphOf (the_view c.owners.inside).task a) abstraction opening.abstraction);
      proper = (tasks_are_proper c.args.task.now c.parts-lawful.ensures.lawful).0;
      weight = opening.settings.weight;
      some = omega arith;
      few = opening.settings.workers.1;
    }

pub returns-clause-end : goal.returns-clause-end
returns-clause-end g c =
    let opening : IsOpening (the_view c.owners.inside) = subst IsOpening (sym c.owners.view_is) c.requires.opening in
    let task : (the_view c.owners.inside).task ≡ c.args.task.now = ap (λ (v : OwnersValue). v.task) c.owners.view_is ∙ c.requires.task in
    let abstraction : (the_view c.owners.inside).abstraction ≡ c.args.abstraction.now = ap (λ (v : OwnersValue). v.abstraction) c.owners.view_is ∙ c.requires.abstraction in
    let e = c.in_ok-end.ensures in
    owners_ended c.in_ok-end.end _ (subst IsTask (sym task) c.parts-lawful.ensures.lawful) opening.settings c.args.task.now c.args.abstraction.now c.in_ok-choice.choice task abstraction (sym c.in_ok-choice.ensures.cases) e.searched e.end e.within
    (let m = e.many in let k = c.in_ok-end.shares.ok.0 in omega arith)
