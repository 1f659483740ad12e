use Rattle.std.proofs.Common.{sym, ◌∙◌, subst}
use Rattle.std.specs.Arc.{arc_value}
use Rattle.pb_task.specs.declared.parts.TaskParts.{TaskParts}
use Rattle.pb_abstract.specs.Projection.{IsFinest}
use Rattle.pb_abstract.specs.Graph.{AbstractGraph, IsGraphOf}
use Rattle.pb_owners.proofs.Leaving.{leaves}
use Rattle.pb_owners.proofs.searching.search_by_owners.Goals as goal

pub returns-clause-left : goal.returns-clause-left
returns-clause-left g c =
    let parts : TaskParts = arc_value c.args.task.now in
    let blocks : AbstractGraph = arc_value c.in_ok-abstraction.abstraction in
    let made = sym c.in_ok-abstraction.ensures.ok in
    let opened = c.in_ok-owners.ensures in
    leaves parts blocks c.args.choice c.args.settings c.requires.range opened.lawful
    (subst (λ (p : TaskParts). IsGraphOf p blocks) c.deref.ensures (subst (λ (a : AbstractGraph). IsGraphOf c.deref.result.now a) made c.in_ok-of.ensures.graph))
    (subst (λ (p : TaskParts). IsFinest p c.args.settings.wish blocks.projection) c.deref.ensures (subst (λ (a : AbstractGraph). IsFinest c.deref.result.now c.args.settings.wish a.projection) made c.in_ok-of.ensures.finest))
    c.in_ok-owners.owners c.run_owners.new.owners opened.task opened.abstraction opened.choice opened.settings opened.opening c.in_ok-end.ensures.same c.in_ok-end.end c.in_ok-end.ensures.end
