use Rattle.std.proofs.Common.{ap, ◌∙◌, subst}
use Rattle.pb_lease.specs.Tables.{rooms}
use Rattle.pb_lease.specs.LeaseValue.{LeaseValue}
use Rattle.pb_lease.specs.GraphValue.{GraphValue}
use Rattle.pb_lease.specs.Choices.{IsChoiceWithHome}
use Rattle.pb_lease.proofs.GoingOn.{comes_back}
use Rattle.pb_lease.proofs.graph.LeaseGraph.going.Goals as goal

pub returns-else-stays-room-2-clause-back : goal.returns-else-stays-room-2-clause-back
returns-else-stays-room-2-clause-back c is =
    let g : GraphValue = c.args.self.now in
    let lease : LeaseValue = c.args.lease.now in
    comes_back g lease g c.in-Some.block c.lease.inside.block c.room-room.result (ap (λ (l : LeaseValue). l.block) c.lease.view_is)
    (c.room-room.ensures ∙ ap (λ (v : GraphValue). rooms v.table c.lease.inside.worker) c.self.view_is ∙ ap (λ (l : LeaseValue). rooms g.table l.worker) c.lease.view_is)
    (subst (IsChoiceWithHome g lease g) c.in-Some.is c.choice_with_home.ensures) c.if-stays-room.false c.if-stays-room-2.false
