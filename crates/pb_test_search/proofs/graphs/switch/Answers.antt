use Rattle.std.proofs.Common.{is_some, refl, ap, ◌∙◌}
use Rattle.pb_lease.specs.GraphValue.{counts_in}
use Rattle.pb_test_search.proofs.graphs.switch.Goals as goal

pub room-room-requires : goal.room-room-requires
room-room-requires c =
    let switched = (c.in-Switched.ensures.switched c.in-Switched.next refl).1 in
    ap (λ w. is_some ((counts_in c.try_switch.new.self).leases w)) c.worker.ensures ∙ ap is_some switched.of_graph.leased

pub renewed_room-requires : goal.renewed_room-requires
renewed_room-requires c = (c.in-Switched.ensures.switched c.in-Switched.next refl).1.of_graph

pub release-requires : goal.release-requires
release-requires c = (c.in-Kept.ensures.kept c.in-Kept.kept refl).1.of_graph
