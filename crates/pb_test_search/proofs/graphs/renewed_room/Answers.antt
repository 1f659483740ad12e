use Rattle.std.proofs.Common.{is_some, refl, ap, ◌∙◌}
use Rattle.pb_lease.specs.GraphValue.{counts_in}
use Rattle.pb_test_search.proofs.graphs.renewed_room.Goals as goal

pub room-room-requires : goal.room-room-requires
room-room-requires c =
    let kept = (c.in-Kept.ensures.kept c.in-Kept.kept refl).1 in
    ap (λ w. is_some ((counts_in c.renew.new.self).leases w)) c.worker.ensures ∙ ap is_some kept.of_graph.leased

pub release-requires : goal.release-requires
release-requires c = (c.in-Kept.ensures.kept c.in-Kept.kept refl).1.of_graph
