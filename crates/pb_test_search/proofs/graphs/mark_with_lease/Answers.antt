use Rattle.std.proofs.Common.{is_some, ap, ◌∙◌}
use Rattle.pb_lease.specs.GraphValue.{counts_in}
use Rattle.pb_test_search.proofs.graphs.mark_with_lease.Goals as goal

pub rival-rival-requires : goal.rival-rival-requires
rival-rival-requires c = c.in_ok-lease.ensures.leased.of_graph.leased

pub mark-answers-requires : goal.mark-answers-requires
mark-answers-requires c = c.in_ok-lease.ensures.leased.of_graph

pub room-room-requires : goal.room-room-requires
room-room-requires c = ap (λ w. is_some ((counts_in c.mark-answers.new.graph).leases w)) c.worker.ensures ∙ ap is_some c.mark-answers.ensures.leased

pub release-requires : goal.release-requires
release-requires c = c.mark-answers.ensures
