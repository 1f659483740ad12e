use Rattle.std.proofs.Common.{◌==◌, ap, ◌∙◌}
use Rattle.pb_machine.specs.Counts.{Counts}
use Rattle.pb_test_search.proofs.graphs.ask_beside.Goals as goal

pub is_told_to_wait-waits-requires-clause-vacant : goal.is_told_to_wait-waits-requires-clause-vacant
is_told_to_wait-waits-requires-clause-vacant c =
    let l = c.in_ok-lease.ensures.leased in
    ap (λ (n : Counts). n.leases 1) l.events.counts ∙ ap (λ (n : Counts). n.leases 1) c.requires.counts

pub is_told_to_wait-waits-requires-clause-stays : goal.is_told_to_wait-waits-requires-clause-stays
is_told_to_wait-waits-requires-clause-stays c =
    let l = c.in_ok-lease.ensures.leased in
    ap (λ (n : Counts). n.signed_off 1) l.events.counts ∙ ap (λ (n : Counts). n.signed_off 1) c.requires.counts

pub release-requires : goal.release-requires
release-requires c =
    let l = c.in_ok-lease.ensures.leased in
    c.is_told_to_wait-waits.ensures.others c.in_ok-lease.lease (ap (λ n. n == 1) l.worker_is) l.of_graph
