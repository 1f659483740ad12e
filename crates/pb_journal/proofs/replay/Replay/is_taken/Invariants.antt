use Rattle.std.proofs.Common.{◌≡◌, ◌==◌, ◌||◌, false}
use Rattle.pb_machine.specs.Tables.{any_below}
use Rattle.pb_machine.specs.Counts.{is_lease_of}
use Rattle.pb_abstract.specs.Graph.{has}
use Rattle.pb_journal.specs.Replaying.{counts_of}
use Rattle.pb_journal.proofs.replay.Replay.is_taken.Given as goal

abbrev pub invariant-loop-lease : goal.invariant-loop-lease
invariant-loop-lease l =
    any_below l.lease-index
    (λ worker. is_lease_of (λ other. other == l.block) ((counts_of l.self).leases worker)
    || is_lease_of (has l.near) ((counts_of l.self).leases worker)) ≡ false
