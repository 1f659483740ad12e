use Rattle.std.proofs.Common.{◌≡◌, false, None, get_or}
use Rattle.pb_machine.specs.Tables.{any_below}
use Rattle.pb_machine.specs.Counts.{is_lease_of}
use Rattle.pb_abstract.specs.Graph.{has}
use Rattle.pb_journal.proofs.replay.is_busy.Given as goal

abbrev pub invariant-loop-lease : goal.invariant-loop-lease
invariant-loop-lease l =
    any_below l.lease-index (λ worker. is_lease_of (has l.near) (get_or l.leases worker None))
    ≡ false
