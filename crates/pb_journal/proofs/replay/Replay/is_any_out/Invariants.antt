use Rattle.std.proofs.Common.{◌≡◌, false, is_some}
use Rattle.pb_machine.specs.Tables.{any_below}
use Rattle.pb_journal.specs.Replaying.{counts_of}
use Rattle.pb_journal.proofs.replay.Replay.is_any_out.Given as goal

abbrev pub invariant-loop-lease : goal.invariant-loop-lease
invariant-loop-lease l =
    any_below l.lease-index (λ worker. is_some ((counts_of l.self).leases worker)) ≡ false
