use Rattle.std.proofs.Common.{◌≡◌, false, not}
use Rattle.pb_machine.specs.Tables.{any_below}
use Rattle.pb_journal.specs.Replaying.{counts_of}
use Rattle.pb_journal.proofs.replay.Replay.is_finished.Given as goal

abbrev pub invariant-loop-off : goal.invariant-loop-off
invariant-loop-off l =
    any_below l.off-index (λ worker. not ((counts_of l.self).signed_off worker)) ≡ false
