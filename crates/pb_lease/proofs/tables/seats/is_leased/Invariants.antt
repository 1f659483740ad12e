use Rattle.std.proofs.Common.{◌≡◌, ◌==◌, false}
use Rattle.pb_machine.specs.Tables.{any_below}
use Rattle.pb_machine.specs.Counts.{is_lease_of}
use Rattle.pb_lease.specs.Tables.{seat_of}
use Rattle.pb_lease.proofs.tables.seats.is_leased.Given as goal

abbrev pub invariant-loop-seat : goal.invariant-loop-seat
invariant-loop-seat l = any_below l.seat-index (λ worker. is_lease_of (λ b. b == l.block) (seat_of l.seats worker).grant) ≡ false
