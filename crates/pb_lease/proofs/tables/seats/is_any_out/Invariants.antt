use Rattle.std.proofs.Common.{◌≡◌, false, is_some}
use Rattle.pb_machine.specs.Tables.{any_below}
use Rattle.pb_lease.specs.Tables.{seat_of}
use Rattle.pb_lease.proofs.tables.seats.is_any_out.Given as goal

abbrev pub invariant-loop-seat : goal.invariant-loop-seat
invariant-loop-seat l = any_below l.seat-index (λ worker. is_some (seat_of l.seats worker).grant) ≡ false
