use Rattle.std.proofs.Common.{sym, is_some, length}
use Rattle.pb_machine.proofs.Callers.{any_at}
use Rattle.pb_lease.specs.Tables.{seat_of}
use Rattle.pb_lease.proofs.tables.seats.is_any_out.Goals as goal

pub returns-then-is_some : goal.returns-then-is_some
returns-then-is_some c =
    sym (any_at (length c.args.seats.now) c.loop-seat.seat-index (λ worker. is_some (seat_of c.args.seats.now worker).grant) c.loop-seat-test.true (sym c.if-is_some.ensures))
