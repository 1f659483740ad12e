use Rattle.std.proofs.Common.{◌≡◌, ◌==◌, ◌∙◌, sym, ap, length, subst, refl}
use Rattle.pb_model.proofs.Callers.{equal_self}
use Rattle.pb_machine.specs.Counts.{is_lease_of}
use Rattle.pb_machine.proofs.Callers.{any_at}
use Rattle.pb_lease.specs.Tables.{seat_of}
use Rattle.pb_lease.proofs.tables.seats.is_leased.Goals as goal

pub returns-then-grant-block : goal.returns-then-grant-block
returns-then-grant-block c =
    sym (any_at (length c.args.seats.now) c.loop-seat.seat-index (λ worker. is_lease_of (λ b. b == c.args.block) (seat_of c.args.seats.now worker).grant) c.loop-seat-test.true
    (ap (is_lease_of (λ b. b == c.args.block)) c.in-Some.is ∙ subst (λ n. (n == c.args.block) ≡ (c.args.block == c.args.block)) (sym c.if-grant-block.true) refl ∙ equal_self c.args.block))
