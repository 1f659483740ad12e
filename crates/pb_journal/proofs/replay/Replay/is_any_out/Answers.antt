use Rattle.std.proofs.Common.{sym, ap, ◌<◌, ◌∙◌, is_some, length, arith, get_or, None}
use Rattle.pb_machine.proofs.Callers.{any_at}
use Rattle.pb_journal.specs.Replaying.{counts_of}
use Rattle.pb_journal.proofs.replay.Replay.is_any_out.Goals as goal

pub returns-then-is_some : goal.returns-then-is_some
returns-then-is_some c =
    let there : c.loop-lease.lease-index < length c.args.self.now.leases.items =
    omega (arith, c.loop-lease-test.true, ap length c.deref-lease-items.ensures.value) in
    let items = c.deref-lease-items.ensures.value in
    sym (any_at (length c.args.self.now.leases.items) c.loop-lease.lease-index
    (λ worker. is_some ((counts_of c.args.self.now).leases worker)) there
    (ap (λ xs. is_some (get_or xs c.loop-lease.lease-index None)) (sym items)
    ∙ sym c.is_some.ensures ∙ c.if-is_some.true))
