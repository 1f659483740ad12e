use Rattle.std.proofs.Common.{sym, ◌∙◌, length, get_or, None, ℕ, Option}
use Rattle.pb_machine.specs.declared.event.Grant.{Grant}
use Rattle.pb_machine.specs.Counts.{is_lease_of}
use Rattle.pb_machine.proofs.Callers.{any_at}
use Rattle.pb_abstract.specs.Graph.{blocks_of, has}
use Rattle.pb_journal.proofs.Looking.{busy_is}
use Rattle.pb_journal.proofs.replay.is_busy.Goals as goal

pub returns-then-is_near : goal.returns-then-is_near
returns-then-is_near c =
    let leases : ℕ → Option Grant = λ worker. get_or c.args.leases.now worker None in
    let near = c.interference-near.result.now in
    sym (any_at (length c.args.leases.now) c.loop-lease.lease-index
    (λ worker. is_lease_of (has near) (leases worker)) c.loop-lease-test.true
    (sym c.is_near.ensures ∙ c.if-is_near.true))
    ∙ busy_is (blocks_of c.args.graph.now) c.args.block
    (length c.args.leases.now) leases near c.interference-near.ensures.each
