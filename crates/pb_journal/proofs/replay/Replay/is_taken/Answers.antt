use Rattle.std.proofs.Common.{sym, ap, ◌≡◌, ◌<◌, ◌∙◌, length, arith, get_or, None, false, subst}
use Rattle.pb_machine.specs.Tables.{any_below}
use Rattle.pb_machine.proofs.Callers.{any_at}
use Rattle.pb_abstract.specs.Graph.{blocks_of}
use Rattle.pb_journal.specs.Replaying.{counts_of}
use Rattle.pb_journal.proofs.Looking.{taken_is, meets_self, is_at_or_near}
use Rattle.pb_journal.proofs.replay.Replay.is_taken.Goals as goal

pub returns-then-is_at_or_near : goal.returns-then-is_at_or_near
returns-then-is_at_or_near c =
    let leases = (counts_of c.args.self.now).leases in
    let near = c.interference-near.result.now in
    let each = c.interference-near.ensures.each in
    let there : c.loop-lease.lease-index < length c.args.self.now.leases.items =
    omega (arith, c.loop-lease-test.true, ap length c.deref-lease-items.ensures.value) in
    let here =
    ap (λ xs. is_at_or_near (blocks_of c.args.graph.now) c.args.block
    (length c.args.self.now.leases.items) leases near each
    (get_or xs c.loop-lease.lease-index None)) (sym c.deref-lease-items.ensures.value)
    ∙ sym c.is_at_or_near.ensures ∙ c.if-is_at_or_near.true in
    sym (any_at (length c.args.self.now.leases.items) c.loop-lease.lease-index
    (λ worker. is_at_or_near (blocks_of c.args.graph.now) c.args.block
    (length c.args.self.now.leases.items) leases near each (leases worker)) there here)
    ∙ taken_is (blocks_of c.args.graph.now) c.args.block
    (length c.args.self.now.leases.items) leases near each
    (meets_self c.args.graph.now c.args.block c.requires.graph c.requires.block)

pub returns : goal.returns
returns c =
    let leases = (counts_of c.args.self.now).leases in
    let near = c.interference-near.result.now in
    let each = c.interference-near.ensures.each in
    let all : c.loop-lease.lease-index ≡ length c.args.self.now.leases.items =
    omega (
      arith,
      c.loop-lease-test.false,
      c.loop-lease.auto.lease-index-end,
      ap length c.deref-lease-items.ensures.value,
    ) in
    sym (subst
    (λ n. any_below n
    (λ worker. is_at_or_near (blocks_of c.args.graph.now) c.args.block
    (length c.args.self.now.leases.items) leases near each (leases worker)) ≡ false) all
    c.loop-lease.invariant)
    ∙ taken_is (blocks_of c.args.graph.now) c.args.block
    (length c.args.self.now.leases.items) leases near each
    (meets_self c.args.graph.now c.args.block c.requires.graph c.requires.block)
