use Rattle.std.proofs.Common.{◌≡◌, subst}
use Rattle.pb_lease.specs.declared.answer.LeaseReply.{LeaseReply}
use Rattle.pb_lease.specs.declared.answer.LeaseReply.TheVariants.{Leased, Over}
use Rattle.pb_machine.specs.declared.event.End.{End}
use Rattle.pb_lease.specs.LeaseValue.{LeaseValue}
use Rattle.pb_lease.specs.Steps.{LeasesNext, KeepsLeases, end_events}
use Rattle.pb_lease.proofs.graph.LeaseGraph.lease.Goals as goal

leased_same : (a b : LeaseValue) → ◌≡◌ {A = LeaseReply} (Leased a) (Leased b) → a ≡ b
leased_same a b e = cc

over_same : (a b : End) → ◌≡◌ {A = LeaseReply} (Over a) (Over b) → a ≡ b
over_same a b e = cc

pub returns-in-Ok-clause-leased_moment : goal.returns-in-Ok-clause-leased_moment
returns-in-Ok-clause-leased_moment c lease is =
    subst (λ (v : LeaseValue). LeasesNext c.args.self.now v c.lease_block.new.self) (leased_same c.in-Ok.lease lease is) c.in-Ok.ensures.moment

pub returns-else-is_any_out-clause-ended_moment : goal.returns-else-is_any_out-clause-ended_moment
returns-else-is_any_out-clause-ended_moment c end is =
    subst (λ (v : End). KeepsLeases c.args.self.now (end_events c.args.self.now.table.end v) c.end_now.new.self) (over_same c.end_now.result end is) c.end_now.ensures.moment
