use Rattle.std.proofs.Common.{subst}
use Rattle.pb_model.specs.declared.row.Status.TheVariants.{Closed}
use Rattle.pb_lease.specs.LeaseValue.{with_bundle}
use Rattle.pb_lease.specs.Rows.{SetsStatusAt}
use Rattle.pb_lease.proofs.Callers.{changes, status_set}
use Rattle.pb_expand.proofs.bundles.close.Goals as goal

pub returns-clause-rows : goal.returns-clause-rows
returns-clause-rows c =
    subst (λ block. SetsStatusAt c.args.lease.now (with_bundle c.args.lease.now c.block-block.result c.close_row.new.self) block c.args.state.now Closed) c.block-block.ensures
    (status_set c.args.lease.now c.block-block.result c.bundle_mut.result.now c.close_row.new.self c.bundle_mut.ensures.value c.args.state.now Closed c.close_row.ensures.sets)

pub returns-clause-changes : goal.returns-clause-changes
returns-clause-changes c = changes c.args.lease.now c.block-block.result c.bundle_mut.result.now c.close_row.new.self c.bundle_mut.ensures.value c.close_row.ensures.weight
