use Rattle.std.proofs.Common.{sym, ◌∙◌, subst}
use Rattle.pb_model.specs.declared.row.Status.TheVariants.{Cut}
use Rattle.pb_lease.specs.LeaseValue.{with_bundle}
use Rattle.pb_lease.specs.Rows.{SetsStatusAt}
use Rattle.pb_lease.proofs.Callers.{changes, own_is, status_set, fewer_opened}
use Rattle.pb_expand.proofs.bundles.cut.Goals as goal

pub returns-clause-rows : goal.returns-clause-rows
returns-clause-rows c =
    subst (λ block. SetsStatusAt c.args.lease.now (with_bundle c.args.lease.now c.block-block.result c.cut_row.new.self) block c.args.state.now Cut) c.block-block.ensures
    (status_set c.args.lease.now c.block-block.result c.bundle_mut.result.now c.cut_row.new.self c.bundle_mut.ensures.value c.args.state.now Cut c.cut_row.ensures.sets)

pub returns-clause-changes : goal.returns-clause-changes
returns-clause-changes c = changes c.args.lease.now c.block-block.result c.bundle_mut.result.now c.cut_row.new.self c.bundle_mut.ensures.value c.cut_row.ensures.weight

pub returns-clause-fewer : goal.returns-clause-fewer
returns-clause-fewer c =
    let found = sym (own_is c.args.lease.now c.block-block.result c.bundle_mut.result.now c.cut_row.new.self c.bundle_mut.ensures.value (sym c.block-block.ensures) c.args.state.now) ∙ c.requires.1 in
    fewer_opened c.args.lease.now c.block-block.result c.bundle_mut.result.now c.cut_row.new.self c.bundle_mut.ensures.value (sym c.block-block.ensures) c.args.state.now c.requires.0 found c.requires.2
    (c.cut_row.ensures.put c.requires.0 found)
