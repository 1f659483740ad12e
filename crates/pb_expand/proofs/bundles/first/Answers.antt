use Rattle.pb_expand.proofs.Firsts.{first_of_bundle}
use Rattle.pb_expand.proofs.bundles.first.Goals as goal

pub returns-clause-some : goal.returns-clause-some
returns-clause-some c =
    first_of_bundle c.args.lease.now c.block.result c.bundle.result.now c.block.ensures c.bundle.ensures c.requires.weights c.first_row.result c.first_row.ensures.some
