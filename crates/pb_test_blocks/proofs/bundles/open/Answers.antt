use Rattle.pb_bundles.proofs.Callers.{changes_are_apart}
use Rattle.pb_test_blocks.proofs.bundles.open.Goals as goal

pub returns : goal.returns
returns c = (changes_are_apart c.args.parts.now.parts c.args.block c.offer.new.self c.requires).0
