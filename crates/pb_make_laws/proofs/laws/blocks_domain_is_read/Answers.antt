use Rattle.std.proofs.Common.{ap, is_ok}
use Rattle.pb_make_laws.proofs.SpelledDomain.{blocks_domain_is_tree}
use Rattle.pb_make_laws.proofs.laws.blocks_domain_is_read.Goals as goal

pub returns : goal.returns
returns c = ap is_ok blocks_domain_is_tree
