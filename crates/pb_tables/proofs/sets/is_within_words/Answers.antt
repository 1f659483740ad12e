use Rattle.pb_packed.specs.Words.{number_of}
use Rattle.pb_tables.proofs.AtomSets.{within_is}
use Rattle.pb_tables.proofs.sets.is_within_words.Goals as goal

pub returns : goal.returns
returns c = within_is c.are_within.result c.args.count (number_of c.args.small.now) (number_of c.args.large.now) c.requires.bits c.are_within.ensures
