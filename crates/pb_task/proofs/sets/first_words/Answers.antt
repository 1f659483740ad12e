use Rattle.pb_task.proofs.FlatWords.{held_by, taken}
use Rattle.pb_task.proofs.sets.first_words.Goals as goal

pub returns-else-set-clause-set : goal.returns-else-set-clause-set
returns-else-set-clause-set g c = held_by _ g.row.W c.args.set.now c.requires.words c.requires.fits

pub returns-else-set-clause-words : goal.returns-else-set-clause-words
returns-else-set-clause-words g c = taken g.row.W c.args.set.now c.requires.words
