use Rattle.pb_check.proofs.LastShare.{others_have}
use Rattle.pb_check.proofs.sharing.last_share.Goals as goal

pub returns-clause-others : goal.returns-clause-others
returns-clause-others c = λ least enough. others_have c.args.from c.args.to c.args.shares least c.requires.range c.requires.shares enough
