use Rattle.pb_pddl_laws.proofs.TokensOf.{tokens_are_unique}
use Rattle.pb_pddl_laws.proofs.tokens_are_unique.Goals as goal

pub returns : goal.returns
returns c = tokens_are_unique
