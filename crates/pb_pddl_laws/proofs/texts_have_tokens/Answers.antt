use Rattle.pb_pddl_laws.proofs.TokensOf.{texts_have_tokens}
use Rattle.pb_pddl_laws.proofs.texts_have_tokens.Goals as goal

pub returns : goal.returns
returns c = texts_have_tokens
