use Rattle.pb_check.proofs.Written.{texts_have_one_spelling}
use Rattle.pb_check.proofs.laws.texts_have_one_spelling.Goals as goal

pub returns : goal.returns
returns c = texts_have_one_spelling
