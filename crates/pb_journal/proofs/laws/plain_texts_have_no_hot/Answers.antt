use Rattle.pb_journal.proofs.Searched as law
use Rattle.pb_journal.proofs.laws.plain_texts_have_no_hot.Goals as goal

pub returns : goal.returns
returns c = law.plain_texts_have_no_hot
