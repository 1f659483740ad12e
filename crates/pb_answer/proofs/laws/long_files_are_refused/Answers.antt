use Rattle.pb_answer.proofs.Long.{long_files_are_refused}
use Rattle.pb_answer.proofs.laws.long_files_are_refused.Goals as goal

pub returns : goal.returns
returns c = long_files_are_refused
