use Rattle.std.proofs.Common.{◌∙◌}
use Rattle.pb_command.proofs.MakeReading.{make_is_tested, size_passes, size_refused}
use Rattle.pb_command.proofs.laws.make_reads_options.Goals as goal

pub returns-clause-read : goal.returns-clause-read
returns-clause-read c = λ k seed size arguments are is. make_is_tested k seed size arguments are ∙ size_passes _ is

pub returns-clause-size : goal.returns-clause-size
returns-clause-size c = λ k seed size arguments are out. make_is_tested k seed size arguments are ∙ size_refused _ out
