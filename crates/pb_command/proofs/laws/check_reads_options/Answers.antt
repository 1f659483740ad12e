use Rattle.pb_command.proofs.CheckReading.{check_reads}
use Rattle.pb_command.proofs.laws.check_reads_options.Goals as goal

pub returns : goal.returns
returns c = check_reads
