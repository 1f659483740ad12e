use Rattle.pb_command.proofs.SolveReading.{falling_reads}
use Rattle.pb_command.proofs.laws.falling_reads_options.Goals as goal

pub returns : goal.returns
returns c = falling_reads
