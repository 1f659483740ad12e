use Rattle.pb_command.proofs.SolveReading.{solve_reads}
use Rattle.pb_command.proofs.laws.solve_reads_options.Goals as goal

pub returns : goal.returns
returns c = solve_reads
