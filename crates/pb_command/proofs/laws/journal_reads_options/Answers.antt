use Rattle.pb_command.proofs.JournalReading.{journal_reads}
use Rattle.pb_command.proofs.laws.journal_reads_options.Goals as goal

pub returns : goal.returns
returns c = journal_reads
