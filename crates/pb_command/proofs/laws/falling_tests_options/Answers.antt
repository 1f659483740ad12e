use Rattle.pb_command.proofs.SolveReading.{falling_of_owners_refused, falling_with_journal_refused}
use Rattle.pb_command.proofs.laws.falling_tests_options.Goals as goal

pub returns-clause-engine : goal.returns-clause-engine
returns-clause-engine c = falling_of_owners_refused

pub returns-clause-journal : goal.returns-clause-journal
returns-clause-journal c = falling_with_journal_refused
