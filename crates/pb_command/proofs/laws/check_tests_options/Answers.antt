use Rattle.pb_command.proofs.CheckReading.{loaded_name_refused}
use Rattle.pb_command.proofs.laws.check_tests_options.Goals as goal

pub returns : goal.returns
returns c = loaded_name_refused
