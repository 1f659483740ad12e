use Rattle.std.proofs.Common.{length}
use Rattle.pb_command.proofs.parser.+add_options.Given as goal

abbrev pub decreases-add_options : goal.decreases-add_options
decreases-add_options l = length l.options.now
