use Rattle.std.proofs.Common.{length}
use Rattle.pb_command.proofs.parser.+add_flags.Given as goal

abbrev pub decreases-add_flags : goal.decreases-add_flags
decreases-add_flags l = length l.flags.now
