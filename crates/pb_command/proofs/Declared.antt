-- What a proof unfolds to compute with the declared program at words that are written out.
use Rattle.std.specs.Prelude.{⊤}
use Rattle.clap.proofs.OnLiterals.{clap_on_literals}
use Rattle.pb_command.specs.Parser.{the_program, the_solve, the_check, the_journal, the_make}

unfoldable pub program_on_literals : ⊤
unfolding the_program the_solve the_check the_journal the_make clap_on_literals
program_on_literals = tt
