use Rattle.pb_command.specs.Parser.{the_program}
use Rattle.pb_command.proofs.parser.program.Goals as goal

pub returns-clause-app : goal.returns-clause-app
unfolding the_program
returns-clause-app c =
    let with_solve = c.add_command-with_solve.ensures.app _ _ c.without_commands.ensures.app c.solve.ensures.app in
    let with_check = c.add_command-with_check.ensures.app _ _ with_solve c.check.ensures.app in
    let with_journal = c.add_command-with_journal.ensures.app _ _ with_check c.journal.ensures.app in
    c.add_command.ensures.app _ _ with_journal c.make.ensures.app
