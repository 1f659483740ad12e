use Rattle.pb_command.proofs.FromClap.{found_meaning, found_refusal, found_subcommand}
use Rattle.pb_command.proofs.reader.parse.Goals as goal

pub returns-clause-met : goal.returns-clause-met
returns-clause-met c =
    found_subcommand c.in_ok-program.program _ c.in_ok-program.ensures.app c.in_ok-program.ensures.local c.try_get_matches_from.ensures.parsed

pub returns-clause-meaning : goal.returns-clause-meaning
returns-clause-meaning c =
    found_meaning c.in_ok-program.program _ _ c.in_ok-program.ensures.app c.try_get_matches_from.ensures.matches c.try_get_matches_from.ensures.kinds

pub returns-clause-refused : goal.returns-clause-refused
returns-clause-refused c =
    found_refusal c.in_ok-program.program _ _ c.in_ok-program.ensures.app c.try_get_matches_from.ensures.kinds
