use Rattle.pb_command.proofs.OutOfForm.{out_of_range, given_twice, flag_twice, help_refused, seed_refused}
use Rattle.pb_command.proofs.laws.options_out_of_form_are_refused.Goals as goal

pub returns-clause-range : goal.returns-clause-range
returns-clause-range c = out_of_range

pub returns-clause-twice : goal.returns-clause-twice
returns-clause-twice c = given_twice

pub returns-clause-flag : goal.returns-clause-flag
returns-clause-flag c = flag_twice

pub returns-clause-help : goal.returns-clause-help
returns-clause-help c = help_refused

pub returns-clause-seed : goal.returns-clause-seed
returns-clause-seed c = seed_refused
