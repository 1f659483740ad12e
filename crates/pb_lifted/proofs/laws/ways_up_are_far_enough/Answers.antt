use Rattle.pb_lifted.proofs.FarEnough.{more_steps_of_numbers_change_nothing}
use Rattle.pb_lifted.proofs.NamesUp.{more_steps_change_nothing, object_is_reached, below_is_transitive}
use Rattle.pb_lifted.proofs.laws.ways_up_are_far_enough.Goals as goal

pub returns-clause-numbers : goal.returns-clause-numbers
returns-clause-numbers c = more_steps_of_numbers_change_nothing

pub returns-clause-names : goal.returns-clause-names
returns-clause-names c = more_steps_change_nothing

pub returns-clause-object : goal.returns-clause-object
returns-clause-object c = object_is_reached

pub returns-clause-transitive : goal.returns-clause-transitive
returns-clause-transitive c = below_is_transitive
