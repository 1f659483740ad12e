use Rattle.pb_pddl_laws.proofs.FormsRead.{problem_is, problem_again}
use Rattle.pb_pddl_laws.proofs.problem_reading_is_exact.Goals as goal

pub returns-clause-sound : goal.returns-clause-sound
returns-clause-sound c = problem_is

pub returns-clause-complete : goal.returns-clause-complete
returns-clause-complete c = problem_again
