use Rattle.pb_pddl_laws.proofs.Faults.{told_domain, told_problem}
use Rattle.pb_pddl_laws.proofs.told_error_is_read.Goals as goal

pub returns-clause-domain : goal.returns-clause-domain
returns-clause-domain c = told_domain

pub returns-clause-problem : goal.returns-clause-problem
returns-clause-problem c = told_problem
