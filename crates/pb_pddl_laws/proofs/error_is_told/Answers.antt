use Rattle.pb_pddl_laws.proofs.Faults.{domain_told, problem_told}
use Rattle.pb_pddl_laws.proofs.error_is_told.Goals as goal

pub returns-clause-domain : goal.returns-clause-domain
returns-clause-domain c = domain_told

pub returns-clause-problem : goal.returns-clause-problem
returns-clause-problem c = problem_told
