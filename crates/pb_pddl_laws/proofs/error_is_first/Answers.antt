use Rattle.pb_pddl_laws.proofs.Faults.{domain_fault, problem_fault}
use Rattle.pb_pddl_laws.proofs.error_is_first.Goals as goal

pub returns-clause-domain : goal.returns-clause-domain
returns-clause-domain c = domain_fault

pub returns-clause-problem : goal.returns-clause-problem
returns-clause-problem c = problem_fault
