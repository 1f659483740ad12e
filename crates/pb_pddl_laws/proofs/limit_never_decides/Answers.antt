use Rattle.pb_pddl_laws.proofs.Limits.{domain_limit, problem_limit}
use Rattle.pb_pddl_laws.proofs.limit_never_decides.Goals as goal

pub returns-clause-domain : goal.returns-clause-domain
returns-clause-domain c = domain_limit

pub returns-clause-problem : goal.returns-clause-problem
returns-clause-problem c = problem_limit
