use Rattle.pb_pddl_laws.proofs.Faults.{domain_table, domain_in_table, problem_table, problem_in_table}
use Rattle.pb_pddl_laws.proofs.table_is_the_grammar.Goals as goal

pub returns-clause-domain : goal.returns-clause-domain
returns-clause-domain c = domain_table

pub returns-clause-problem : goal.returns-clause-problem
returns-clause-problem c = problem_table

pub returns-clause-domain_whole : goal.returns-clause-domain_whole
returns-clause-domain_whole c = domain_in_table

pub returns-clause-problem_whole : goal.returns-clause-problem_whole
returns-clause-problem_whole c = problem_in_table
