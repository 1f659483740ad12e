use Rattle.pb_pddl_laws.proofs.NamesAreWords.{domain_has_words, problem_has_words}
use Rattle.pb_pddl_laws.proofs.names_are_words.Goals as goal

pub returns-clause-domain : goal.returns-clause-domain
returns-clause-domain c = domain_has_words

pub returns-clause-problem : goal.returns-clause-problem
returns-clause-problem c = problem_has_words
