use Rattle.pb_pddl_laws.proofs.FormsRead.{domain_is, domain_again}
use Rattle.pb_pddl_laws.proofs.domain_reading_is_exact.Goals as goal

pub returns-clause-sound : goal.returns-clause-sound
returns-clause-sound c = domain_is

pub returns-clause-complete : goal.returns-clause-complete
returns-clause-complete c = domain_again
