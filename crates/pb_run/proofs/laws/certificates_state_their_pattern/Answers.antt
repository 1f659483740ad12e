use Rattle.pb_run.proofs.Stating as law
use Rattle.pb_run.proofs.laws.certificates_state_their_pattern.Goals as goal

pub returns-clause-pattern : goal.returns-clause-pattern
returns-clause-pattern c =
    law.certificates_state_their_pattern
    (law.certificates_state_their_choice c.solve_reads_options.ensures)

pub returns-clause-choice : goal.returns-clause-choice
returns-clause-choice c = law.certificates_state_their_choice c.solve_reads_options.ensures
