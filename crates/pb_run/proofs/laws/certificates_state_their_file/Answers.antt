use Rattle.pb_run.proofs.Stating as law
use Rattle.pb_run.proofs.StatingTables as tables
use Rattle.pb_run.proofs.laws.certificates_state_their_file.Goals as goal

pub returns : goal.returns
returns c =
    tables.certificates_state_their_file c.tables_are_read_as_written.ensures
    (law.certificates_state_their_choice c.solve_reads_options.ensures)
