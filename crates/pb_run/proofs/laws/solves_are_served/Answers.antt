use Rattle.pb_run.proofs.Heads.{heads_are_short}
use Rattle.pb_run.proofs.SolveRooms.{solves_are_served}
use Rattle.pb_run.proofs.laws.solves_are_served.Goals as goal

pub returns-clause-served : goal.returns-clause-served
returns-clause-served c = solves_are_served c.journal_texts_are_short.ensures

pub returns-clause-heads : goal.returns-clause-heads
returns-clause-heads c = heads_are_short c.tables_are_read_as_written.ensures
