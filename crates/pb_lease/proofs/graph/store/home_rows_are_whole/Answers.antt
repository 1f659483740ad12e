use Rattle.pb_lease.proofs.AtHome as law
use Rattle.pb_lease.proofs.graph.store.home_rows_are_whole.Goals as goal

pub returns : goal.returns
returns c = law.home_rows_are_whole
