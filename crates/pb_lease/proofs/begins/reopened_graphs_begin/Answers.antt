use Rattle.pb_lease.proofs.Beginnings as law
use Rattle.pb_lease.proofs.begins.reopened_graphs_begin.Goals as goal

pub returns : goal.returns
returns c = law.reopened_graphs_begin c.reopening_is_lawful.ensures
