use Rattle.pb_machine.proofs.LegalEvents as law
use Rattle.pb_machine.proofs.journal_laws.leases_are_of_workers.Goals as goal

pub returns : goal.returns
returns c = law.leases_are_of_workers
