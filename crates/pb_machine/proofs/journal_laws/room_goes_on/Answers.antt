use Rattle.pb_machine.proofs.Rooms as law
use Rattle.pb_machine.proofs.journal_laws.room_goes_on.Goals as goal

pub returns : goal.returns
returns c = law.room_goes_on
