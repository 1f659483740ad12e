use Rattle.pb_machine.proofs.Rooms as law
use Rattle.pb_machine.proofs.journal_laws.leases_take_their_room.Goals as goal

pub returns : goal.returns
returns c = law.leases_take_their_room
