use Rattle.pb_turn.specs.Passes.{number}
use Rattle.pb_turn.proofs.lock.TurnLock.lower_number.Given as goal

abbrev pub ghosts-lower_number_as : goal.ghosts-lower_number_as
ghosts-lower_number_as g a = record { number = number a.pass.now }
