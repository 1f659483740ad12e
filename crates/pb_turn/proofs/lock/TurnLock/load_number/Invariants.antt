use Rattle.pb_turn.specs.Passes.{number}
use Rattle.pb_turn.proofs.lock.TurnLock.load_number.Given as goal

abbrev pub ghosts-load_number_as : goal.ghosts-load_number_as
ghosts-load_number_as g a = record { number = number a.pass.now }
