use Rattle.pb_turn.specs.Passes.{number}
use Rattle.pb_turn.proofs.lock.TurnLock.try_turn.Given as goal

abbrev pub ghosts-try_turn_as : goal.ghosts-try_turn_as
ghosts-try_turn_as g a = record { number = number a.pass.now }
