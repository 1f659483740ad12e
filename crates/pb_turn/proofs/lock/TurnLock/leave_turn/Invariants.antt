use Rattle.std.specs.Prelude.{Some}
use Rattle.pb_turn.specs.Passes.{view}
use Rattle.pb_turn.proofs.lock.TurnLock.leave_turn.Given as goal

abbrev pub ghosts-leave_turn_as : goal.ghosts-leave_turn_as
ghosts-leave_turn_as g a = record { next = Some (g.M.Leaving.after a.said.now a.found.now.value a.leaves.now.value (view a.pass.now)) }
