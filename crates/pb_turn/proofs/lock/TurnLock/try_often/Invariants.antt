use Rattle.std.specs.Prelude.{◌≡◌, ◌+◌, ◌≤◌}
use Rattle.pb_turn.specs.Passes.{view, tries, misses, IsResting, IsSamePass}
use Rattle.pb_turn.proofs.lock.TurnLock.try_often.Given as goal

abbrev pub invariant-loop-round : goal.invariant-loop-round
invariant-loop-round g l = IsSamePass l.initial.pass l.pass × (view l.pass ≡ view l.initial.pass) × IsResting l.pass × (misses l.initial.pass ≤ misses l.pass)
    × (tries l.pass + misses l.initial.pass ≡ tries l.initial.pass + misses l.pass)
