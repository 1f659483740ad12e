use Rattle.std.specs.Prelude.{◌≡◌, ◌+◌, ◌≤◌}
use Rattle.pb_turn.specs.Passes.{view, tries, misses, IsResting, IsSamePass}
use Rattle.pb_turn.proofs.lock.TurnLock.enter.Given as goal

abbrev pub invariant-loop : goal.invariant-loop
invariant-loop g l =
    (goal.iterator-loop g).can_next l.iterator' × (goal.iterator-loop g).is_finite l.iterator' × IsSamePass l.initial.pass l.pass × (view l.pass ≡ view l.initial.pass) × IsResting l.pass
    × (misses l.initial.pass ≤ misses l.pass)
    × (tries l.pass + misses l.initial.pass ≡ tries l.initial.pass + misses l.pass)
