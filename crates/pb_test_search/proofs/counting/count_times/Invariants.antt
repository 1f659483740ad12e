use Rattle.std.specs.Prelude.{◌≡◌, ◌+◌, ◌≤◌}
use Rattle.pb_turn.specs.Passes.{view, parts, IsResting, IsPassOf}
use Rattle.pb_test_search.proofs.counting.count_times.Given as goal

abbrev pub invariant-loop : goal.invariant-loop
invariant-loop g l = IsPassOf l.lock l.pass × IsResting l.pass × (parts l.pass ≡ parts l.initial.pass) × (view l.pass ≡ view l.initial.pass + l.counts) × (l.counts ≤ l.counter)
