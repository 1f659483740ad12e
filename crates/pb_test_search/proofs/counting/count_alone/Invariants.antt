use Rattle.std.specs.Prelude.{◌≡◌, ◌≤◌}
use Rattle.pb_turn.specs.Passes.{view, parts, whole, IsResting, IsPassOf}
use Rattle.pb_test_search.proofs.counting.count_alone.Given as goal

abbrev pub invariant-loop : goal.invariant-loop
invariant-loop l = IsPassOf l.lock l.pass × IsResting l.pass × (parts l.pass ≡ whole) × (view l.pass ≡ l.counts) × (l.counts ≤ l.counter)
