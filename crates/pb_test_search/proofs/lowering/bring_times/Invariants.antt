use Rattle.std.specs.Prelude.{◌≡◌}
use Rattle.pb_turn.specs.Passes.{parts, IsResting, IsPassOf}
use Rattle.pb_test_search.proofs.lowering.bring_times.Given as goal

abbrev pub invariant-loop-round : goal.invariant-loop-round
invariant-loop-round l = IsPassOf l.lock l.pass × IsResting l.pass × (parts l.pass ≡ parts l.initial.pass)
