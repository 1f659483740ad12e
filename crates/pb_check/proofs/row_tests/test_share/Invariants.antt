use Rattle.std.proofs.Common.{◌≡◌, ℕ, ◌<◌, ◌≤◌, None}
use Rattle.pb_check.specs.Pieces.{tested_at}
use Rattle.pb_check.proofs.row_tests.test_share.Given as goal

abbrev pub invariant-loop-place : goal.invariant-loop-place
invariant-loop-place l = (l.from ≤ l.place) × ((at : ℕ) → l.from ≤ at → at < l.place → tested_at l.test l.task l.line l.rows at ≡ None)
