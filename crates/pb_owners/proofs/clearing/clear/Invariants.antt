use Rattle.pb_mail.specs.Passes.{IsPassOf}
use Rattle.pb_owners.specs.Passing.{KeepsSent}
use Rattle.pb_owners.specs.Rounds.{IsCleared}
use Rattle.pb_owners.proofs.Pairs.{Pairs}
use Rattle.std.proofs.Common.{◌≡◌, ◌≤◌, ℕ}
use Rattle.pb_mail.specs.Passes.{view_at}
use Rattle.pb_owners.proofs.clearing.clear.Given as goal

abbrev pub invariant-loop-at : goal.invariant-loop-at
invariant-loop-at g l = record {
  own : IsPassOf l.post l.pass;
  keeps : KeepsSent l.fn.pass l.pass;
  untouched : (q : ℕ) → l.at ≤ q → (view_at l.pass q).taken ≡ (view_at l.fn.pass q).taken;
  pairs : Pairs l.at (IsCleared l.plan l.fn.pass l.pass) l.fn.seats l.seats;
}
