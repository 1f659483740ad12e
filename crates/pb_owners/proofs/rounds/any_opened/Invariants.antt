use Rattle.std.proofs.Common.{◌<◌, ℕ}
use Rattle.pb_model.specs.Store.{HasOpened}
use Rattle.pb_owners.specs.Shares.{seat_at}
use Rattle.pb_owners.proofs.rounds.any_opened.Given as goal

abbrev pub invariant-loop-at : goal.invariant-loop-at
invariant-loop-at l = (i : ℕ) → i < l.at → HasOpened (seat_at l.seats i).part → ⊥
