use Rattle.std.proofs.Common.{◌≡◌, true, nat_lt}
use Rattle.std.specs.List.{list_all}
use Rattle.pb_task.specs.Tiles.{IsTiles}
use Rattle.pb_task.proofs.Sliding.{small_numbers}
use Rattle.pb_task.proofs.task.Task.is_goal.Goals as goal

-- the numbers of both boards are small, so those of the one that is packed are
pub is_at-requires-clause-small : goal.is_at-requires-clause-small
is_at-requires-clause-small c =
    let is : IsTiles c.in-Tiles.parts = rw c.in-Tiles.is at c.self.invariant in
    let start : list_all (λ number. nat_lt number 16) c.in-Tiles.parts.start ≡ true = small_numbers c.in-Tiles.parts is c.in-Tiles.parts.start is.start in
    let goal : list_all (λ number. nat_lt number 16) c.in-Tiles.parts.goal ≡ true = small_numbers c.in-Tiles.parts is c.in-Tiles.parts.goal is.goal in
    cc
