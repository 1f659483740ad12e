use Rattle.std.proofs.Common.{◌≡◌, ◌++◌, drop, map}
use Rattle.pb_ground.specs.Actions.{action_of}
use Rattle.pb_ground.proofs.actions.add_rows.Given as goal

abbrev pub invariant-loop-row : goal.invariant-loop-row
invariant-loop-row l = l.actions ++ map (λ given. action_of l.atoms l.i l.schema given) (drop l.row-index l.rows) ≡ l.fn.actions ++ map (λ given. action_of l.atoms l.i l.schema given) l.rows
