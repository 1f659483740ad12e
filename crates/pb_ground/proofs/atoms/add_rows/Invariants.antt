use Rattle.std.proofs.Common.{◌≡◌, ◌++◌, drop, map}
use Rattle.pb_ground.specs.Atoms.{atom_of}
use Rattle.pb_ground.proofs.atoms.add_rows.Given as goal

abbrev pub invariant-loop-row : goal.invariant-loop-row
invariant-loop-row l = l.atoms ++ map (λ objects. atom_of l.predicate objects) (drop l.row-index l.rows) ≡ l.fn.atoms ++ map (λ objects. atom_of l.predicate objects) l.rows
