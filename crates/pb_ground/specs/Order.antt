-- The order of the ground atoms: by their predicates, and then by their objects, the first most
-- significant.
use Rattle.std.specs.Prelude.{ℕ, zero, suc, List, [], ◌∷◌, map}
use Rattle.std.specs.List.Sorted.{IsStrictlySortedBy}
use Rattle.std.specs.Ordering.{nat_cmp}
use Rattle.std.specs.Cmp.Lexicographic.{slice_cmp}
use Rattle.pb_ground.specs.declared.atoms.GroundAtom.{GroundAtom}
use Rattle.pb_ground.specs.Pruning.{row_of}

-- each atom is below those after it
abbrev pub AreRising : List GroundAtom → Type 0
AreRising atoms = IsStrictlySortedBy (λ a b. slice_cmp nat_cmp a b) (map row_of atoms)

-- the atom of this number as a row
abbrev pub row_in : List GroundAtom → ℕ → List ℕ
row_in [] k = []
row_in (atom ∷ atoms) zero = row_of atom
row_in (atom ∷ atoms) (suc k) = row_in atoms k
