-- Why there is no grounding.
use Rattle.std.specs.Prelude.{◌≡◌, ◌<◌, ℕ, min, length}
use Rattle.pb_packed.specs.Sizes.{most_atoms}
use Rattle.pb_lifted.specs.declared.lifted.Lifted.{Lifted}
use Rattle.pb_ground.specs.declared.error.GroundError.{GroundError}
use Rattle.pb_ground.specs.declared.error.GroundError.TheVariants as errors
use Rattle.pb_ground.specs.Atoms.{ground_atoms}

-- a number of atoms, or the greatest of 32 bits if it is greater
abbrev pub told : ℕ → ℕ
told n = min n 4294967295

-- an error of the atoms: there are more than a task may have, and it reports their number, unless
-- memory ran out
abbrev pub TellsAtoms : Lifted → GroundError → Type 0
TellsAtoms lifted (errors.TooManyAtoms n) =
    (most_atoms < length (ground_atoms lifted)) × (n ≡ told (length (ground_atoms lifted)))
TellsAtoms lifted errors.TooManyActions = ⊥
TellsAtoms lifted errors.Stopped = ⊥
TellsAtoms lifted errors.Memory = Unit {0}
