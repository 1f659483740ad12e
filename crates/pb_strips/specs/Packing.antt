-- Lists of numbers of atoms, and the errors of the layers below.
use Rattle.std.specs.Prelude.{◌<◌, ℕ, List, All}
use Rattle.pb_lifted.specs.declared.refusal.LiftedError.{LiftedError}
use Rattle.pb_lifted.specs.declared.refusal.LiftedError.TheVariants as lifted
use Rattle.pb_ground.specs.declared.actions.ActionInstance.{ActionInstance}
use Rattle.pb_ground.specs.declared.error.GroundError.{GroundError}
use Rattle.pb_ground.specs.declared.error.GroundError.TheVariants as grounding
use Rattle.pb_reach.specs.declared.error.ReachError.{ReachError}
use Rattle.pb_reach.specs.declared.error.ReachError.TheVariants as reaching
use Rattle.pb_strips.specs.declared.error.StripsError.{StripsError}
use Rattle.pb_strips.specs.declared.error.StripsError.TheVariants as errors

-- these are numbers of the first `count` atoms
abbrev pub AreAtoms : (count : ℕ) → List ℕ → Type 0
AreAtoms count numbers = All (λ n. n < count) numbers

pub record HasAtoms (count : ℕ) (action : ActionInstance) : Type 0 where
  pub needs : AreAtoms count action.needs
  pub adds : AreAtoms count action.adds
  pub deletes : AreAtoms count action.deletes

-- ---- errors of the layers below

abbrev pub of_lifted : LiftedError → StripsError
of_lifted (lifted.Refused refusal) = errors.Refused refusal
of_lifted lifted.Memory = errors.Memory

abbrev pub of_ground : GroundError → StripsError
of_ground (grounding.TooManyAtoms n) = errors.TooManyAtoms n
of_ground grounding.TooManyActions = errors.TooManyActions
of_ground grounding.Stopped = errors.Stopped
of_ground grounding.Memory = errors.Memory

abbrev pub of_reach : ReachError → StripsError
of_reach (reaching.TooManyAtoms n) = errors.TooManyAtoms n
of_reach reaching.TooManyActions = errors.TooManyActions
of_reach reaching.Stopped = errors.Stopped
of_reach reaching.Memory = errors.Memory
