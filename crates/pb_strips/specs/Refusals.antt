-- Why a domain and a problem are no task: the first cause in order.
use Rattle.std.specs.Prelude.{◌≡◌, ◌≤◌, nat_lt, if◌then◌else◌, length, Option, Some, None, option_map}
use Rattle.pb_packed.specs.Sizes.{most_atoms}
use Rattle.pb_pddl.specs.declared.tree.Domain.{Domain}
use Rattle.pb_pddl.specs.declared.tree.Problem.{Problem}
use Rattle.pb_lifted.specs.declared.lifted.Lifted.{Lifted}
use Rattle.pb_lifted.specs.declared.refusal.TypingRefusal.{TypingRefusal}
use Rattle.pb_lifted.specs.Lifted.{lifted_of}
use Rattle.pb_lifted.specs.Refusals.{first_refusal}
use Rattle.pb_ground.specs.Atoms.{ground_atoms}
use Rattle.pb_ground.specs.Actions.{ground_actions}
use Rattle.pb_ground.specs.Errors.{told}
use Rattle.pb_ground.specs.Looks.{LooksValue, IsSpent}
use Rattle.pb_reach.specs.declared.error.ReachError.TheVariants as reaching
use Rattle.pb_reach.specs.Limits.{IsFirst, IsWithin, reach_refusal}
use Rattle.pb_task.specs.declared.grounding.Grounding.{Grounding}
use Rattle.pb_task.specs.declared.grounding.Grounding.TheVariants.{All, Reachable}
use Rattle.pb_strips.specs.declared.error.StripsError.{StripsError}
use Rattle.pb_strips.specs.declared.error.StripsError.TheVariants as errors
use Rattle.pb_strips.specs.Packing.{of_reach}

-- more ground atoms than a task may have, or else more than 65,536 ground actions
abbrev pub too_many : Lifted → Option StripsError
too_many lifted =
    if nat_lt most_atoms (length (ground_atoms lifted)) then Some
    (errors.TooManyAtoms (told (length (ground_atoms lifted))))
    else (if nat_lt 65536 (length (ground_actions lifted (ground_atoms lifted)))
    then Some errors.TooManyActions else None)

abbrev pub or_too_many : Option TypingRefusal → Lifted → Option StripsError
or_too_many (Some refusal) lifted = Some (errors.Refused refusal)
or_too_many None lifted = too_many lifted

-- names, their types and costs are judged first, and then the numbers of atoms and actions
abbrev pub first_fault : Domain → Problem → Option StripsError
first_fault domain problem = or_too_many (first_refusal domain problem) (lifted_of domain problem)

-- an error reports the first fault, unless memory or looks ran out
abbrev pub Tells : Option StripsError → StripsError → Type 0
Tells fault (errors.Refused refusal) = fault ≡ Some (errors.Refused refusal)
Tells fault (errors.TooManyAtoms n) = fault ≡ Some (errors.TooManyAtoms n)
Tells fault errors.TooManyActions = fault ≡ Some errors.TooManyActions
Tells fault errors.Stopped = Unit {0}
Tells fault errors.Memory = Unit {0}

-- as many ground atoms as a task may have, at most, and at most 65,536 ground actions
abbrev pub IsWithinLimits : Domain → Problem → Type 0
IsWithinLimits domain problem =
    (length (ground_atoms (lifted_of domain problem)) ≤ most_atoms)
    × (length (ground_actions (lifted_of domain problem) (ground_atoms (lifted_of domain problem)))
    ≤ 65536)

-- ---- if only what is reached has numbers

-- Names, their types and costs are judged first, and then round by round the numbers of actions and
-- of atoms. An error reports the first cause, unless memory or looks ran out.
abbrev pub TellsReached : Domain → Problem → StripsError → Type 0
TellsReached domain problem (errors.Refused refusal) = first_refusal domain problem ≡ Some refusal
TellsReached domain problem (errors.TooManyAtoms n) =
    (first_refusal domain problem ≡ None)
    × IsFirst (lifted_of domain problem) (reaching.TooManyAtoms n)
TellsReached domain problem errors.TooManyActions =
    (first_refusal domain problem ≡ None)
    × IsFirst (lifted_of domain problem) reaching.TooManyActions
TellsReached domain problem errors.Stopped = Unit {0}
TellsReached domain problem errors.Memory = Unit {0}

-- that first cause, if there is one
abbrev pub or_reach_refusal : Option TypingRefusal → Lifted → Option StripsError
or_reach_refusal (Some refusal) lifted = Some (errors.Refused refusal)
or_reach_refusal None lifted = option_map of_reach (reach_refusal lifted)

-- ---- the same by the grounding

-- the first cause why there is no task of this grounding
abbrev pub fault_with : Grounding → Domain → Problem → Option StripsError
fault_with All domain problem = first_fault domain problem
fault_with Reachable domain problem =
    or_reach_refusal (first_refusal domain problem) (lifted_of domain problem)

-- the ground atoms and actions of this grounding are within the limits, and so are those of each
-- round
abbrev pub IsWithinLimitsWith : Grounding → Domain → Problem → Type 0
IsWithinLimitsWith All domain problem = IsWithinLimits domain problem
IsWithinLimitsWith Reachable domain problem = IsWithin (lifted_of domain problem)

-- ---- a stop

-- No fault comes before a stop: nothing is refused and, if all ground atoms have numbers, they are
-- as many as a task may have, at most.
abbrev pub HasNoFaultBefore : Grounding → Domain → Problem → Type 0
HasNoFaultBefore All domain problem =
    (first_refusal domain problem ≡ None)
    × (length (ground_atoms (lifted_of domain problem)) ≤ most_atoms)
HasNoFaultBefore Reachable domain problem = first_refusal domain problem ≡ None

-- an error after these looks: a stop comes only if no look is left, and no fault comes before it
abbrev pub TellsStop : Grounding → Domain → Problem → LooksValue → StripsError → Type 0
TellsStop grounding domain problem looks (errors.Refused refusal) = Unit {0}
TellsStop grounding domain problem looks (errors.TooManyAtoms n) = Unit {0}
TellsStop grounding domain problem looks errors.TooManyActions = Unit {0}
TellsStop grounding domain problem looks errors.Stopped =
    IsSpent looks × HasNoFaultBefore grounding domain problem
TellsStop grounding domain problem looks errors.Memory = Unit {0}

-- an error that is no fault: a stop, or that memory ran out
abbrev pub IsNoFault : StripsError → Type 0
IsNoFault (errors.Refused refusal) = ⊥
IsNoFault (errors.TooManyAtoms n) = ⊥
IsNoFault errors.TooManyActions = ⊥
IsNoFault errors.Stopped = Unit {0}
IsNoFault errors.Memory = Unit {0}

-- ---- a law

-- Where all ground atoms and actions are a task, those that are reached are one.
abbrev pub ReachedIsAccepted : Type 0
ReachedIsAccepted =
    (domain : Domain) (problem : Problem) → first_fault domain problem ≡ None
    → fault_with Reachable domain problem ≡ None
