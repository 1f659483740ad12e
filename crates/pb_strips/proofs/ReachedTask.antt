-- The task of what is reached, and why there is none.
use Rattle.std.proofs.Common.{◌≡◌, List, Some, None, Result, Ok, Err, sym, ap, ◌∙◌, subst}
use Rattle.std.specs.Prelude.{IfErr}
use Rattle.pb_pddl.specs.declared.tree.Domain.{Domain}
use Rattle.pb_pddl.specs.declared.tree.Problem.{Problem}
use Rattle.pb_lifted.specs.declared.lifted.Lifted.{Lifted}
use Rattle.pb_lifted.specs.declared.refusal.LiftedError.{LiftedError}
use Rattle.pb_lifted.specs.declared.refusal.LiftedError.TheVariants as lifting
use Rattle.pb_lifted.specs.Lifted.{lifted_of}
use Rattle.pb_lifted.specs.Refusals.{first_refusal, Tells}
use Rattle.pb_lifted.specs.Typing.{IsWellTyped}
use Rattle.pb_lifted.proofs.Callers.{well_typed_is_accepted}
use Rattle.pb_ground.specs.declared.atoms.GroundAtom.{GroundAtom}
use Rattle.pb_ground.specs.Keeping.{AreKept}
use Rattle.pb_reach.specs.declared.error.ReachError.{ReachError}
use Rattle.pb_reach.specs.declared.error.ReachError.TheVariants as reaching
use Rattle.pb_reach.specs.Limits.{IsFirst, IsWithin, TellsReach}
use Rattle.pb_reach.specs.Rounds.{is_reached}
use Rattle.pb_reach.proofs.Callers.{kept_are_ground_atoms}
use Rattle.pb_task.specs.declared.grounding.Grounding.TheVariants.{Reachable}
use Rattle.pb_task.specs.declared.parts.StripsParts.{StripsParts}
use Rattle.pb_strips.specs.declared.error.StripsError.{StripsError}
use Rattle.pb_strips.specs.declared.error.StripsError.TheVariants as errors
use Rattle.pb_strips.specs.Grounding.{strips_by, reached_strips}
use Rattle.pb_strips.specs.Packing.{of_lifted, of_reach}
use Rattle.pb_strips.specs.Refusals.{IsNoFault, TellsReached}

-- parts over the atoms that are reached are the task's
pub reached_parts : (domain : Domain) (problem : Problem) (lifted : Lifted) (atoms : List GroundAtom) (parts : StripsParts) → first_refusal domain problem ≡ None → lifted ≡ lifted_of domain problem
    → AreKept lifted (is_reached lifted) atoms → parts ≡ strips_by domain problem Reachable (is_reached lifted) atoms → parts ≡ reached_strips domain problem
reached_parts domain problem lifted atoms parts none same are is =
    let task : Lifted = lifted_of domain problem in
    let these : AreKept task (is_reached task) atoms = subst (λ (l : Lifted). AreKept l (is_reached l) atoms) same are in
    is ∙ (ap (λ (l : Lifted). strips_by domain problem Reachable (is_reached l) atoms) same ∙ ap (strips_by domain problem Reachable (is_reached task)) (kept_are_ground_atoms domain problem none atoms these))

-- ---- errors

pub tells_lifted : (domain : Domain) (problem : Problem) (e : LiftedError) → Tells (first_refusal domain problem) e → TellsReached domain problem (of_lifted e)
tells_lifted domain problem (lifting.Refused refusal) told = told
tells_lifted domain problem lifting.Memory told = tt

pub tells_reach : (domain : Domain) (problem : Problem) (lifted : Lifted) (e : ReachError) → first_refusal domain problem ≡ None → lifted ≡ lifted_of domain problem → TellsReach lifted e
    → TellsReached domain problem (of_reach e)
tells_reach domain problem lifted (reaching.TooManyAtoms n) none same told = (none, subst (λ (l : Lifted). IsFirst l (reaching.TooManyAtoms n)) same told)
tells_reach domain problem lifted reaching.TooManyActions none same told = (none, subst (λ (l : Lifted). IsFirst l reaching.TooManyActions) same told)
tells_reach domain problem lifted reaching.Stopped none same told = tt
tells_reach domain problem lifted reaching.Memory none same told = tt

-- ---- what is well typed and within the limits is not refused

not_first : {A : Type 0} (lifted : Lifted) (e : ReachError) → IsWithin lifted → IsFirst lifted e → A
not_first lifted e within first = let no : Some e ≡ None = sym first.1 ∙ within first.0 in cc

is_no_fault : (domain : Domain) (problem : Problem) (e : StripsError) → IsWellTyped domain problem → IsWithin (lifted_of domain problem) → TellsReached domain problem e → IsNoFault e
is_no_fault domain problem (errors.Refused refusal) typed within told =
    let no : Some refusal ≡ None = sym told ∙ well_typed_is_accepted domain problem typed in cc
is_no_fault domain problem (errors.TooManyAtoms n) typed within told = not_first (lifted_of domain problem) (reaching.TooManyAtoms n) within told.1
is_no_fault domain problem errors.TooManyActions typed within told = not_first (lifted_of domain problem) reaching.TooManyActions within told.1
is_no_fault domain problem errors.Stopped typed within told = tt
is_no_fault domain problem errors.Memory typed within told = tt

pub never_refused : {X : Type 0} (domain : Domain) (problem : Problem) (r : Result X StripsError) → IfErr r (TellsReached domain problem) → IsWellTyped domain problem
    → IsWithin (lifted_of domain problem) → IfErr r IsNoFault
never_refused domain problem (Ok x) told typed within = tt
never_refused domain problem (Err e) told typed within = is_no_fault domain problem e typed within told
