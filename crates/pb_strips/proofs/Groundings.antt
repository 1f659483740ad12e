-- The task of each grounding, and why there is none.
use Rattle.std.proofs.Common.{◌≡◌, ◌≤◌, ℕ, Bool, true, false, cond, nat_lt, List, length, map, Option, Some, None, option_map, Result, Ok, Err, refl, sym, ap, ◌∙◌}
use Rattle.std.proofs.lemmas.Bool.{ltb-false}
use Rattle.std.specs.Prelude.{IfErr, OnOk}
use Rattle.pb_packed.specs.Sizes.{most_atoms}
use Rattle.pb_model.specs.Plan as packed
use Rattle.pb_pddl.specs.declared.tree.Domain.{Domain}
use Rattle.pb_pddl.specs.declared.tree.Problem.{Problem}
use Rattle.pb_lifted.specs.declared.lifted.Lifted.{Lifted}
use Rattle.pb_lifted.specs.declared.refusal.TypingRefusal.{TypingRefusal}
use Rattle.pb_lifted.specs.Lifted.{lifted_of}
use Rattle.pb_lifted.specs.Plans.{NamedAction, IsPlan, plan_cost}
use Rattle.pb_lifted.specs.Refusals.{first_refusal}
use Rattle.pb_lifted.specs.Typing.{IsWellTyped}
use Rattle.pb_lifted.proofs.Callers.{well_typed_is_accepted}
use Rattle.pb_ground.specs.Actions.{ground_actions}
use Rattle.pb_ground.specs.Atoms.{ground_atoms}
use Rattle.pb_ground.specs.Errors as ground
use Rattle.pb_reach.specs.declared.error.ReachError.{ReachError}
use Rattle.pb_reach.specs.declared.error.ReachError.TheVariants as reaching
use Rattle.pb_reach.specs.Limits.{IsWithin, reach_refusal}
use Rattle.pb_reach.specs.Rounds.{is_reached}
use Rattle.pb_reach.proofs.Callers.{all_are_more, no_refusal_is_within, reached_is_keeping, refusal_is_first}
use Rattle.pb_task.specs.declared.grounding.Grounding.{Grounding}
use Rattle.pb_task.specs.declared.grounding.Grounding.TheVariants.{All, Reachable}
use Rattle.pb_task.specs.Strips.{name_in, strips_space}
use Rattle.pb_strips.specs.declared.error.StripsError.{StripsError}
use Rattle.pb_strips.specs.declared.error.StripsError.TheVariants as errors
use Rattle.pb_strips.specs.Correspondence.{GroundedPlansAreByNames, PlansAreByNames}
use Rattle.pb_strips.specs.Grounding.{strips_with}
use Rattle.pb_strips.specs.Names.{action_text}
use Rattle.pb_strips.specs.Naming.{GroundedNamesTellActions}
use Rattle.pb_strips.specs.Packing.{of_reach}
use Rattle.pb_strips.specs.Refusals.{fault_with, first_fault, or_reach_refusal, or_too_many, too_many, IsWithinLimits, IsWithinLimitsWith, ReachedIsAccepted, Tells, TellsReached}
use Rattle.pb_strips.proofs.Never.{no_fault}
use Rattle.pb_strips.proofs.PlansAgree.{all_plans, kept_plans}
use Rattle.pb_strips.proofs.StepsAgree.{accepted}
use Rattle.pb_strips.proofs.Telling.{names_tell_actions, kept_names_tell_actions}

-- ---- nothing is at fault

none_refused : (refusal : Option TypingRefusal) (lifted : Lifted) → or_reach_refusal refusal lifted ≡ None → refusal ≡ None
none_refused None lifted e = refl
none_refused (Some refusal) lifted e = cc

-- the names of a reachable task aren't refused
pub names_accepted : (domain : Domain) (problem : Problem) → fault_with Reachable domain problem ≡ None → first_refusal domain problem ≡ None
names_accepted domain problem none = none_refused (first_refusal domain problem) (lifted_of domain problem) none

-- the fault of a reachable task whose names aren't refused is the refusal of a round
after_names : (domain : Domain) (problem : Problem) → first_refusal domain problem ≡ None
    → fault_with Reachable domain problem ≡ option_map of_reach (reach_refusal (lifted_of domain problem))
after_names domain problem none = ap (λ (refusal : Option TypingRefusal). or_reach_refusal refusal (lifted_of domain problem)) none

pub within_rounds : (domain : Domain) (problem : Problem) → first_refusal domain problem ≡ None → IsWithin (lifted_of domain problem) → fault_with Reachable domain problem ≡ None
within_rounds domain problem none within = after_names domain problem none ∙ ap (option_map of_reach) ((no_refusal_is_within (lifted_of domain problem)).1 within)

pub no_fault_with : (grounding : Grounding) (domain : Domain) (problem : Problem) → IsWellTyped domain problem → IsWithinLimitsWith grounding domain problem
    → fault_with grounding domain problem ≡ None
no_fault_with All domain problem typed within = no_fault domain problem typed within
no_fault_with Reachable domain problem typed within = within_rounds domain problem (well_typed_is_accepted domain problem typed) within

-- ---- what an error reports

first_round : (domain : Domain) (problem : Problem) (error : ReachError) → first_refusal domain problem ≡ None → reach_refusal (lifted_of domain problem) ≡ Some error
    → fault_with Reachable domain problem ≡ Some (of_reach error)
first_round domain problem error none first = after_names domain problem none ∙ ap (option_map of_reach) first

pub tells_fault : (domain : Domain) (problem : Problem) (e : StripsError) → TellsReached domain problem e → Tells (fault_with Reachable domain problem) e
tells_fault domain problem (errors.Refused refusal) told = ap (λ (r : Option TypingRefusal). or_reach_refusal r (lifted_of domain problem)) told
tells_fault domain problem (errors.TooManyAtoms n) told =
    first_round domain problem (reaching.TooManyAtoms n) told.0 ((refusal_is_first (lifted_of domain problem) (reaching.TooManyAtoms n)).1 told.1)
tells_fault domain problem errors.TooManyActions told =
    first_round domain problem reaching.TooManyActions told.0 ((refusal_is_first (lifted_of domain problem) reaching.TooManyActions).1 told.1)
tells_fault domain problem errors.Stopped told = tt
tells_fault domain problem errors.Memory told = tt

pub all_tell : {X : Type 0} (domain : Domain) (problem : Problem) (r : Result X StripsError) → IfErr r (TellsReached domain problem) → IfErr r (Tells (fault_with Reachable domain problem))
all_tell domain problem (Ok x) told = tt
all_tell domain problem (Err e) told = tells_fault domain problem e told

pub all_accepted : {X : Type 0} (domain : Domain) (problem : Problem) (r : Result X StripsError) → OnOk r (first_refusal domain problem ≡ None) → OnOk r (IsWithin (lifted_of domain problem))
    → OnOk r (fault_with Reachable domain problem ≡ None)
all_accepted domain problem (Ok x) none within = within_rounds domain problem none within
all_accepted domain problem (Err e) none within = tt

-- ---- plans and names

pub grounded_plans : GroundedPlansAreByNames
grounded_plans All domain problem none = all_plans domain problem none
grounded_plans Reachable domain problem none =
    let lifted : Lifted = lifted_of domain problem in
    kept_plans domain problem Reachable (is_reached lifted) (names_accepted domain problem none) (reached_is_keeping lifted)

pub packed_plans_are_plans_with : (grounding : Grounding) (domain : Domain) (problem : Problem) (plan : packed.Plan) → fault_with grounding domain problem ≡ None
    → packed.IsPlan (strips_space (strips_with grounding domain problem)) plan
    → (actions : List NamedAction) × IsPlan domain problem actions
    × (map (action_text domain) actions ≡ map (name_in (strips_with grounding domain problem).actions) plan.actions) × (plan.cost ≡ plan_cost domain problem actions)
packed_plans_are_plans_with grounding domain problem plan none is =
    let plans : PlansAreByNames domain problem (strips_with grounding domain problem) = grounded_plans grounding domain problem none in plans.to_names plan is

pub plans_are_packed_plans_with : (grounding : Grounding) (domain : Domain) (problem : Problem) (actions : List NamedAction) → fault_with grounding domain problem ≡ None
    → IsPlan domain problem actions
    → (numbers : List ℕ) × packed.IsPlan (strips_space (strips_with grounding domain problem)) (record { actions = numbers; cost = plan_cost domain problem actions })
    × (map (name_in (strips_with grounding domain problem).actions) numbers ≡ map (action_text domain) actions)
plans_are_packed_plans_with grounding domain problem actions none is =
    let plans : PlansAreByNames domain problem (strips_with grounding domain problem) = grounded_plans grounding domain problem none in plans.to_bits actions is

pub names_tell_actions_with : GroundedNamesTellActions
names_tell_actions_with All domain problem none words others = names_tell_actions domain problem none words others
names_tell_actions_with Reachable domain problem none words others =
    kept_names_tell_actions domain problem Reachable (is_reached (lifted_of domain problem)) (names_accepted domain problem none) words others

-- ---- what all ground atoms and actions are a task of is one of those that are reached

few_of : (atoms actions : ℕ) (b c : Bool) → nat_lt most_atoms atoms ≡ b → nat_lt 65536 actions ≡ c
    → cond b (Some (errors.TooManyAtoms (ground.told atoms))) (cond c (Some errors.TooManyActions) None) ≡ None → (atoms ≤ most_atoms) × (actions ≤ 65536)
few_of atoms actions true c p q e = cc
few_of atoms actions false true p q e = cc
few_of atoms actions false false p q e = (ltb-false most_atoms atoms p, ltb-false 65536 actions q)

within_all : (domain : Domain) (problem : Problem) → first_fault domain problem ≡ None → IsWithinLimits domain problem
within_all domain problem none =
    let lifted : Lifted = lifted_of domain problem in
    let few : too_many lifted ≡ None = sym (ap (λ (refusal : Option TypingRefusal). or_too_many refusal lifted) (accepted domain problem none)) ∙ none in
    few_of (length (ground_atoms lifted)) (length (ground_actions lifted (ground_atoms lifted))) (nat_lt most_atoms (length (ground_atoms lifted)))
    (nat_lt 65536 (length (ground_actions lifted (ground_atoms lifted)))) refl refl few

pub reached_is_accepted : ReachedIsAccepted
reached_is_accepted domain problem none =
    let known = accepted domain problem none in
    let few = within_all domain problem none in
    within_rounds domain problem known (all_are_more domain problem known few.0 few.1)
