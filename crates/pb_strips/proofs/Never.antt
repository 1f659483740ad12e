-- What is well typed and within the limits is not refused.
use Rattle.std.proofs.Common.{◌≡◌, ℕ, cond, nat_lt, length, Option, Some, None, Result, Ok, Err, ap, ◌∙◌, subst}
use Rattle.std.proofs.lemmas.Bool.{le-ltb}
use Rattle.std.specs.Prelude.{IfErr}
use Rattle.pb_packed.specs.Sizes.{most_atoms}
use Rattle.pb_pddl.specs.declared.tree.Domain.{Domain}
use Rattle.pb_pddl.specs.declared.tree.Problem.{Problem}
use Rattle.pb_lifted.specs.declared.refusal.TypingRefusal.{TypingRefusal}
use Rattle.pb_lifted.specs.Lifted.{lifted_of}
use Rattle.pb_lifted.specs.Refusals.{first_refusal}
use Rattle.pb_lifted.specs.Typing.{IsWellTyped}
use Rattle.pb_lifted.proofs.Callers.{well_typed_is_accepted}
use Rattle.pb_ground.specs.Atoms.{ground_atoms}
use Rattle.pb_ground.specs.Actions.{ground_actions}
use Rattle.pb_ground.specs.Errors as ground
use Rattle.pb_strips.specs.declared.error.StripsError.{StripsError}
use Rattle.pb_strips.specs.declared.error.StripsError.TheVariants as errors
use Rattle.pb_strips.specs.Refusals.{or_too_many, first_fault, Tells, IsNoFault, IsWithinLimits}

pub within_limits : (domain : Domain) (problem : Problem) → first_refusal domain problem ≡ None → IsWithinLimits domain problem → first_fault domain problem ≡ None
within_limits domain problem none limits =
    let lifted = lifted_of domain problem in
    let atoms : ℕ = length (ground_atoms lifted) in
    let actions : ℕ = length (ground_actions lifted (ground_atoms lifted)) in
    let more : Option StripsError = Some (errors.TooManyAtoms (ground.told atoms)) in
    let last : Option StripsError = Some errors.TooManyActions in
    ap (λ (r : Option TypingRefusal). or_too_many r lifted) none
    ∙ ap (λ b. cond b more (cond (nat_lt 65536 actions) last None)) (le-ltb most_atoms atoms limits.0) ∙ ap (λ b. cond b last None) (le-ltb 65536 actions limits.1)

pub no_fault : (domain : Domain) (problem : Problem) → IsWellTyped domain problem → IsWithinLimits domain problem → first_fault domain problem ≡ None
no_fault domain problem typed limits = within_limits domain problem (well_typed_is_accepted domain problem typed) limits

is_no_fault : (e : StripsError) → Tells None e → IsNoFault e
is_no_fault (errors.Refused refusal) told = cc
is_no_fault (errors.TooManyAtoms n) told = cc
is_no_fault errors.TooManyActions told = cc
is_no_fault errors.Stopped told = tt
is_no_fault errors.Memory told = tt

pub never_refused : {X : Type 0} (r : Result X StripsError) (fault : Option StripsError) → IfErr r (Tells fault) → fault ≡ None → IfErr r IsNoFault
never_refused (Ok x) fault told none = tt
never_refused (Err e) fault told none = is_no_fault e (subst (λ (f : Option StripsError). Tells f e) none told)
