-- Which facts have a number: the kept ones of fluent predicates whose objects fit.
use Rattle.std.proofs.Common.{◌≡◌, ℕ, suc, Bool, true, false, cond, ◌&&◌, ◌||◌, List, [], ◌∷◌, All, Option, Some, None, is_some, option_map, slice_get, refl, sym, ap, ◌∙◌}
use Rattle.std.proofs.Math.Bool.{and-false}
use Rattle.std.proofs.lemmas.Bool.{false≢true, and_parts, and_from}
use Rattle.std.proofs.lemmas.List.Elements.{All-head, All-tail}
use Rattle.pb_lifted.specs.declared.lifted.Lifted.{Lifted}
use Rattle.pb_lifted.specs.declared.lifted.LiftedAtom.{LiftedAtom}
use Rattle.pb_lifted.specs.InstanceTypes.{IsTyped}
use Rattle.pb_lifted.specs.Steps.{GroundFact, ground, ground_all}
use Rattle.pb_ground.specs.declared.atoms.GroundAtom.{GroundAtom}
use Rattle.pb_ground.specs.Atoms.{is_fluent, same_atom, grounded, number_in, ground_atoms}
use Rattle.pb_ground.specs.Members.{is_instance_of}
use Rattle.pb_ground.specs.Steps.{Facts, all_grounded, is_in, KeptAreNumbered}
use Rattle.pb_ground.proofs.Callers.{atoms_are, one_atom}
use Rattle.pb_reach.proofs.Callers.{from_fitting}
use Rattle.pb_strips.proofs.Bridges.{to_atom}

-- an atom that is among others has a number there
pub numbered : (atom : GroundAtom) (atoms : List GroundAtom) → is_in atom atoms ≡ is_some (number_in atom atoms)
numbered atom [] = refl
numbered atom (first ∷ later) = at (same_atom atom first) (is_in atom later) (number_in atom later) (numbered atom later)
  where
    at : (same among : Bool) (number : Option ℕ) → among ≡ is_some number → (same || among) ≡ is_some (cond same (Some 0) (option_map suc number))
    at true among number e = refl
    at false among None e = e
    at false among (Some n) e = e

-- a typed fluent one among others is a ground atom
typed_ground : (lifted : Lifted) (f : GroundFact) → IsTyped lifted f → is_fluent lifted f.predicate ≡ true → is_in (to_atom f) (ground_atoms lifted) ≡ true
typed_ground lifted f typed fluent =
    atoms_are lifted (to_atom f)
    ∙ (ap (λ b. b && is_instance_of lifted (slice_get lifted.predicates f.predicate) f.objects) fluent
    ∙ (ap (λ kinds. is_instance_of lifted kinds f.objects) typed.declared ∙ from_fitting lifted typed.kinds f.objects typed.fits))

among_ground : (lifted : Lifted) (atom : GroundAtom) (given : List ℕ) (list : List LiftedAtom) → All (IsTyped lifted) (ground_all given list) → is_fluent lifted atom.predicate ≡ true
    → is_in atom (all_grounded given list) ≡ true → is_in atom (ground_atoms lifted) ≡ true
among_ground lifted atom given [] all fluent e = absurd (false≢true e)
among_ground lifted atom given (a ∷ list) all fluent e =
    at (λ there. among_ground lifted atom given list (All-tail (IsTyped lifted) (ground given a) (ground_all given list) all) fluent there) (same_atom atom (grounded given a)) refl e
  where
    at : (is_in atom (all_grounded given list) ≡ true → is_in atom (ground_atoms lifted) ≡ true) → (same : Bool) → same_atom atom (grounded given a) ≡ same
        → (same || is_in atom (all_grounded given list)) ≡ true → is_in atom (ground_atoms lifted) ≡ true
    at later false p there = later there
    at later true p here =
        let is : atom ≡ grounded given a = one_atom atom (grounded given a) p in
        ap (λ x. is_in x (ground_atoms lifted)) is
        ∙ typed_ground lifted (ground given a) (All-head (IsTyped lifted) (ground given a) (ground_all given list) all) (sym (ap (λ x. is_fluent lifted x.predicate) is) ∙ fluent)

-- these are the kept ground atoms
abbrev pub AreKeptOnes : Lifted → (kept : Facts) → (atoms : List GroundAtom) → Type 0
AreKeptOnes lifted kept atoms = (atom : GroundAtom) → is_in atom atoms ≡ (kept atom && is_in atom (ground_atoms lifted))

module _ (lifted : Lifted) (kept : Facts) (atoms : List GroundAtom) (among : AreKeptOnes lifted kept atoms) where
  -- a static one has no number
  pub static_none : (atom : GroundAtom) → is_fluent lifted atom.predicate ≡ false → number_in atom atoms ≡ None
  static_none atom static = at (number_in atom atoms) (sym (numbered atom atoms) ∙ (among atom ∙ (ap (λ b. kept atom && b) (atoms_are lifted atom ∙ ap (λ b. b && fits) static) ∙ and-false (kept atom))))
    where
      fits : Bool
      fits = is_instance_of lifted (slice_get lifted.predicates atom.predicate) atom.objects

      at : (number : Option ℕ) → is_some number ≡ false → number ≡ None
      at None e = refl
      at (Some n) e = cc

  -- one with a number is kept
  pub numbered_kept : (atom : GroundAtom) (n : ℕ) → number_in atom atoms ≡ Some n → kept atom ≡ true
  numbered_kept atom n e =
      (and_parts (kept atom) (is_in atom (ground_atoms lifted)) (sym (among atom) ∙ (numbered atom atoms ∙ ap (λ (number : Option ℕ). is_some number) e))).0

  -- a kept ground atom has one
  pub kept_numbered : (atom : GroundAtom) → kept atom ≡ true → is_in atom (ground_atoms lifted) ≡ true → is_some (number_in atom atoms) ≡ true
  kept_numbered atom is there = sym (numbered atom atoms) ∙ (among atom ∙ and_from (kept atom) (is_in atom (ground_atoms lifted)) is there)

  pub are_numbered : (given : List ℕ) (list : List LiftedAtom) → All (IsTyped lifted) (ground_all given list) → KeptAreNumbered lifted kept atoms given list
  are_numbered given [] all = tt
  are_numbered given (a ∷ list) all = (
    λ fluent is. kept_numbered (grounded given a) is (typed_ground lifted (ground given a) (All-head (IsTyped lifted) (ground given a) (ground_all given list) all) fluent),
    are_numbered given list (All-tail (IsTyped lifted) (ground given a) (ground_all given list) all),
  )

  -- a fluent one without a number is none of those that are kept and whose objects fit
  pub absent : (atom : GroundAtom) (given : List ℕ) (list : List LiftedAtom) → All (IsTyped lifted) (ground_all given list)
      → ((fact : GroundAtom) → is_in fact (all_grounded given list) ≡ true → kept fact ≡ true) → is_fluent lifted atom.predicate ≡ true
      → number_in atom atoms ≡ None → is_in atom (all_grounded given list) ≡ false
  absent atom given list all are fluent none = at (is_in atom (all_grounded given list)) refl
    where
      at : (there : Bool) → is_in atom (all_grounded given list) ≡ there → there ≡ false
      at false e = refl
      at true e = absurd (false≢true (ap is_some (sym none) ∙ kept_numbered atom (are atom e) (among_ground lifted atom given list all fluent e)))
