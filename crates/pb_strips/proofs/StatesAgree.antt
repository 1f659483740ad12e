-- The facts of a packed state, and of the state after a ground action.
use Rattle.std.proofs.Common.{◌≡◌, ◌<◌, ℕ, Bool, true, false, not, ◌&&◌, ◌||◌, if◌then◌else◌, List, length, Option, Some, None, slice_get, refl, sym, ap, ◌∙◌}
use Rattle.std.specs.List.{list_all}
use Rattle.std.proofs.lemmas.Bool.{false≢true}
use Rattle.pb_lifted.specs.declared.lifted.Lifted.{Lifted}
use Rattle.pb_lifted.specs.declared.lifted.Schema.{Schema}
use Rattle.pb_lifted.specs.InstanceTypes.{IsTypedInstance}
use Rattle.pb_lifted.specs.Steps.{GroundFact, ground_all, is_ground_in, ground_after}
use Rattle.pb_ground.specs.declared.atoms.GroundAtom.{GroundAtom}
use Rattle.pb_ground.specs.Actions.{action_of}
use Rattle.pb_ground.specs.Atoms.{is_fluent, number_in}
use Rattle.pb_ground.specs.Keeping.{IsKeeping, HoldsKept}
use Rattle.pb_ground.specs.Members.{is_instance}
use Rattle.pb_ground.specs.Statics.{is_initial}
use Rattle.pb_ground.specs.Steps.{Facts, all_grounded, is_in, facts_after, bits_after, Packs, KeepsStatics, KeptAreNumbered, KeptCorresponds}
use Rattle.pb_ground.proofs.Callers.{kept_correspond, kept as statics_stay}
use Rattle.pb_task.specs.Strips.{has_atom}
use Rattle.pb_strips.specs.Correspondence.{holds_by_number, holds_by}
use Rattle.pb_strips.proofs.Below.{number_below}
use Rattle.pb_strips.proofs.Bridges.{to_atom, same_member}
use Rattle.pb_strips.proofs.Numbered.{AreKeptOnes, static_none, numbered_kept, are_numbered, absent}

-- whether an atom holds in a packed state
abbrev pub atom_holds : Lifted → (atoms : List GroundAtom) → (state : ℕ) → GroundAtom → Bool
atom_holds lifted atoms state atom = if is_fluent lifted atom.predicate then holds_by_number state (number_in atom atoms) else is_initial lifted atom

pub fluent_holds : (lifted : Lifted) (atoms : List GroundAtom) (state : ℕ) (atom : GroundAtom) (number : Option ℕ) → is_fluent lifted atom.predicate ≡ true → number_in atom atoms ≡ number
    → atom_holds lifted atoms state atom ≡ holds_by_number state number
fluent_holds lifted atoms state atom number fluent e =
    ap (λ b. if b then holds_by_number state (number_in atom atoms) else is_initial lifted atom) fluent ∙ ap (holds_by_number state) e

pub keeps : (lifted : Lifted) (atoms : List GroundAtom) (state : ℕ) → KeepsStatics lifted (atom_holds lifted atoms state)
keeps lifted atoms state atom static = ap (λ b. if b then holds_by_number state (number_in atom atoms) else is_initial lifted atom) static

-- the bits of the state after a ground action
abbrev pub IsAfter : (atoms : List GroundAtom) → (from to i : ℕ) → Schema → List ℕ → Type 0
IsAfter atoms from to i schema given = (n : ℕ) → n < length atoms → has_atom to n ≡ bits_after (has_atom from) (action_of atoms i schema given) n

module _ (lifted : Lifted) (kept : Facts) (atoms : List GroundAtom) (keeping : IsKeeping lifted kept) (among : AreKeptOnes lifted kept atoms) where
  pub packs : (state : ℕ) → Packs atoms (atom_holds lifted atoms state) (has_atom state)
  packs state atom n e = at (is_fluent lifted atom.predicate) refl
    where
      at : (fluent : Bool) → is_fluent lifted atom.predicate ≡ fluent → has_atom state n ≡ atom_holds lifted atoms state atom
      at true fluent = sym (fluent_holds lifted atoms state atom (Some n) fluent e)
      at false static = let none : None ≡ Some n = sym (static_none lifted kept atoms among atom static) ∙ e in cc

  -- nothing holds that isn't kept
  pub holds_kept : (state : ℕ) → HoldsKept kept (atom_holds lifted atoms state)
  holds_kept state atom holds = at (is_fluent lifted atom.predicate) (number_in atom atoms) refl refl
    where
      at : (fluent : Bool) (number : Option ℕ) → is_fluent lifted atom.predicate ≡ fluent → number_in atom atoms ≡ number → kept atom ≡ true
      at false number static e = keeping.closed.starts atom (sym (keeps lifted atoms state atom static) ∙ holds)
      at true None fluent e = absurd (false≢true (sym (fluent_holds lifted atoms state atom None fluent e) ∙ holds))
      at true (Some n) fluent e = numbered_kept lifted kept atoms among atom n e

  -- what a ground action needs, and what holds after it
  pub acts : (from i : ℕ) (schema : Schema) (given : List ℕ) → KeptAreNumbered lifted kept atoms given schema.pre
      → KeptCorresponds kept atoms (atom_holds lifted atoms from) (has_atom from) i schema given
  acts from i schema given numbers =
      kept_correspond lifted kept atoms (atom_holds lifted atoms from) (has_atom from) i schema given keeping (packs from) (keeps lifted atoms from) (holds_kept from) numbers

  pub atoms_after : (from to i : ℕ) (schema : Schema) (given : List ℕ) → slice_get lifted.actions i ≡ Some schema → is_instance lifted schema.params given ≡ true
      → IsTypedInstance lifted schema given → list_all kept (all_grounded given schema.pre) ≡ true → IsAfter atoms from to i schema given
      → (atom : GroundAtom) → atom_holds lifted atoms to atom ≡ facts_after (atom_holds lifted atoms from) (all_grounded given schema.deletes) (all_grounded given schema.adds) atom
  atoms_after from to i schema given declared fits typed ready after atom = at (is_fluent lifted atom.predicate) (number_in atom atoms) refl refl
    where
      at : (fluent : Bool) (number : Option ℕ) → is_fluent lifted atom.predicate ≡ fluent → number_in atom atoms ≡ number
          → atom_holds lifted atoms to atom ≡ facts_after (atom_holds lifted atoms from) (all_grounded given schema.deletes) (all_grounded given schema.adds) atom
      at false number static e =
          keeps lifted atoms to atom static ∙ sym (statics_stay lifted (atom_holds lifted atoms from) i schema given declared (keeps lifted atoms from) atom static)
      at true (Some n) fluent e =
          fluent_holds lifted atoms to atom (Some n) fluent e
          ∙ (after n (number_below atom atoms n e)
          ∙ (acts from i schema given (are_numbered lifted kept atoms among given schema.pre typed.pre)).result atom n e)
      at true None fluent e =
          fluent_holds lifted atoms to atom None fluent e
          ∙ (ap (λ b. b || (false && not (is_in atom (all_grounded given schema.deletes))))
          (sym (absent lifted kept atoms among atom given schema.adds typed.adds (keeping.closed.adds i schema given declared fits ready) fluent e))
          ∙ ap (λ b. is_in atom (all_grounded given schema.adds) || (b && not (is_in atom (all_grounded given schema.deletes)))) (sym (fluent_holds lifted atoms from atom None fluent e)))

  pub facts_after_are : (from to i : ℕ) (schema : Schema) (given : List ℕ) → slice_get lifted.actions i ≡ Some schema → is_instance lifted schema.params given ≡ true
      → IsTypedInstance lifted schema given → list_all kept (all_grounded given schema.pre) ≡ true → IsAfter atoms from to i schema given
      → (f : GroundFact) → holds_by lifted atoms to f ≡ ground_after (holds_by lifted atoms from) (ground_all given schema.deletes) (ground_all given schema.adds) f
  facts_after_are from to i schema given declared fits typed ready after f =
      atoms_after from to i schema given declared fits typed ready after (to_atom f)
      ∙ (ap (λ b. b || (atom_holds lifted atoms from (to_atom f) && not (is_in (to_atom f) (all_grounded given schema.deletes)))) (sym (same_member f given schema.adds))
      ∙ ap (λ b. is_ground_in f (ground_all given schema.adds) || (atom_holds lifted atoms from (to_atom f) && not b)) (sym (same_member f given schema.deletes)))
