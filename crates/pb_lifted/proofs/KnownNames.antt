-- The names of a fitting atom are known.
use Rattle.std.proofs.Common.{◌≡◌, Bool, true, false, ◌||◌, cond, Option, Some, None, ℕ, List, [], ◌∷◌, map, find, refl}
use Rattle.std.specs.Str.{bytes_eq}
use Rattle.pb_pddl.specs.declared.tree.Typed.{Typed}
use Rattle.pb_pddl.specs.declared.tree.Term.{Term}
use Rattle.pb_pddl.specs.declared.tree.Term.TheVariants.{Object, Variable}
use Rattle.pb_pddl.specs.declared.tree.Atom.{Atom}
use Rattle.pb_pddl.specs.declared.tree.Domain.{Domain}
use Rattle.pb_pddl.specs.declared.tree.Problem.{Problem}
use Rattle.pb_lifted.specs.Names.{is_among}
use Rattle.pb_lifted.specs.Types.{name_text}
use Rattle.pb_lifted.specs.Objects.{objects_of, entry_of, entry_of_term}
use Rattle.pb_lifted.specs.Tables.{predicate_text}
use Rattle.pb_lifted.specs.Space.{FitsParameter}
use Rattle.pb_lifted.specs.Facts.{IsKnown, AreKnown}
use Rattle.pb_lifted.specs.Typing.{object_names, predicate_names, ArgumentsFit, AtomFits, FittingAtomsKeepFacts}
use Rattle.pb_lifted.proofs.SameFacts.{numbers_keep_facts}

-- what is found is among the names
pub found_among : {A : Type 0} (text_of : A → List ℕ) (items : List A) (text : List ℕ) (x : A) → find (λ i. bytes_eq text (text_of i)) items ≡ Some x → is_among text (map text_of items) ≡ true
found_among text_of [] text x h = cc
found_among text_of (y ∷ items) text x h = at (bytes_eq text (text_of y)) (found_among text_of items text x) h
  where
    at : (here : Bool) → (find (λ i. bytes_eq text (text_of i)) items ≡ Some x → is_among text (map text_of items) ≡ true)
        → cond here (Some y) (find (λ i. bytes_eq text (text_of i)) items) ≡ Some x → (here || is_among text (map text_of items)) ≡ true
    at true rest h = refl
    at false rest h = rest h

pub fitting_among : (types list : List Typed) (text : List ℕ) (w : Typed) → FitsParameter types (entry_of list text) w → is_among text (map name_text list) ≡ true
fitting_among types list text w fit = at (entry_of list text) refl fit
  where
    at : (e : Option Typed) → entry_of list text ≡ e → FitsParameter types e w → is_among text (map name_text list) ≡ true
    at None e fit = absurd fit
    at (Some x) e fit = found_among name_text list text x e

known_term : (domain : Domain) (problem : Problem) (params : List Typed) (t : Term) (w : Typed) → FitsParameter domain.types (entry_of_term (objects_of domain problem) params t) w
    → IsKnown (object_names domain problem) params t
known_term domain problem params (Object name) w fit = fitting_among domain.types (objects_of domain problem) name.text w fit
known_term domain problem params (Variable name) w fit = fitting_among domain.types params name.text w fit

pub known_terms : (domain : Domain) (problem : Problem) (params : List Typed) (terms : List Term) (wanted : List Typed) → ArgumentsFit domain problem params terms wanted
    → AreKnown (object_names domain problem) params terms
known_terms domain problem params [] wanted fit = tt
known_terms domain problem params (t ∷ terms) [] fit = absurd fit
known_terms domain problem params (t ∷ terms) (w ∷ wanted) fit = (known_term domain problem params t w fit.0, known_terms domain problem params terms wanted fit.1)

pub known_predicate : (domain : Domain) (problem : Problem) (params : List Typed) (atom : Atom) → AtomFits domain problem params atom → is_among atom.predicate.text (predicate_names domain) ≡ true
known_predicate domain problem params atom fit = found_among predicate_text domain.predicates atom.predicate.text fit.predicate fit.declared

pub fitting_atoms_keep_facts : FittingAtomsKeepFacts
fitting_atoms_keep_facts domain problem params given atom fit count =
    numbers_keep_facts (predicate_names domain) (object_names domain problem) params given atom (known_predicate domain problem params atom fit)
    (known_terms domain problem params atom.terms fit.predicate.params fit.arguments) count
