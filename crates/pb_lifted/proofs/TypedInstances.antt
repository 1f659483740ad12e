-- What an action's instance speaks of is of its predicates' types.
use Rattle.std.proofs.Common.{◌≡◌, ℕ, zero, suc, Bool, true, false, cond, Option, Some, None, unwrap_or, List, [], ◌∷◌, ◌++◌, map, get_or, All, refl, sym, ap, ◌∙◌, subst, arith}
use Rattle.std.specs.List.{slice_get}
use Rattle.std.proofs.lemmas.List.Elements.{All-cons}
use Rattle.pb_pddl.specs.declared.tree.Typed.{Typed}
use Rattle.pb_pddl.specs.declared.tree.Term.{Term}
use Rattle.pb_pddl.specs.declared.tree.Term.TheVariants.{Object, Variable}
use Rattle.pb_pddl.specs.declared.tree.Atom.{Atom}
use Rattle.pb_pddl.specs.declared.tree.Literal.{Literal}
use Rattle.pb_pddl.specs.declared.tree.Predicate.{Predicate}
use Rattle.pb_pddl.specs.declared.tree.Action.{Action}
use Rattle.pb_pddl.specs.declared.tree.Domain.{Domain}
use Rattle.pb_pddl.specs.declared.tree.Problem.{Problem}
use Rattle.pb_lifted.specs.declared.lifted.Lifted.{Lifted}
use Rattle.pb_lifted.specs.declared.lifted.LiftedAtom.{LiftedAtom}
use Rattle.pb_lifted.specs.declared.lifted.Schema.{Schema}
use Rattle.pb_lifted.specs.Types.{name_text, kind_text, type_names}
use Rattle.pb_lifted.specs.Objects.{objects_of, entry_of, entry_of_term}
use Rattle.pb_lifted.specs.Tables.{predicate_text}
use Rattle.pb_lifted.specs.Lifted.{number, kind_numbers, argument_of, arguments_of, atom_of, atoms_of, effect_of, lifted_of}
use Rattle.pb_lifted.specs.Space.{FitsParameter}
use Rattle.pb_lifted.specs.Facts.{name_at, value_of}
use Rattle.pb_lifted.specs.Typing.{object_names, predicate_names, KindIsKnown, PredicateFits, ArgumentsFit, AtomFits, ActionFits, IsWellTyped}
use Rattle.pb_lifted.specs.Steps.{FitsKind, AreFitting, ground, ground_all}
use Rattle.pb_lifted.specs.InstanceTypes.{IsTyped, IsTypedInstance, InstancesAreTyped, StartIsTyped, GoalIsTyped}
use Rattle.pb_lifted.proofs.Found.{at_number, first_found}
use Rattle.pb_lifted.proofs.TypeTree.{known_number}
use Rattle.pb_lifted.proofs.WellTyped.{accepted_is_well_typed}
use Rattle.pb_lifted.proofs.KnownNames.{fitting_among, known_predicate}
use Rattle.pb_lifted.proofs.NamesUp.{below_is_transitive}
use Rattle.pb_lifted.proofs.FittingObjects.{holds_at, at_mapped, mapped_at, objects_there, fits_by_name, fits_by_number}
use Rattle.pb_lifted.proofs.GroundSteps.{schema_in}

-- ---- one argument

-- the object that is given to the parameter of a number
given_at : (domain : Domain) (problem : Problem) (params : List Typed) (given : List ℕ) → AreFitting (lifted_of domain problem) (kind_numbers (type_names domain.types) params) given
    → (k : ℕ) (p : Typed) → slice_get params k ≡ Some p → FitsKind (lifted_of domain problem) (number (kind_text p) (type_names domain.types)) (get_or given k 0)
given_at domain problem [] given fit k p h = cc
given_at domain problem (q ∷ params) [] fit k p h = absurd fit
given_at domain problem (q ∷ params) (i ∷ given) fit zero p h =
    let same : q ≡ p = cc in subst (λ t. FitsKind (lifted_of domain problem) (number (kind_text t) (type_names domain.types)) i) same fit.0
given_at domain problem (q ∷ params) (i ∷ given) fit (suc k) p h = given_at domain problem params given fit.1 k p h

-- an object of a type that is below another is of that one
wider : (types : List Typed) (entry : Option Typed) (p w : Typed) → FitsParameter types entry p → FitsParameter types (Some p) w → FitsParameter types entry w
wider types None p w a b = a
wider types (Some entry) p w a b = below_is_transitive types (kind_text entry) (kind_text p) (kind_text w) a b

typed_parameter : (domain : Domain) (problem : Problem) (params : List Typed) (given : List ℕ) (w p : Typed) (k : ℕ) → IsWellTyped domain problem → All (KindIsKnown domain.types) params
    → KindIsKnown domain.types w → AreFitting (lifted_of domain problem) (kind_numbers (type_names domain.types) params) given → slice_get params k ≡ Some p
    → FitsParameter domain.types (Some p) w → FitsKind (lifted_of domain problem) (number (kind_text w) (type_names domain.types)) (get_or given k 0)
typed_parameter domain problem params given w p k typed kinds known fit there below =
    let i : ℕ = get_or given k 0 in
    let names : List (List ℕ) = object_names domain problem in
    let given_fits : FitsKind (lifted_of domain problem) (number (kind_text p) (type_names domain.types)) i = given_at domain problem params given fit k p there in
    let by_name : FitsParameter domain.types (entry_of (objects_of domain problem) (name_at names i)) p =
    fits_by_name domain problem typed p (holds_at (KindIsKnown domain.types) params k p kinds there) i given_fits in
    let again : number (name_at names i) names ≡ i = ap (λ n. unwrap_or n 0) (typed.distinct i (objects_there domain problem i given_fits.0)) in
    subst (FitsKind (lifted_of domain problem) (number (kind_text w) (type_names domain.types))) again
    (fits_by_number domain problem typed w known (name_at names i) (wider domain.types (entry_of (objects_of domain problem) (name_at names i)) p w by_name below)).0

typed_argument : (domain : Domain) (problem : Problem) (params : List Typed) (given : List ℕ) (t : Term) (w : Typed) → IsWellTyped domain problem → All (KindIsKnown domain.types) params
    → KindIsKnown domain.types w → AreFitting (lifted_of domain problem) (kind_numbers (type_names domain.types) params) given
    → FitsParameter domain.types (entry_of_term (objects_of domain problem) params t) w
    → FitsKind (lifted_of domain problem) (number (kind_text w) (type_names domain.types)) (value_of given (argument_of (object_names domain problem) (map name_text params) t))
typed_argument domain problem params given (Object name) w typed kinds known fit below = (fits_by_number domain problem typed w known name.text below).0
typed_argument domain problem params given (Variable name) w typed kinds known fit below = at (entry_of params name.text) refl below
  where
    k : ℕ
    k = number name.text (map name_text params)

    place : entry_of params name.text ≡ slice_get params k
    place =
        first_found name_text params name.text
        ∙ ap (at_number params) (known_number name.text (map name_text params) (fitting_among domain.types params name.text w below))

    at : (e : Option Typed) → entry_of params name.text ≡ e → FitsParameter domain.types e w
        → FitsKind (lifted_of domain problem) (number (kind_text w) (type_names domain.types)) (get_or given k 0)
    at None e below = absurd below
    at (Some p) e below = typed_parameter domain problem params given w p k typed kinds known fit (sym place ∙ e) below

typed_arguments : (domain : Domain) (problem : Problem) (params : List Typed) (given : List ℕ) (terms : List Term) (wanted : List Typed) → IsWellTyped domain problem
    → All (KindIsKnown domain.types) params → All (KindIsKnown domain.types) wanted → AreFitting (lifted_of domain problem) (kind_numbers (type_names domain.types) params) given
    → ArgumentsFit domain problem params terms wanted
    → AreFitting (lifted_of domain problem) (kind_numbers (type_names domain.types) wanted)
    (map (λ a. value_of given a) (arguments_of (object_names domain problem) (map name_text params) terms))
typed_arguments domain problem params given [] [] typed kinds known fit args = tt
typed_arguments domain problem params given [] (w ∷ wanted) typed kinds known fit args = absurd args
typed_arguments domain problem params given (t ∷ terms) [] typed kinds known fit args = absurd args
typed_arguments domain problem params given (t ∷ terms) (w ∷ wanted) typed kinds known fit args = (
  typed_argument domain problem params given t w typed kinds (known 0 w (omega arith)) fit args.0,
  typed_arguments domain problem params given terms wanted typed kinds (λ k d less. known (suc k) d (omega arith)) fit args.1,
)

-- ---- atoms

typed_atom : (domain : Domain) (problem : Problem) (params : List Typed) (given : List ℕ) (atom : Atom) → IsWellTyped domain problem → All (KindIsKnown domain.types) params
    → AreFitting (lifted_of domain problem) (kind_numbers (type_names domain.types) params) given → AtomFits domain problem params atom
    → IsTyped (lifted_of domain problem) (ground given (atom_of (predicate_names domain) (object_names domain problem) (map name_text params) atom))
typed_atom domain problem params given atom typed kinds fit atom_fit =
    let n : ℕ = number atom.predicate.text (predicate_names domain) in
    let there : slice_get domain.predicates n ≡ Some atom_fit.predicate =
    sym (first_found predicate_text domain.predicates atom.predicate.text
    ∙ ap (at_number domain.predicates) (known_number atom.predicate.text (predicate_names domain) (known_predicate domain problem params atom atom_fit)))
    ∙ atom_fit.declared in
    record {
      kinds = kind_numbers (type_names domain.types) atom_fit.predicate.params;
      declared = at_mapped (λ (p : Predicate). kind_numbers (type_names domain.types) p.params) domain.predicates n atom_fit.predicate there;
      fits =
          typed_arguments domain problem params given atom.terms atom_fit.predicate.params typed kinds
          (holds_at (PredicateFits domain) domain.predicates n atom_fit.predicate typed.predicates there).params fit atom_fit.arguments;
    }

typed_atoms : (domain : Domain) (problem : Problem) (params : List Typed) (given : List ℕ) (atoms : List Atom) → IsWellTyped domain problem → All (KindIsKnown domain.types) params
    → AreFitting (lifted_of domain problem) (kind_numbers (type_names domain.types) params) given → All (AtomFits domain problem params) atoms
    → All (IsTyped (lifted_of domain problem)) (ground_all given (atoms_of (predicate_names domain) (object_names domain problem) (map name_text params) atoms))
typed_atoms domain problem params given [] typed kinds fit all k d less = absurd (omega arith)
typed_atoms domain problem params given (a ∷ atoms) typed kinds fit all k d less =
    All-cons (IsTyped (lifted_of domain problem)) (ground given (atom_of (predicate_names domain) (object_names domain problem) (map name_text params) a))
    (ground_all given (atoms_of (predicate_names domain) (object_names domain problem) (map name_text params) atoms))
    (typed_atom domain problem params given a typed kinds fit (all 0 a (omega arith)))
    (typed_atoms domain problem params given atoms typed kinds fit (λ j e l. all (suc j) e (omega arith))) k d less

typed_if : (lifted : Lifted) (given : List ℕ) (wanted negated : Bool) (a : LiftedAtom) (atoms : List LiftedAtom) → IsTyped lifted (ground given a) → All (IsTyped lifted) (ground_all given atoms)
    → All (IsTyped lifted) (ground_all given (cond wanted (cond negated (a ∷ []) []) (cond negated [] (a ∷ [])) ++ atoms))
typed_if lifted given true true a atoms one rest = All-cons (IsTyped lifted) (ground given a) (ground_all given atoms) one rest
typed_if lifted given true false a atoms one rest = rest
typed_if lifted given false true a atoms one rest = rest
typed_if lifted given false false a atoms one rest = All-cons (IsTyped lifted) (ground given a) (ground_all given atoms) one rest

typed_effect : (domain : Domain) (problem : Problem) (params : List Typed) (given : List ℕ) (negated : Bool) (effect : List Literal) → IsWellTyped domain problem
    → All (KindIsKnown domain.types) params → AreFitting (lifted_of domain problem) (kind_numbers (type_names domain.types) params) given
    → All (λ (l : Literal). AtomFits domain problem params l.atom) effect
    → All (IsTyped (lifted_of domain problem)) (ground_all given (effect_of negated (predicate_names domain) (object_names domain problem) (map name_text params) effect))
typed_effect domain problem params given negated [] typed kinds fit all k d less = absurd (omega arith)
typed_effect domain problem params given true (l ∷ effect) typed kinds fit all k d less =
    typed_if (lifted_of domain problem) given true l.negated (atom_of (predicate_names domain) (object_names domain problem) (map name_text params) l.atom)
    (effect_of true (predicate_names domain) (object_names domain problem) (map name_text params) effect)
    (typed_atom domain problem params given l.atom typed kinds fit (all 0 l (omega arith)))
    (typed_effect domain problem params given true effect typed kinds fit (λ j e m. all (suc j) e (omega arith))) k d less
typed_effect domain problem params given false (l ∷ effect) typed kinds fit all k d less =
    typed_if (lifted_of domain problem) given false l.negated (atom_of (predicate_names domain) (object_names domain problem) (map name_text params) l.atom)
    (effect_of false (predicate_names domain) (object_names domain problem) (map name_text params) effect)
    (typed_atom domain problem params given l.atom typed kinds fit (all 0 l (omega arith)))
    (typed_effect domain problem params given false effect typed kinds fit (λ j e m. all (suc j) e (omega arith))) k d less

-- ---- the laws

none_known : (types : List Typed) → All (KindIsKnown types) []
none_known types k d less = absurd (omega arith)

pub start_is_typed : StartIsTyped
start_is_typed domain problem accepted =
    let typed : IsWellTyped domain problem = accepted_is_well_typed domain problem accepted in typed_atoms domain problem [] [] problem.init typed (none_known domain.types) tt typed.init

pub goal_is_typed : GoalIsTyped
goal_is_typed domain problem accepted =
    let typed : IsWellTyped domain problem = accepted_is_well_typed domain problem accepted in typed_atoms domain problem [] [] problem.goal typed (none_known domain.types) tt typed.goal

typed_action : (domain : Domain) (problem : Problem) (action : Action) (given : List ℕ) → IsWellTyped domain problem → ActionFits domain problem action
    → AreFitting (lifted_of domain problem) (schema_in domain problem action).params given → IsTypedInstance (lifted_of domain problem) (schema_in domain problem action) given
typed_action domain problem action given typed fits fit =
    record {
      pre = typed_atoms domain problem action.params given action.pre typed fits.params fit fits.pre;
      adds = typed_effect domain problem action.params given false action.effect typed fits.params fit fits.effect;
      deletes = typed_effect domain problem action.params given true action.effect typed fits.params fit fits.effect;
    }

pub instances_are_typed : InstancesAreTyped
instances_are_typed domain problem i schema given accepted declared fit =
    let typed : IsWellTyped domain problem = accepted_is_well_typed domain problem accepted in
    let found = mapped_at (schema_in domain problem) domain.actions i schema declared in
    subst (λ (s : Schema). IsTypedInstance (lifted_of domain problem) s given) found.2
    (typed_action domain problem found.0 given typed (holds_at (ActionFits domain problem) domain.actions i found.0 typed.actions found.1)
    (subst (λ (s : Schema). AreFitting (lifted_of domain problem) s.params given) (sym found.2) fit))
