-- What a domain and a problem that are not refused are, and no others. Names are distinct and
-- known, and types lead to object. Arguments are as many as parameters and of their types, the
-- limits are kept, and costs are declared and at least 1.
use Rattle.std.specs.Prelude.{◌≡◌, ◌<◌, ◌≤◌, ◌^◌, ℕ, true, false, List, [], ◌∷◌, length, map, Some, None, All}
use Rattle.pb_pddl.specs.declared.tree.Typed.{Typed}
use Rattle.pb_pddl.specs.declared.tree.Term.{Term}
use Rattle.pb_pddl.specs.declared.tree.Atom.{Atom}
use Rattle.pb_pddl.specs.declared.tree.Literal.{Literal}
use Rattle.pb_pddl.specs.declared.tree.Predicate.{Predicate}
use Rattle.pb_pddl.specs.declared.tree.Cost.{Cost}
use Rattle.pb_pddl.specs.declared.tree.Action.{Action}
use Rattle.pb_pddl.specs.declared.tree.Domain.{Domain}
use Rattle.pb_pddl.specs.declared.tree.Problem.{Problem}
use Rattle.pb_lifted.specs.Names.{number_of, is_among}
use Rattle.pb_lifted.specs.Types.{object, name_text, kind_text, declared_types, type_names, ancestor}
use Rattle.pb_lifted.specs.Objects.{objects_of, predicate_of, entry_of_term}
use Rattle.pb_lifted.specs.Tables.{predicate_text}
use Rattle.pb_lifted.specs.Costs.{cost_of}
use Rattle.pb_lifted.specs.Lifted.{atom_of}
use Rattle.pb_lifted.specs.Refusals.{first_refusal}
use Rattle.pb_lifted.specs.Space.{FitsParameter, fact_of}
use Rattle.pb_lifted.specs.Facts.{name_at, fact_by_numbers}

abbrev pub object_names : Domain → Problem → List (List ℕ)
object_names domain problem = map name_text (objects_of domain problem)

abbrev pub predicate_names : Domain → List (List ℕ)
predicate_names domain = map predicate_text domain.predicates

abbrev pub action_text : Action → List ℕ
action_text a = a.name.text

abbrev pub action_names : Domain → List (List ℕ)
action_names domain = map action_text domain.actions

-- the names of the types that are declared; an entry that object is below object declares none
abbrev pub declared_names : Domain → List (List ℕ)
declared_names domain = map name_text (declared_types domain.types)

-- the names of the objects of these numbers
abbrev pub named : Domain → Problem → List ℕ → List (List ℕ)
named domain problem given = map (λ i. name_at (object_names domain problem) i) given

-- no name is there twice: each is the first of its name
abbrev pub AreDistinct : List (List ℕ) → Type 0
AreDistinct names = (i : ℕ) → i < length names → number_of (name_at names i) names ≡ Some i

-- Each parameter of a predicate has an argument: an object or a parameter of the action, of the
-- predicate's parameter's type or of one below.
abbrev pub ArgumentsFit : Domain → Problem → List Typed → List Term → List Typed → Type 0
ArgumentsFit domain problem params [] [] = Unit {0}
ArgumentsFit domain problem params [] (w ∷ wanted) = ⊥
ArgumentsFit domain problem params (t ∷ terms) [] = ⊥
ArgumentsFit domain problem params (t ∷ terms) (w ∷ wanted) =
    FitsParameter domain.types (entry_of_term (objects_of domain problem) params t) w
    × ArgumentsFit domain problem params terms wanted

-- an atom of a declared predicate with such arguments
pub record AtomFits (domain : Domain) (problem : Problem) (params : List Typed) (atom : Atom)
    : Type 0 where
  pub predicate : Predicate
  pub declared : predicate_of domain.predicates atom.predicate.text ≡ Some predicate
  pub arguments : ArgumentsFit domain problem params atom.terms predicate.params

-- so many steps up from the type come to object, and object itself is below no other type
pub record IsRooted (types : List Typed) (typed : Typed) : Type 0 where
  pub steps : ℕ
  pub up : ancestor types steps (name_text typed) ≡ object
  pub root : name_text typed ≡ object → kind_text typed ≡ object

-- the type is object, a declared one, or one above a declared one
abbrev pub KindIsKnown : List Typed → Typed → Type 0
KindIsKnown types typed = is_among (kind_text typed) (type_names types) ≡ true

-- an action of at most 16 parameters, of distinct names and known types, whose atoms fit
pub record ActionFits (domain : Domain) (problem : Problem) (action : Action) : Type 0 where
  pub narrow : length action.params ≤ 16
  pub distinct : AreDistinct (map name_text action.params)
  pub params : All (KindIsKnown domain.types) action.params
  pub pre : All (AtomFits domain problem action.params) action.pre
  pub effect : All (λ (l : Literal). AtomFits domain problem action.params l.atom) action.effect

-- a predicate of at most 16 parameters of known types
pub record PredicateFits (domain : Domain) (predicate : Predicate) : Type 0 where
  pub narrow : length predicate.params ≤ 16
  pub params : All (KindIsKnown domain.types) predicate.params

-- nothing is said of costs: no increase, no number at first and no metric
pub record HasNoCosts (domain : Domain) (problem : Problem) : Type 0 where
  pub increases : All (λ (a : Action). a.costs ≡ []) domain.actions
  pub initial : problem.costs ≡ []
  pub metric : problem.metric ≡ None

-- Costs are declared, if anything is said of them. An action has at most one increase, of at most
-- 2^20, and costs at least 1. At first the cost is set at most once, to 0.
pub record CostsFit (domain : Domain) (problem : Problem) : Type 0 where
  pub declared : domain.has_cost ≡ false → HasNoCosts domain problem
  pub once : All (λ (a : Action). length a.costs ≤ 1) domain.actions
  pub few : All (λ (a : Action). All (λ (c : Cost). c.number ≤ 2 ^ 20) a.costs) domain.actions
  pub some : All (λ (a : Action). 1 ≤ cost_of problem a) domain.actions
  pub once_at_first : length problem.costs ≤ 1
  pub none_at_first : All (λ (c : Cost). c.number ≡ 0) problem.costs

-- The problem is of the domain of this name. There are at most 1,000 objects. No two types,
-- predicates, actions or objects have one name. All types lead to object, and those of objects are
-- known. Predicates, actions, all atoms and costs fit.
pub record IsWellTyped (domain : Domain) (problem : Problem) : Type 0 where
  pub same_domain : problem.domain.text ≡ domain.name.text
  pub few : length (objects_of domain problem) ≤ 1000
  pub distinct_types : AreDistinct (declared_names domain)
  pub distinct_predicates : AreDistinct (predicate_names domain)
  pub distinct_actions : AreDistinct (action_names domain)
  pub distinct : AreDistinct (object_names domain problem)
  pub rooted : All (IsRooted domain.types) domain.types
  pub objects : All (KindIsKnown domain.types) (objects_of domain problem)
  pub predicates : All (PredicateFits domain) domain.predicates
  pub actions : All (ActionFits domain problem) domain.actions
  pub init : All (AtomFits domain problem []) problem.init
  pub goal : All (AtomFits domain problem []) problem.goal
  pub costs : CostsFit domain problem

-- What is not refused is well typed.
abbrev pub AcceptedIsWellTyped : Type 0
AcceptedIsWellTyped =
    (domain : Domain) (problem : Problem) → first_refusal domain problem ≡ None
    → IsWellTyped domain problem

-- What is well typed is not refused.
abbrev pub WellTypedIsAccepted : Type 0
WellTypedIsAccepted =
    (domain : Domain) (problem : Problem) → IsWellTyped domain problem
    → first_refusal domain problem ≡ None

-- A fitting atom means the same fact by numbers and by names, whatever objects are given to the
-- parameters.
abbrev pub FittingAtomsKeepFacts : Type 0
FittingAtomsKeepFacts =
    (domain : Domain) (problem : Problem) (params : List Typed) (given : List ℕ) (atom : Atom)
    → AtomFits domain problem params atom → length given ≡ length params
    → fact_by_numbers (predicate_names domain) (object_names domain problem) given
    (atom_of (predicate_names domain) (object_names domain problem) (map name_text params) atom)
    ≡ fact_of params (named domain problem given) atom
