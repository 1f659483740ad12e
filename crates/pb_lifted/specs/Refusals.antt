-- Why a domain and a problem are no task: for each cause the places where it applies, and the first
-- of all.
use Rattle.std.specs.Prelude.{◌≡◌, ℕ, Bool, true, not, nat_lt, nat_eq, if◌then◌else◌, List, [], ◌∷◌, ◌++◌, length, map, flat_map, Option, Some, None, is_none}
use Rattle.std.specs.Str.{bytes_eq}
use Rattle.pb_pddl.specs.declared.tree.Name.{Name}
use Rattle.pb_pddl.specs.declared.tree.Typed.{Typed}
use Rattle.pb_pddl.specs.declared.tree.Term.{Term}
use Rattle.pb_pddl.specs.declared.tree.Atom.{Atom}
use Rattle.pb_pddl.specs.declared.tree.Literal.{Literal}
use Rattle.pb_pddl.specs.declared.tree.Predicate.{Predicate}
use Rattle.pb_pddl.specs.declared.tree.Action.{Action}
use Rattle.pb_pddl.specs.declared.tree.Domain.{Domain}
use Rattle.pb_pddl.specs.declared.tree.Problem.{Problem}
use Rattle.pb_lifted.specs.declared.refusal.Cause.{Cause}
use Rattle.pb_lifted.specs.declared.refusal.Cause.TheVariants as causes
use Rattle.pb_lifted.specs.declared.refusal.File.TheVariants as files
use Rattle.pb_lifted.specs.declared.refusal.Place.{Place}
use Rattle.pb_lifted.specs.declared.refusal.TypingRefusal.{TypingRefusal}
use Rattle.pb_lifted.specs.declared.refusal.TypingRefusal.TheVariants as refusals
use Rattle.pb_lifted.specs.declared.refusal.LiftedError.{LiftedError}
use Rattle.pb_lifted.specs.declared.refusal.LiftedError.TheVariants as errors
use Rattle.pb_lifted.specs.Names.{fault_if, repeated, earliest}
use Rattle.pb_lifted.specs.Types.{name_text, kind_text, declared_types, cyclic_types, unknown_kinds, is_below}
use Rattle.pb_lifted.specs.Objects.{objects_of, predicate_of, entry_of_term, term_name}
use Rattle.pb_lifted.specs.Costs.{undeclared, undeclared_metric, costs_again, too_great, zero_cost}

-- ---- in an atom, whose variables are these parameters

-- as many arguments as parameters
abbrev pub fits_arity : List Term → Option Predicate → Bool
fits_arity terms None = true
fits_arity terms (Some predicate) = nat_eq (length terms) (length predicate.params)

abbrev pub unknown_terms : Domain → Problem → List Typed → List Term → List ℕ
unknown_terms domain problem params terms =
    flat_map (λ t. fault_if (is_none (entry_of_term (objects_of domain problem) params t))
    (term_name t).at) terms

-- the type of an argument is that of the parameter or below it
abbrev pub fits_kind : List Typed → Option Typed → List ℕ → Bool
fits_kind types None high = true
fits_kind types (Some entry) high = is_below types (kind_text entry) high

abbrev pub is_misfit : Domain → Problem → List Typed → Term → Typed → Bool
is_misfit domain problem params term wanted =
    not (fits_kind domain.types (entry_of_term (objects_of domain problem) params term)
    (kind_text wanted))

abbrev pub wrong_types : Domain → Problem → List Typed → List Term → List Typed → List ℕ
wrong_types domain problem params [] wanted = []
wrong_types domain problem params (t ∷ terms) [] = []
wrong_types domain problem params (t ∷ terms) (w ∷ wanted) =
    fault_if (is_misfit domain problem params t w) (term_name t).at
    ++ wrong_types domain problem params terms wanted

abbrev pub params_of : Option Predicate → List Typed
params_of None = []
params_of (Some predicate) = predicate.params

abbrev pub in_atom : Cause → Domain → Problem → List Typed → Atom → List ℕ
in_atom causes.UnknownPredicate domain problem params atom =
    fault_if (is_none (predicate_of domain.predicates atom.predicate.text)) atom.predicate.at
in_atom causes.Arity domain problem params atom =
    fault_if (not (fits_arity atom.terms (predicate_of domain.predicates atom.predicate.text)))
    atom.predicate.at
in_atom causes.UnknownObject domain problem params atom =
    unknown_terms domain problem params atom.terms
in_atom causes.WrongType domain problem params atom =
    wrong_types domain problem params atom.terms
    (params_of (predicate_of domain.predicates atom.predicate.text))
in_atom cause domain problem params atom = []

abbrev pub in_atoms : Cause → Domain → Problem → List Typed → List Atom → List ℕ
in_atoms cause domain problem params atoms =
    flat_map (λ a. in_atom cause domain problem params a) atoms

abbrev pub in_effect : Cause → Domain → Problem → List Typed → List Literal → List ℕ
in_effect cause domain problem params literals =
    flat_map (λ l. in_atom cause domain problem params l.atom) literals

-- ---- in a declaration

abbrev pub predicate_name : Predicate → Name
predicate_name p = p.name

abbrev pub action_name : Action → Name
action_name a = a.name

abbrev pub typed_name : Typed → Name
typed_name t = t.name

-- a parameter of an action that is declared twice
abbrev pub repeated_params : List Action → List ℕ
repeated_params actions = flat_map (λ a. repeated [] (map typed_name a.params)) actions

-- a predicate or an action of more parameters than may be
abbrev pub too_wide : Name → List Typed → List ℕ
too_wide name params = fault_if (nat_lt 16 (length params)) name.at

abbrev pub in_predicate : Cause → List Typed → Predicate → List ℕ
in_predicate causes.UnknownType types predicate = unknown_kinds types predicate.params
in_predicate causes.TooWide types predicate = too_wide predicate.name predicate.params
in_predicate cause types predicate = []

abbrev pub in_action : Cause → Domain → Problem → Action → List ℕ
in_action causes.UnknownType domain problem action = unknown_kinds domain.types action.params
in_action causes.TooWide domain problem action = too_wide action.name action.params
in_action causes.NoFunction domain problem action = undeclared domain.has_cost action.costs
in_action causes.CostTwice domain problem action = costs_again action.costs
in_action causes.CostRange domain problem action = too_great 1048576 action.costs
in_action causes.ZeroCost domain problem action = zero_cost problem.metric action
in_action cause domain problem action =
    in_atoms cause domain problem action.params action.pre
    ++ in_effect cause domain problem action.params action.effect

abbrev pub in_predicates : Cause → List Typed → List Predicate → List ℕ
in_predicates cause types predicates = flat_map (λ p. in_predicate cause types p) predicates

abbrev pub in_actions : Cause → Domain → Problem → List ℕ
in_actions cause domain problem = flat_map (λ a. in_action cause domain problem a) domain.actions

-- ---- in the two files

abbrev pub in_domain : Cause → Domain → Problem → List ℕ
in_domain causes.DomainName domain problem = []
in_domain causes.Twice domain problem =
    repeated [] (map typed_name (declared_types domain.types))
    ++ repeated [] (map typed_name domain.constants)
    ++ repeated [] (map predicate_name domain.predicates)
    ++ repeated [] (map action_name domain.actions) ++ repeated_params domain.actions
in_domain causes.UnknownType domain problem =
    unknown_kinds domain.types domain.constants ++ in_predicates causes.UnknownType domain.types
    domain.predicates ++ in_actions causes.UnknownType domain problem
in_domain causes.TypeCycle domain problem = cyclic_types domain.types
in_domain causes.TooWide domain problem =
    in_predicates causes.TooWide domain.types domain.predicates
    ++ in_actions causes.TooWide domain problem
in_domain cause domain problem = in_actions cause domain problem

abbrev pub in_problem : Cause → Domain → Problem → List ℕ
in_problem causes.DomainName domain problem =
    fault_if (not (bytes_eq problem.domain.text domain.name.text)) problem.domain.at
in_problem causes.Twice domain problem =
    repeated (map name_text domain.constants) (map typed_name problem.objects)
in_problem causes.UnknownType domain problem = unknown_kinds domain.types problem.objects
in_problem causes.TypeCycle domain problem = []
in_problem causes.TooWide domain problem = []
in_problem causes.NoFunction domain problem =
    undeclared domain.has_cost problem.costs ++ undeclared_metric domain.has_cost problem.metric
in_problem causes.CostTwice domain problem = costs_again problem.costs
in_problem causes.CostRange domain problem = too_great 0 problem.costs
in_problem causes.ZeroCost domain problem = []
in_problem cause domain problem =
    in_atoms cause domain problem [] problem.init ++ in_atoms cause domain problem [] problem.goal

-- ---- the first of all

-- the first place: in the domain, or else in the problem
abbrev pub place_in : Option ℕ → Option ℕ → Option Place
place_in (Some at) in_the_problem = Some (record { file = files.Domain; at = at })
place_in None (Some at) = Some (record { file = files.Problem; at = at })
place_in None None = None

abbrev pub first_place : Cause → Domain → Problem → Option Place
first_place cause domain problem =
    place_in (earliest None (in_domain cause domain problem))
    (earliest None (in_problem cause domain problem))

-- the causes that have a place, in the order in which they are reported
abbrev pub causes_in_order : List Cause
causes_in_order =
    causes.DomainName ∷ causes.Twice ∷ causes.UnknownType ∷ causes.TypeCycle
    ∷ causes.UnknownPredicate ∷ causes.Arity ∷ causes.UnknownObject ∷ causes.WrongType
    ∷ causes.TooWide ∷ causes.NoFunction ∷ causes.CostTwice ∷ causes.CostRange ∷ causes.ZeroCost
    ∷ []

abbrev pub or_refusal : Cause → Option Place → Option TypingRefusal → Option TypingRefusal
or_refusal cause None later = later
or_refusal cause (Some place) later = Some (refusals.Named cause place)

abbrev pub too_many : ℕ → Option TypingRefusal
too_many n = if nat_lt 1000 n then Some (refusals.TooManyObjects n) else None

-- the first of these causes that applies, or else too many objects
abbrev pub first_among : List Cause → Domain → Problem → Option TypingRefusal
first_among [] domain problem = too_many (length (objects_of domain problem))
first_among (cause ∷ later) domain problem =
    or_refusal cause (first_place cause domain problem) (first_among later domain problem)

-- why the two are no task, or None if they are one
abbrev pub first_refusal : Domain → Problem → Option TypingRefusal
first_refusal domain problem = first_among causes_in_order domain problem

-- an error reports this refusal, unless memory ran out
abbrev pub Tells : Option TypingRefusal → LiftedError → Type 0
Tells found (errors.Refused refusal) = found ≡ Some refusal
Tells found errors.Memory = Unit {0}
