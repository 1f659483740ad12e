-- What is not refused is well typed.
use Rattle.std.proofs.Common.{◌≡◌, ◌≤◌, ℕ, zero, suc, Bool, true, false, not, nat_eq, nat_lt, cond, Option, Some, None, List, [], ◌∷◌, ◌++◌, length, map, get_or, All, true≢false, refl, sym, ap, ◌∙◌, arith}
use Rattle.std.proofs.lemmas.Bool.{not-false}
use Rattle.std.specs.Prelude.{is_none}
use Rattle.std.specs.Str.{bytes_eq}
use Rattle.std.proofs.lemmas.Bool.Decides.{nat_tests}
use Rattle.std.proofs.lemmas.Slice.Eq.{bytes_eq-Decides}
use Rattle.pb_pddl.specs.declared.tree.Name.{Name}
use Rattle.pb_pddl.specs.declared.tree.Typed.{Typed}
use Rattle.pb_pddl.specs.declared.tree.Term.{Term}
use Rattle.pb_pddl.specs.declared.tree.Atom.{Atom}
use Rattle.pb_pddl.specs.declared.tree.Literal.{Literal}
use Rattle.pb_pddl.specs.declared.tree.Predicate.{Predicate}
use Rattle.pb_pddl.specs.declared.tree.Action.{Action}
use Rattle.pb_pddl.specs.declared.tree.Domain.{Domain}
use Rattle.pb_pddl.specs.declared.tree.Problem.{Problem}
use Rattle.pb_lifted.specs.declared.refusal.Cause.{Cause}
use Rattle.pb_lifted.specs.declared.refusal.Cause.TheVariants as causes
use Rattle.pb_lifted.specs.declared.refusal.TypingRefusal.TheVariants.{TooManyObjects}
use Rattle.pb_lifted.specs.Names.{is_among, fault_if, repeated}
use Rattle.pb_lifted.specs.Types.{object, is_object, name_text, kind_or, kind_text, declared_types, type_names, unknown_kind, unknown_kinds, ancestor, height, is_cyclic}
use Rattle.pb_lifted.specs.Objects.{objects_of, predicate_of, entry_of_term}
use Rattle.pb_lifted.specs.Refusals as refusals
use Rattle.pb_lifted.specs.Space.{FitsParameter}
use Rattle.pb_lifted.specs.Typing.{AreDistinct, object_names, PredicateFits, ArgumentsFit, AtomFits, IsRooted, KindIsKnown, ActionFits, AcceptedIsWellTyped}
use Rattle.pb_lifted.proofs.Faultless.{nil_left, nil_right, each_nil, no_fault, AllFaultless, faultless}
use Rattle.pb_lifted.proofs.FittingCosts.{costs_fit}
use Rattle.pb_lifted.proofs.DistinctNames.{objects_distinct, declared_once}

-- ---- types

known_kind : (types : List Typed) (t : Typed) → unknown_kind types t.kind ≡ [] → KindIsKnown types t
known_kind types t h = at t.kind h
  where
    at : (kind : Option Name) → unknown_kind types kind ≡ [] → is_among (kind_or kind) (type_names types) ≡ true
    at None h = refl
    at (Some kind) h = not-false (is_among kind.text (type_names types)) (no_fault (not (is_among kind.text (type_names types))) kind.at h)

known_kinds : (types list : List Typed) → unknown_kinds types list ≡ [] → All (KindIsKnown types) list
known_kinds types list h k d less = known_kind types (get_or list k d) (each_nil (λ t. unknown_kind types t.kind) list h k d less)

all_both : (P : Typed → Type 0) (xs ys : List Typed) → All P xs → All P ys → All P (xs ++ ys)
all_both P [] ys a b k d less = b k d less
all_both P (x ∷ xs) ys a b zero d less = a 0 d (omega arith)
all_both P (x ∷ xs) ys a b (suc k) d less = all_both P xs ys (λ j e l. a (suc j) e (omega arith)) b k d (omega arith)

-- ---- limits

narrow_enough : (name : Name) (params : List Typed) → refusals.too_wide name params ≡ [] → length params ≤ 16
narrow_enough name params h = let no : nat_lt 16 (length params) ≡ false = no_fault (nat_lt 16 (length params)) name.at h in grind (arith, nat_tests)

few_enough : (n : ℕ) → refusals.too_many n ≡ None → n ≤ 1000
few_enough n h = at (nat_lt 1000 n) refl h
  where
    at : (b : Bool) → nat_lt 1000 n ≡ b → cond b (Some (TooManyObjects n)) None ≡ None → n ≤ 1000
    at true e h = cc
    at false e h = grind (arith, nat_tests)

-- ---- an atom

fits : (types : List Typed) (entry : Option Typed) (w : Typed) (a b : ℕ) → fault_if (is_none entry) a ≡ [] → fault_if (not (refusals.fits_kind types entry (kind_text w))) b ≡ []
    → FitsParameter types entry w
fits types None w a b known fit = cc
fits types (Some entry) w a b known fit =
    not-false (refusals.fits_kind types (Some entry) (kind_text w)) (no_fault (not (refusals.fits_kind types (Some entry) (kind_text w))) b fit)

arguments_fit : (domain : Domain) (problem : Problem) (params : List Typed) (terms : List Term) (wanted : List Typed) → length terms ≡ length wanted
    → refusals.unknown_terms domain problem params terms ≡ [] → refusals.wrong_types domain problem params terms wanted ≡ [] → ArgumentsFit domain problem params terms wanted
arguments_fit domain problem params [] [] count known fit = tt
arguments_fit domain problem params [] (w ∷ wanted) count known fit = absurd (omega arith)
arguments_fit domain problem params (t ∷ terms) [] count known fit = absurd (omega arith)
arguments_fit domain problem params (t ∷ terms) (w ∷ wanted) count known fit = (
  fits domain.types (entry_of_term (objects_of domain problem) params t) w _ _ (nil_left _ (refusals.unknown_terms domain problem params terms) known)
      (nil_left _ (refusals.wrong_types domain problem params terms wanted) fit),
  arguments_fit domain problem params terms wanted (omega arith) (nil_right _ (refusals.unknown_terms domain problem params terms) known)
      (nil_right _ (refusals.wrong_types domain problem params terms wanted) fit),
)

same_count : (m n : ℕ) → not (nat_eq m n) ≡ false → m ≡ n
same_count m n h = grind (arith, nat_tests)

atom_fits : (domain : Domain) (problem : Problem) (params : List Typed) (atom : Atom) → refusals.in_atom causes.UnknownPredicate domain problem params atom ≡ []
    → refusals.in_atom causes.Arity domain problem params atom ≡ [] → refusals.in_atom causes.UnknownObject domain problem params atom ≡ []
    → refusals.in_atom causes.WrongType domain problem params atom ≡ [] → AtomFits domain problem params atom
atom_fits domain problem params atom declared count known fit = at (predicate_of domain.predicates atom.predicate.text) refl declared count fit
  where
    at : (p : Option Predicate) → predicate_of domain.predicates atom.predicate.text ≡ p → fault_if (is_none p) atom.predicate.at ≡ []
        → fault_if (not (refusals.fits_arity atom.terms p)) atom.predicate.at ≡ [] → refusals.wrong_types domain problem params atom.terms (refusals.params_of p) ≡ []
        → AtomFits domain problem params atom
    at None e declared count fit = cc
    at (Some p) e declared count fit =
        record {
          predicate = p;
          declared = e;
          arguments =
              arguments_fit domain problem params atom.terms p.params (same_count (length atom.terms) (length p.params) (no_fault _ atom.predicate.at count)) known fit;
        }

-- ---- lists of atoms

abbrev pub NoneIn : (Cause → List ℕ) → Type 0
NoneIn places = (places causes.UnknownPredicate ≡ []) × (places causes.Arity ≡ []) × (places causes.UnknownObject ≡ []) × (places causes.WrongType ≡ [])

atoms_fit : (domain : Domain) (problem : Problem) (params : List Typed) (atoms : List Atom) → NoneIn (λ c. refusals.in_atoms c domain problem params atoms)
    → All (AtomFits domain problem params) atoms
atoms_fit domain problem params atoms none k d less =
    atom_fits domain problem params (get_or atoms k d) (each_nil (λ a. refusals.in_atom causes.UnknownPredicate domain problem params a) atoms none.0 k d less)
    (each_nil (λ a. refusals.in_atom causes.Arity domain problem params a) atoms none.1 k d less)
    (each_nil (λ a. refusals.in_atom causes.UnknownObject domain problem params a) atoms none.2 k d less)
    (each_nil (λ a. refusals.in_atom causes.WrongType domain problem params a) atoms none.3 k d less)

effect_fits : (domain : Domain) (problem : Problem) (params : List Typed) (effect : List Literal) → NoneIn (λ c. refusals.in_effect c domain problem params effect)
    → All (λ (l : Literal). AtomFits domain problem params l.atom) effect
effect_fits domain problem params effect none k d less =
    let l : Literal = get_or effect k d in
    atom_fits domain problem params l.atom (each_nil (λ (l : Literal). refusals.in_atom causes.UnknownPredicate domain problem params l.atom) effect none.0 k d less)
    (each_nil (λ (l : Literal). refusals.in_atom causes.Arity domain problem params l.atom) effect none.1 k d less)
    (each_nil (λ (l : Literal). refusals.in_atom causes.UnknownObject domain problem params l.atom) effect none.2 k d less)
    (each_nil (λ (l : Literal). refusals.in_atom causes.WrongType domain problem params l.atom) effect none.3 k d less)

abbrev pub left_none : (f g : Cause → List ℕ) → NoneIn (λ c. f c ++ g c) → NoneIn f
left_none f g none = (nil_left _ _ none.0, nil_left _ _ none.1, nil_left _ _ none.2, nil_left _ _ none.3)

abbrev pub right_none : (f g : Cause → List ℕ) → NoneIn (λ c. f c ++ g c) → NoneIn g
right_none f g none = (nil_right _ _ none.0, nil_right _ _ none.1, nil_right _ _ none.2, nil_right _ _ none.3)

action_fits : (domain : Domain) (problem : Problem) (action : Action) → repeated [] (map refusals.typed_name action.params) ≡ [] → refusals.too_wide action.name action.params ≡ [] → unknown_kinds domain.types action.params ≡ []
    → NoneIn (λ c. refusals.in_atoms c domain problem action.params action.pre ++ refusals.in_effect c domain problem action.params action.effect) → ActionFits domain problem action
action_fits domain problem action once narrow kinds none =
    record {
      narrow = narrow_enough action.name action.params narrow;
      distinct = declared_once refusals.typed_name action.params once;
      params = known_kinds domain.types action.params kinds;
      pre =
          atoms_fit domain problem action.params action.pre
          (left_none (λ c. refusals.in_atoms c domain problem action.params action.pre) (λ c. refusals.in_effect c domain problem action.params action.effect) none);
      effect =
          effect_fits domain problem action.params action.effect
          (right_none (λ c. refusals.in_atoms c domain problem action.params action.pre) (λ c. refusals.in_effect c domain problem action.params action.effect) none);
    }

actions_fit : (domain : Domain) (problem : Problem) → refusals.repeated_params domain.actions ≡ [] → refusals.in_actions causes.TooWide domain problem ≡ [] → refusals.in_actions causes.UnknownType domain problem ≡ [] → NoneIn (λ c. refusals.in_actions c domain problem)
    → All (ActionFits domain problem) domain.actions
actions_fit domain problem once narrow kinds none k d less =
    action_fits domain problem (get_or domain.actions k d) (each_nil (λ (a : Action). repeated [] (map refusals.typed_name a.params)) domain.actions once k d less) (each_nil (λ a. refusals.in_action causes.TooWide domain problem a) domain.actions narrow k d less)
    (each_nil (λ a. refusals.in_action causes.UnknownType domain problem a) domain.actions kinds k d less) (
      each_nil (λ a. refusals.in_action causes.UnknownPredicate domain problem a) domain.actions none.0 k d less,
      each_nil (λ a. refusals.in_action causes.Arity domain problem a) domain.actions none.1 k d less,
      each_nil (λ a. refusals.in_action causes.UnknownObject domain problem a) domain.actions none.2 k d less,
      each_nil (λ a. refusals.in_action causes.WrongType domain problem a) domain.actions none.3 k d less,
    )

abbrev pub fault_free : Domain → Problem → Type 0
fault_free domain problem = AllFaultless refusals.causes_in_order domain problem

domain_atoms : (domain : Domain) (problem : Problem) → fault_free domain problem → NoneIn (λ c. refusals.in_domain c domain problem)
domain_atoms domain problem free = (free.1.1.1.1.0.0, free.1.1.1.1.1.0.0, free.1.1.1.1.1.1.0.0, free.1.1.1.1.1.1.1.0.0)

problem_atoms : (domain : Domain) (problem : Problem) → fault_free domain problem → NoneIn (λ c. refusals.in_atoms c domain problem [] problem.init ++ refusals.in_atoms c domain problem [] problem.goal)
problem_atoms domain problem free = (free.1.1.1.1.0.1, free.1.1.1.1.1.0.1, free.1.1.1.1.1.1.0.1, free.1.1.1.1.1.1.1.0.1)

distinct : (domain : Domain) (problem : Problem) → fault_free domain problem → AreDistinct (object_names domain problem)
distinct domain problem free =
    objects_distinct domain.constants problem.objects (nil_right _ _ (nil_left _ _ (nil_left _ _ (nil_left _ _ free.1.0.0)))) free.1.0.1

known_objects : (domain : Domain) (problem : Problem) → fault_free domain problem → All (KindIsKnown domain.types) (objects_of domain problem)
known_objects domain problem free =
    all_both (KindIsKnown domain.types) domain.constants problem.objects
    (known_kinds domain.types domain.constants (nil_left _ _ (nil_left _ _ free.1.1.0.0))) (known_kinds domain.types problem.objects free.1.1.0.1)

predicates_fit : (domain : Domain) (problem : Problem) → fault_free domain problem → All (PredicateFits domain) domain.predicates
predicates_fit domain problem free k d less =
    let p : Predicate = get_or domain.predicates k d in
    record {
      narrow =
          narrow_enough p.name p.params
          (each_nil (λ p. refusals.in_predicate causes.TooWide domain.types p) domain.predicates (nil_left _ _ free.1.1.1.1.1.1.1.1.0.0) k d less);
      params =
          known_kinds domain.types p.params
          (each_nil (λ p. refusals.in_predicate causes.UnknownType domain.types p) domain.predicates (nil_right _ _ (nil_left _ _ free.1.1.0.0)) k d less);
    }

comes_to_object : (types : List Typed) (t : Typed) → is_cyclic types t ≡ false → IsRooted types t
comes_to_object types t h = at (is_object (name_text t)) refl h
  where
    at : (b : Bool) → is_object (name_text t) ≡ b → cond b (not (is_object (kind_text t))) (not (is_object (ancestor types (height types) (name_text t)))) ≡ false → IsRooted types t
    at true e h =
        record { steps = 0; up = (bytes_eq-Decides (name_text t) object).0 e; root = λ _. (bytes_eq-Decides (kind_text t) object).0 (not-false (is_object (kind_text t)) h) }
    at false e h =
        record {
          steps = height types;
          up = (bytes_eq-Decides (ancestor types (height types) (name_text t)) object).0 (not-false (is_object (ancestor types (height types) (name_text t))) h);
          root = λ same. let it_is : is_object (name_text t) ≡ true = ap is_object same ∙ (bytes_eq-Decides object object).1 refl in absurd (true≢false (sym it_is ∙ e));
        }

rooted : (domain : Domain) (problem : Problem) → fault_free domain problem → All (IsRooted domain.types) domain.types
rooted domain problem free k d less =
    let t : Typed = get_or domain.types k d in
    comes_to_object domain.types t
    (no_fault (is_cyclic domain.types t) t.name.at (each_nil (λ t. fault_if (is_cyclic domain.types t) t.name.at) domain.types free.1.1.1.0.0 k d less))

same_domain : (domain : Domain) (problem : Problem) → fault_free domain problem → problem.domain.text ≡ domain.name.text
same_domain domain problem free =
    (bytes_eq-Decides problem.domain.text domain.name.text).0
    (not-false (bytes_eq problem.domain.text domain.name.text) (no_fault (not (bytes_eq problem.domain.text domain.name.text)) problem.domain.at free.0.1))

pub accepted_is_well_typed : AcceptedIsWellTyped
accepted_is_well_typed domain problem accepted =
    let free : fault_free domain problem = faultless refusals.causes_in_order domain problem accepted in
    record {
      same_domain = same_domain domain problem free;
      few = few_enough (length (objects_of domain problem)) free.1.1.1.1.1.1.1.1.1.1.1.1.1;
      rooted = rooted domain problem free;
      distinct_types = declared_once refusals.typed_name (declared_types domain.types) (nil_left _ _ (nil_left _ _ (nil_left _ _ (nil_left _ _ free.1.0.0))));
      distinct_predicates = declared_once refusals.predicate_name domain.predicates (nil_right _ _ (nil_left _ _ (nil_left _ _ free.1.0.0)));
      distinct_actions = declared_once refusals.action_name domain.actions (nil_right _ _ (nil_left _ _ free.1.0.0));
      distinct = distinct domain problem free;
      objects = known_objects domain problem free;
      predicates = predicates_fit domain problem free;
      actions = actions_fit domain problem (nil_right _ _ free.1.0.0) (nil_right _ _ free.1.1.1.1.1.1.1.1.0.0) (nil_right _ _ free.1.1.0.0) (domain_atoms domain problem free);
      init =
          atoms_fit domain problem [] problem.init
          (left_none (λ c. refusals.in_atoms c domain problem [] problem.init) (λ c. refusals.in_atoms c domain problem [] problem.goal) (problem_atoms domain problem free));
      goal =
          atoms_fit domain problem [] problem.goal
          (right_none (λ c. refusals.in_atoms c domain problem [] problem.init) (λ c. refusals.in_atoms c domain problem [] problem.goal) (problem_atoms domain problem free));
      costs =
          let costs = free.1.1.1.1.1.1.1.1.1 in
          costs_fit domain problem costs.0.0 costs.0.1 costs.1.0.0 costs.1.0.1 costs.1.1.0.0 costs.1.1.0.1 costs.1.1.1.0.0;
    }
