-- What is well typed is not refused.
use Rattle.std.proofs.Common.{◌≡◌, ◌≤◌, ℕ, zero, suc, Bool, true, false, not, nat_eq, nat_lt, cond, Option, Some, None, List, [], ◌∷◌, ◌++◌, length, map, flat_map, get_or, All, refl, ap, ◌∙◌, arith}
use Rattle.std.specs.Prelude.{is_none}
use Rattle.std.specs.Str.{bytes_eq}
use Rattle.std.proofs.lemmas.Bool.Decides.{nat_tests}
use Rattle.std.proofs.lemmas.Slice.Eq.{bytes_eq-Decides}
use Rattle.pb_pddl.specs.declared.tree.Name.{Name}
use Rattle.pb_pddl.specs.declared.tree.Typed.{Typed}
use Rattle.pb_pddl.specs.declared.tree.Term.{Term}
use Rattle.pb_pddl.specs.declared.tree.Atom.{Atom}
use Rattle.pb_pddl.specs.declared.tree.Literal.{Literal}
use Rattle.pb_pddl.specs.declared.tree.Predicate.{Predicate}
use Rattle.pb_pddl.specs.declared.tree.Action.{Action}
use Rattle.pb_pddl.specs.declared.tree.Domain.{Domain}
use Rattle.pb_pddl.specs.declared.tree.Problem.{Problem}
use Rattle.pb_lifted.specs.declared.refusal.Cause.{Cause}
use Rattle.pb_lifted.specs.declared.refusal.Cause.TheVariants as causes
use Rattle.pb_lifted.specs.declared.refusal.TypingRefusal.TheVariants.{TooManyObjects}
use Rattle.pb_lifted.specs.Names.{is_among, fault_if, repeated}
use Rattle.pb_lifted.specs.Types.{object, is_object, name_text, kind_or, kind_text, declared_types, type_names, unknown_kind, unknown_kinds, ancestor, height, is_cyclic, cyclic_types}
use Rattle.pb_lifted.specs.Objects.{objects_of, entry_of_term}
use Rattle.pb_lifted.specs.Refusals as refusals
use Rattle.pb_lifted.specs.Space.{FitsParameter}
use Rattle.pb_lifted.specs.Typing.{ArgumentsFit, AtomFits, IsRooted, KindIsKnown, ActionFits, IsWellTyped, WellTypedIsAccepted}
use Rattle.pb_lifted.proofs.Faultless.{both_nil, all_nil, AllFaultless, not_refused}
use Rattle.pb_lifted.proofs.FittingCosts.{all_declared, none_again, all_in_range, none_zero}
use Rattle.pb_lifted.proofs.DistinctNames.{none_twice, no_constant_twice, no_object_twice}
use Rattle.pb_lifted.proofs.NamesUp.{object_is_reached}
use Rattle.pb_lifted.proofs.WellTyped.{NoneIn}

faultless_if : (b : Bool) (at : ℕ) → b ≡ false → fault_if b at ≡ []
faultless_if b at h = ap (λ c. fault_if c at) h

all_left : (P : Typed → Type 0) (xs ys : List Typed) → All P (xs ++ ys) → All P xs
all_left P [] ys all k d less = absurd (omega arith)
all_left P (x ∷ xs) ys all zero d less = all 0 d (omega arith)
all_left P (x ∷ xs) ys all (suc k) d less = all_left P xs ys (λ j e l. all (suc j) e (omega arith)) k d (omega arith)

all_right : (P : Typed → Type 0) (xs ys : List Typed) → All P (xs ++ ys) → All P ys
all_right P [] ys all = all
all_right P (x ∷ xs) ys all = all_right P xs ys (λ j e l. all (suc j) e (omega arith))

-- ---- types

known : (types : List Typed) (t : Typed) → KindIsKnown types t → unknown_kind types t.kind ≡ []
known types t h = at t.kind h
  where
    at : (kind : Option Name) → is_among (kind_or kind) (type_names types) ≡ true → unknown_kind types kind ≡ []
    at None h = refl
    at (Some kind) h = faultless_if (not (is_among kind.text (type_names types))) kind.at (ap not h)

all_known : (types list : List Typed) → All (KindIsKnown types) list → unknown_kinds types list ≡ []
all_known types list all = all_nil (λ t. unknown_kind types t.kind) list (λ k d less. known types (get_or list k d) (all k d less))

not_cyclic : (types : List Typed) (t : Typed) → IsRooted types t → is_cyclic types t ≡ false
not_cyclic types t rooted = at (is_object (name_text t)) refl
  where
    at : (b : Bool) → is_object (name_text t) ≡ b → cond b (not (is_object (kind_text t))) (not (is_object (ancestor types (height types) (name_text t)))) ≡ false
    at true e = ap not (ap is_object (rooted.root ((bytes_eq-Decides (name_text t) object).0 e)) ∙ (bytes_eq-Decides object object).1 refl)
    at false e = ap not (object_is_reached types rooted.steps (name_text t) (ap is_object rooted.up ∙ (bytes_eq-Decides object object).1 refl))

none_cyclic : (types : List Typed) → All (IsRooted types) types → cyclic_types types ≡ []
none_cyclic types all =
    all_nil (λ t. fault_if (is_cyclic types t) t.name.at) types (λ k d less. let t : Typed = get_or types k d in faultless_if (is_cyclic types t) t.name.at (not_cyclic types t (all k d less)))

-- ---- limits

not_wide : (name : Name) (params : List Typed) → length params ≤ 16 → refusals.too_wide name params ≡ []
not_wide name params few = let no : nat_lt 16 (length params) ≡ false = grind (arith, nat_tests) in faultless_if (nat_lt 16 (length params)) name.at no

not_many : (n : ℕ) → n ≤ 1000 → refusals.too_many n ≡ None
not_many n few = let no : nat_lt 1000 n ≡ false = grind (arith, nat_tests) in ap (λ b. cond b (Some (TooManyObjects n)) None) no

-- ---- an atom

entry_known : (types : List Typed) (entry : Option Typed) (w : Typed) (at : ℕ) → FitsParameter types entry w → fault_if (is_none entry) at ≡ []
entry_known types None w at fit = absurd fit
entry_known types (Some entry) w at fit = refl

entry_fits : (types : List Typed) (entry : Option Typed) (w : Typed) (at : ℕ) → FitsParameter types entry w → fault_if (not (refusals.fits_kind types entry (kind_text w))) at ≡ []
entry_fits types None w at fit = absurd fit
entry_fits types (Some entry) w at fit = faultless_if (not (refusals.fits_kind types (Some entry) (kind_text w))) at (ap not fit)

as_many : (domain : Domain) (problem : Problem) (params : List Typed) (terms : List Term) (wanted : List Typed) → ArgumentsFit domain problem params terms wanted → length terms ≡ length wanted
as_many domain problem params [] [] fit = refl
as_many domain problem params [] (w ∷ wanted) fit = absurd fit
as_many domain problem params (t ∷ terms) [] fit = absurd fit
as_many domain problem params (t ∷ terms) (w ∷ wanted) fit = ap suc (as_many domain problem params terms wanted fit.1)

terms_known : (domain : Domain) (problem : Problem) (params : List Typed) (terms : List Term) (wanted : List Typed) → ArgumentsFit domain problem params terms wanted
    → refusals.unknown_terms domain problem params terms ≡ []
terms_known domain problem params [] wanted fit = refl
terms_known domain problem params (t ∷ terms) [] fit = absurd fit
terms_known domain problem params (t ∷ terms) (w ∷ wanted) fit =
    both_nil _ (refusals.unknown_terms domain problem params terms) (entry_known domain.types (entry_of_term (objects_of domain problem) params t) w _ fit.0)
    (terms_known domain problem params terms wanted fit.1)

terms_fit : (domain : Domain) (problem : Problem) (params : List Typed) (terms : List Term) (wanted : List Typed) → ArgumentsFit domain problem params terms wanted
    → refusals.wrong_types domain problem params terms wanted ≡ []
terms_fit domain problem params [] wanted fit = refl
terms_fit domain problem params (t ∷ terms) [] fit = absurd fit
terms_fit domain problem params (t ∷ terms) (w ∷ wanted) fit =
    both_nil _ (refusals.wrong_types domain problem params terms wanted) (entry_fits domain.types (entry_of_term (objects_of domain problem) params t) w _ fit.0)
    (terms_fit domain problem params terms wanted fit.1)

no_other_count : (m n : ℕ) → m ≡ n → not (nat_eq m n) ≡ false
no_other_count m n same = grind (arith, nat_tests)

in_no_atom : (domain : Domain) (problem : Problem) (params : List Typed) (atom : Atom) → AtomFits domain problem params atom → NoneIn (λ c. refusals.in_atom c domain problem params atom)
in_no_atom domain problem params atom fits = (
  ap (λ p. fault_if (is_none p) atom.predicate.at) fits.declared,
  ap (λ p. fault_if (not (refusals.fits_arity atom.terms p)) atom.predicate.at) fits.declared
      ∙ faultless_if (not (nat_eq (length atom.terms) (length fits.predicate.params))) atom.predicate.at
      (no_other_count (length atom.terms) (length fits.predicate.params) (as_many domain problem params atom.terms fits.predicate.params fits.arguments)),
  terms_known domain problem params atom.terms fits.predicate.params fits.arguments,
  ap (λ p. refusals.wrong_types domain problem params atom.terms (refusals.params_of p)) fits.declared
      ∙ terms_fit domain problem params atom.terms fits.predicate.params fits.arguments,
)

-- ---- lists of atoms

in_none : {A : Type 0} (places : Cause → A → List ℕ) (list : List A) → All (λ a. NoneIn (λ c. places c a)) list → NoneIn (λ c. flat_map (places c) list)
in_none places list all = (
  all_nil (places causes.UnknownPredicate) list (λ k d less. (all k d less).0),
  all_nil (places causes.Arity) list (λ k d less. (all k d less).1),
  all_nil (places causes.UnknownObject) list (λ k d less. (all k d less).2),
  all_nil (places causes.WrongType) list (λ k d less. (all k d less).3),
)

in_neither : (f g : Cause → List ℕ) → NoneIn f → NoneIn g → NoneIn (λ c. f c ++ g c)
in_neither f g a b = (both_nil _ _ a.0 b.0, both_nil _ _ a.1 b.1, both_nil _ _ a.2 b.2, both_nil _ _ a.3 b.3)

in_no_atoms : (domain : Domain) (problem : Problem) (params : List Typed) (atoms : List Atom) → All (AtomFits domain problem params) atoms
    → NoneIn (λ c. refusals.in_atoms c domain problem params atoms)
in_no_atoms domain problem params atoms all =
    in_none (λ c a. refusals.in_atom c domain problem params a) atoms (λ k d less. in_no_atom domain problem params (get_or atoms k d) (all k d less))

in_no_effect : (domain : Domain) (problem : Problem) (params : List Typed) (effect : List Literal) → All (λ (l : Literal). AtomFits domain problem params l.atom) effect
    → NoneIn (λ c. refusals.in_effect c domain problem params effect)
in_no_effect domain problem params effect all =
    in_none (λ c (l : Literal). refusals.in_atom c domain problem params l.atom) effect
    (λ k d less. let l : Literal = get_or effect k d in in_no_atom domain problem params l.atom (all k d less))

in_no_action : (domain : Domain) (problem : Problem) (action : Action) → ActionFits domain problem action
    → NoneIn (λ c. refusals.in_atoms c domain problem action.params action.pre ++ refusals.in_effect c domain problem action.params action.effect)
in_no_action domain problem action fits =
    in_neither (λ c. refusals.in_atoms c domain problem action.params action.pre) (λ c. refusals.in_effect c domain problem action.params action.effect)
    (in_no_atoms domain problem action.params action.pre fits.pre) (in_no_effect domain problem action.params action.effect fits.effect)

in_no_actions : (domain : Domain) (problem : Problem) → All (ActionFits domain problem) domain.actions → NoneIn (λ c. refusals.in_domain c domain problem)
in_no_actions domain problem all = (
  all_nil (λ a. refusals.in_action causes.UnknownPredicate domain problem a) domain.actions (λ k d less. (in_no_action domain problem (get_or domain.actions k d) (all k d less)).0),
  all_nil (λ a. refusals.in_action causes.Arity domain problem a) domain.actions (λ k d less. (in_no_action domain problem (get_or domain.actions k d) (all k d less)).1),
  all_nil (λ a. refusals.in_action causes.UnknownObject domain problem a) domain.actions (λ k d less. (in_no_action domain problem (get_or domain.actions k d) (all k d less)).2),
  all_nil (λ a. refusals.in_action causes.WrongType domain problem a) domain.actions (λ k d less. (in_no_action domain problem (get_or domain.actions k d) (all k d less)).3),
)

in_no_problem : (domain : Domain) (problem : Problem) → IsWellTyped domain problem
    → NoneIn (λ c. refusals.in_atoms c domain problem [] problem.init ++ refusals.in_atoms c domain problem [] problem.goal)
in_no_problem domain problem typed =
    in_neither (λ c. refusals.in_atoms c domain problem [] problem.init) (λ c. refusals.in_atoms c domain problem [] problem.goal)
    (in_no_atoms domain problem [] problem.init typed.init) (in_no_atoms domain problem [] problem.goal typed.goal)

-- ---- cause by cause

same_domain : (domain : Domain) (problem : Problem) → IsWellTyped domain problem → refusals.in_problem causes.DomainName domain problem ≡ []
same_domain domain problem typed =
    faultless_if (not (bytes_eq problem.domain.text domain.name.text)) problem.domain.at
    (ap not (ap (λ t. bytes_eq t domain.name.text) typed.same_domain ∙ (bytes_eq-Decides domain.name.text domain.name.text).1 refl))

none_declared_twice : (domain : Domain) (problem : Problem) → IsWellTyped domain problem → refusals.in_domain causes.Twice domain problem ≡ []
none_declared_twice domain problem typed =
    both_nil _ _
    (both_nil _ _
    (both_nil _ _
    (both_nil _ _ (none_twice refusals.typed_name (declared_types domain.types) typed.distinct_types) (no_constant_twice domain.constants problem.objects typed.distinct))
    (none_twice refusals.predicate_name domain.predicates typed.distinct_predicates))
    (none_twice refusals.action_name domain.actions typed.distinct_actions))
    (all_nil (λ (a : Action). repeated [] (map refusals.typed_name a.params)) domain.actions
    (λ k d less. let a : Action = get_or domain.actions k d in none_twice refusals.typed_name a.params (typed.actions k d less).distinct))

types_known : (domain : Domain) (problem : Problem) → IsWellTyped domain problem → refusals.in_domain causes.UnknownType domain problem ≡ []
types_known domain problem typed =
    both_nil _ _
    (both_nil _ _ (all_known domain.types domain.constants (all_left (KindIsKnown domain.types) domain.constants problem.objects typed.objects))
    (all_nil (λ p. refusals.in_predicate causes.UnknownType domain.types p) domain.predicates
    (λ k d less. let p : Predicate = get_or domain.predicates k d in all_known domain.types p.params (typed.predicates k d less).params)))
    (all_nil (λ a. refusals.in_action causes.UnknownType domain problem a) domain.actions
    (λ k d less. let a : Action = get_or domain.actions k d in all_known domain.types a.params (typed.actions k d less).params))

none_wide : (domain : Domain) (problem : Problem) → IsWellTyped domain problem → refusals.in_domain causes.TooWide domain problem ≡ []
none_wide domain problem typed =
    both_nil _ _
    (all_nil (λ p. refusals.in_predicate causes.TooWide domain.types p) domain.predicates
    (λ k d less. let p : Predicate = get_or domain.predicates k d in not_wide p.name p.params (typed.predicates k d less).narrow))
    (all_nil (λ a. refusals.in_action causes.TooWide domain problem a) domain.actions
    (λ k d less. let a : Action = get_or domain.actions k d in not_wide a.name a.params (typed.actions k d less).narrow))

free : (domain : Domain) (problem : Problem) → IsWellTyped domain problem → AllFaultless refusals.causes_in_order domain problem
free domain problem typed =
    let actions : NoneIn (λ c. refusals.in_domain c domain problem) = in_no_actions domain problem typed.actions in
    let atoms : NoneIn (λ c. refusals.in_atoms c domain problem [] problem.init ++ refusals.in_atoms c domain problem [] problem.goal) = in_no_problem domain problem typed in (
      (refl, same_domain domain problem typed),
      (
        (none_declared_twice domain problem typed, no_object_twice domain.constants problem.objects typed.distinct),
        (
          (types_known domain problem typed, all_known domain.types problem.objects (all_right (KindIsKnown domain.types) domain.constants problem.objects typed.objects)),
          (
            (none_cyclic domain.types typed.rooted, refl),
            (
              (actions.0, atoms.0),
              (
                (actions.1, atoms.1),
                (
                  (actions.2, atoms.2),
                  (
                    (actions.3, atoms.3),
                    (
                      (none_wide domain problem typed, refl),
                      (
                        all_declared domain problem typed.costs,
                        (
                          none_again domain problem typed.costs,
                          (
                            all_in_range domain problem typed.costs,
                            (none_zero domain problem typed.costs, not_many (length (objects_of domain problem)) typed.few),
                          ),
                        ),
                      ),
                    ),
                  ),
                ),
              ),
            ),
          ),
        ),
      ),
    )

pub well_typed_is_accepted : WellTypedIsAccepted
well_typed_is_accepted domain problem typed = not_refused refusals.causes_in_order domain problem (free domain problem typed)
