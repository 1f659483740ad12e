-- The names of ground actions tell them apart, each in one line.
use Rattle.std.proofs.Common.{◌≡◌, ◌≢◌, ◌<◌, ℕ, zero, suc, true, nat_lt, List, [], ◌∷◌, ◌++◌, All, length, map, Option, Some, None, slice_get, refl, sym, ap, ◌∙◌, subst, arith, inl, inr}
use mathlib.Core.List.{nil≢cons, cons≢nil, head-eq_of_cons-eq, tail-eq_of_cons-eq}
use Rattle.std.proofs.lemmas.Bool.{ltb-true}
use Rattle.std.proofs.lemmas.Option.{slice_get_within, slice_get_past, slice_get_cases}
use Rattle.std.proofs.lemmas.List.{length-map}
use Rattle.std.proofs.lemmas.List.Elements.{All-nil, All-cons, All-append}
use Rattle.pb_pddl.specs.declared.tree.Typed.{Typed}
use Rattle.pb_pddl.specs.declared.tree.Action.{Action}
use Rattle.pb_pddl.specs.declared.tree.Domain.{Domain}
use Rattle.pb_pddl.specs.declared.tree.Problem.{Problem}
use Rattle.pb_pddl.specs.Words.{IsWord, DomainHasWords, ProblemHasWords}
use Rattle.pb_lifted.specs.declared.lifted.Lifted.{Lifted}
use Rattle.pb_lifted.specs.declared.refusal.TypingRefusal.{TypingRefusal}
use Rattle.pb_lifted.specs.Names.{number_of, repeated}
use Rattle.pb_lifted.specs.Types.{name_text, declared_types}
use Rattle.pb_lifted.specs.Objects.{objects_of}
use Rattle.pb_lifted.specs.Facts.{name_at}
use Rattle.pb_lifted.specs.Lifted.{lifted_of}
use Rattle.pb_lifted.specs.Refusals.{first_refusal, causes_in_order, action_name, typed_name, predicate_name, repeated_params}
use Rattle.pb_lifted.specs.Typing.{object_names, named, AreDistinct, IsWellTyped}
use Rattle.pb_lifted.proofs.Callers.{distinct_on, text_of, faultless, nil_left, nil_right, at_mapped, count_is as objects_agree, accepted_is_well_typed}
use Rattle.pb_ground.specs.declared.actions.ActionInstance as instance
use Rattle.pb_ground.specs.declared.atoms.GroundAtom.{GroundAtom}
use Rattle.pb_ground.specs.Atoms.{ground_atoms, kept_atoms}
use Rattle.pb_ground.specs.Actions.{kept_actions}
use Rattle.pb_ground.specs.Statics.{keep_all}
use Rattle.pb_ground.specs.Steps.{Facts}
use Rattle.pb_ground.specs.Members.{is_fitting, is_instance}
use Rattle.pb_task.specs.declared.grounding.Grounding.{Grounding}
use Rattle.pb_task.specs.declared.grounding.Grounding.TheVariants as groundings
use Rattle.pb_task.specs.declared.parts.StripsParts.{StripsParts}
use Rattle.pb_task.specs.Strips.{name_of, name_in}
use Rattle.pb_strips.specs.Names.{action_word, action_bytes}
use Rattle.pb_strips.specs.Grounding.{packed_action, strips_by}
use Rattle.pb_strips.specs.Refusals.{or_too_many}
use Rattle.pb_strips.proofs.Instances.{IsInstance, is_instance_at}
use Rattle.pb_model.proofs.Callers.{and_true}
use Rattle.pb_strips.specs.Naming.{AreTellingNames, NamesTellActions, KeptNamesTellActions}
use Rattle.pb_strips.proofs.Apart.{same_place}
use Rattle.pb_strips.proofs.DifferentRows.{row_of, actions_apart}
use Rattle.pb_strips.proofs.Texts.{IsPlain, ArePlain, plain, same_parts, IsOfLine, text_of_line, text_is}

-- ---- names are words

pub plain_at : (names : List (List ℕ)) → ArePlain names → (k : ℕ) → IsPlain (name_at names k)
plain_at [] h k = tt
plain_at (name ∷ names) h zero = h.0
plain_at (name ∷ names) h (suc k) = plain_at names h.1 k

pub actions_plain : (actions : List Action) → All (λ (a : Action). IsWord a.name.text) actions → ArePlain (map action_word actions)
actions_plain [] h = tt
actions_plain (a ∷ actions) h = (plain a.name.text (h 0 a (omega arith)).1, actions_plain actions (λ k d less. h (suc k) d (omega arith)))

typed_plain : (list : List Typed) → All (λ (t : Typed). IsWord t.name.text) list → ArePlain (map name_text list)
typed_plain [] h = tt
typed_plain (t ∷ list) h = (plain t.name.text (h 0 t (omega arith)).1, typed_plain list (λ k d less. h (suc k) d (omega arith)))

objects_plain : (names : List (List ℕ)) → ArePlain names → (given : List ℕ) → ArePlain (map (λ i. name_at names i) given)
objects_plain names h [] = tt
objects_plain names h (i ∷ given) = (plain_at names h i, objects_plain names h given)

-- ---- names tell numbers

same_number : (names : List (List ℕ)) (i j : ℕ) → AreDistinct names → i < length names → j < length names → name_at names i ≡ name_at names j → i ≡ j
same_number names i j each less more e =
    let same : Some i ≡ Some j = sym (each i less) ∙ (ap (λ t. number_of t names) e ∙ each j more) in
    cc

same_numbers : (names : List (List ℕ)) (xs ys : List ℕ) → AreDistinct names → All (λ i. i < length names) xs → All (λ i. i < length names) ys
    → map (λ i. name_at names i) xs ≡ map (λ i. name_at names i) ys → xs ≡ ys
same_numbers names [] [] each h k e = refl
same_numbers names [] (y ∷ ys) each h k e = absurd (nil≢cons e)
same_numbers names (x ∷ xs) [] each h k e = absurd (cons≢nil e)
same_numbers names (x ∷ xs) (y ∷ ys) each h k e =
    let first = same_number names x y each (h 0 x (omega arith)) (k 0 y (omega arith)) (head-eq_of_cons-eq e) in
    let rest = same_numbers names xs ys each (λ n d less. h (suc n) d (omega arith)) (λ n d less. k (suc n) d (omega arith)) (tail-eq_of_cons-eq e) in
    λ i. first i ∷ rest i

-- ---- what isn't refused

none_refused : (refusal : Option TypingRefusal) (lifted : Lifted) → or_too_many refusal lifted ≡ None → refusal ≡ None
none_refused None lifted e = refl
none_refused (Some refusal) lifted e = cc

words_again : (actions : List Action) → map text_of (map action_name actions) ≡ map action_word actions
words_again [] = refl
words_again (a ∷ actions) = ap (λ names. a.name.text ∷ names) (words_again actions)

none_distinct : AreDistinct []
none_distinct i less = absurd (omega arith)

actions_distinct : (domain : Domain) (problem : Problem) → first_refusal domain problem ≡ None → AreDistinct (map action_word domain.actions)
actions_distinct domain problem accepted =
    let twice = (faultless causes_in_order domain problem accepted).1.0.0 in
    let types = repeated [] (map typed_name (declared_types domain.types)) in
    let constants = repeated [] (map typed_name domain.constants) in
    let predicates = repeated [] (map predicate_name domain.predicates) in
    let actions = repeated [] (map action_name domain.actions) in
    let front = nil_left (types ++ constants ++ predicates ++ actions) (repeated_params domain.actions) twice in
    let once = nil_right (types ++ constants ++ predicates) actions front in
    subst AreDistinct (words_again domain.actions) (distinct_on [] (map action_name domain.actions) once none_distinct)

-- ---- an instance's objects are there

fitting_below : (lifted : Lifted) (kinds given : List ℕ) → is_instance lifted kinds given ≡ true → All (λ i. i < length lifted.objects) given
fitting_below lifted [] [] h = All-nil (λ i. i < length lifted.objects)
fitting_below lifted [] (i ∷ given) h = cc
fitting_below lifted (kind ∷ kinds) [] h = cc
fitting_below lifted (kind ∷ kinds) (i ∷ given) h =
    let both = and_true (is_fitting lifted kind i) (is_instance lifted kinds given) h in
    let there = and_true (nat_lt i (length lifted.objects)) _ both.0 in
    All-cons (λ n. n < length lifted.objects) i given (ltb-true i (length lifted.objects) there.0) (fitting_below lifted kinds given both.1)

-- ---- the actions

schemas_agree : (domain : Domain) (problem : Problem) → length (lifted_of domain problem).actions ≡ length (map action_word domain.actions)
schemas_agree domain problem = length-map domain.actions _ ∙ sym (length-map domain.actions action_word)

module _ (domain : Domain) (problem : Problem) (grounding : Grounding) (kept : Facts) (atoms : List GroundAtom) (known : first_refusal domain problem ≡ None) (words : DomainHasWords domain)
    (others : ProblemHasWords problem) where
  abbrev pub lifted : Lifted
  lifted = lifted_of domain problem

  abbrev pub actions : List instance.ActionInstance
  actions = kept_actions lifted kept atoms

  abbrev pub task : StripsParts
  task = strips_by domain problem grounding kept atoms

  abbrev pub bytes_of : instance.ActionInstance → List ℕ
  bytes_of a = action_bytes domain (a.schema, named domain problem a.objects)

  typed : IsWellTyped domain problem
  typed = accepted_is_well_typed domain problem known

  word_plain : (a : instance.ActionInstance) → IsPlain (name_at (map action_word domain.actions) a.schema)
  word_plain a = plain_at (map action_word domain.actions) (actions_plain domain.actions words.actions) a.schema

  objects_are_plain : (a : instance.ActionInstance) → ArePlain (named domain problem a.objects)
  objects_are_plain a =
      objects_plain (object_names domain problem)
      (typed_plain (objects_of domain problem) (All-append (λ (t : Typed). IsWord t.name.text) domain.constants problem.objects words.constants others)) a.objects

  of_line : (a : instance.ActionInstance) → All IsOfLine (bytes_of a)
  of_line a = text_of_line (name_at (map action_word domain.actions) a.schema) (named domain problem a.objects) (word_plain a) (objects_are_plain a)

  name_is : (k : ℕ) (a : instance.ActionInstance) → slice_get actions k ≡ Some a → name_in task.actions k ≡ bytes_of a
  name_is k a e = ap name_of (at_mapped (packed_action domain problem (length atoms)) actions k a e) ∙ text_is (bytes_of a) (of_line a)

  schema_below : (k : ℕ) (a : instance.ActionInstance) → slice_get actions k ≡ Some a → a.schema < length (map action_word domain.actions)
  schema_below k a e =
      let is : IsInstance lifted kept atoms a = is_instance_at lifted kept atoms k a e in
      let there = slice_get_within lifted.actions is.i is.schema is.declared in
      let same : a.schema ≡ is.i = ap (λ (g : instance.ActionInstance). g.schema) is.is in
      omega (arith, there, same, schemas_agree domain problem)

  objects_below : (k : ℕ) (a : instance.ActionInstance) → slice_get actions k ≡ Some a → All (λ i. i < length (object_names domain problem)) a.objects
  objects_below k a e =
      let is : IsInstance lifted kept atoms a = is_instance_at lifted kept atoms k a e in
      let same : a.objects ≡ is.given = ap (λ (g : instance.ActionInstance). g.objects) is.is in
      subst (λ n. All (λ i. i < n) a.objects) (objects_agree domain problem)
      (subst (λ given. All (λ i. i < length lifted.objects) given) (sym same) (fitting_below lifted is.schema.params is.given is.fits))

  same_row : (one other : ℕ) (a b : instance.ActionInstance) → slice_get actions one ≡ Some a → slice_get actions other ≡ Some b → bytes_of a ≡ bytes_of b → row_of a ≡ row_of b
  same_row one other a b at_one at_other e =
      let parts =
      same_parts (name_at (map action_word domain.actions) a.schema) (name_at (map action_word domain.actions) b.schema) (named domain problem a.objects) (named domain problem b.objects)
      (word_plain a) (word_plain b) (objects_are_plain a) (objects_are_plain b) e in
      let schema =
      same_number (map action_word domain.actions) a.schema b.schema (actions_distinct domain problem known) (schema_below one a at_one) (schema_below other b at_other) parts.0 in
      let objects = same_numbers (object_names domain problem) a.objects b.objects typed.distinct (objects_below one a at_one) (objects_below other b at_other) parts.1 in
      λ i. schema i ∷ objects i

  action_at : (k : ℕ) → k < length actions → (a : instance.ActionInstance) × (slice_get actions k ≡ Some a)
  action_at k less = elim (slice_get_cases actions k).1 [ inl (a, within, is, read) ↦ (a, is) | inr (past, none) ↦ absurd (omega (arith, less, past)) ]

  same_action : (one other : ℕ) → one < length actions → other < length actions
      → name_in task.actions one ≡ name_in task.actions other → one ≡ other
  same_action one other less more e =
      let a = action_at one less in
      let b = action_at other more in
      let row = same_row one other a.0 b.0 a.1 b.1 (sym (name_is one a.0 a.1) ∙ (e ∙ name_is other b.0 b.1)) in
      same_place (map row_of actions) one other (row_of a.0) (actions_apart lifted kept atoms) (at_mapped row_of actions one a.0 a.1)
      (at_mapped row_of actions other b.0 b.1 ∙ ap (λ r. Some r) (sym row))

  count_is : length task.actions ≡ length actions
  count_is = length-map actions (packed_action domain problem (length atoms))

  no_feeds : (k : ℕ) → All (λ c. c ≢ 10) (name_in task.actions k)
  no_feeds k = elim (slice_get_cases actions k).1 [
    | inl (a, less, is, read) ↦ subst (λ text. All (λ c. c ≢ 10) text) (sym (name_is k a is)) (λ n d within. (of_line a n d within).1)
    | inr (past, none) ↦
        let beyond : slice_get task.actions k ≡ None = slice_get_past task.actions k (let count = count_is in omega (arith, past, count)) in
        subst (λ text. All (λ c. c ≢ 10) text) (sym (ap name_of beyond)) (All-nil (λ c. c ≢ 10))
  ]

  pub tells : AreTellingNames (length task.actions) (name_in task.actions)
  tells = record {
    different = λ one other less more e. let count = count_is in same_action one other (omega (arith, less, count)) (omega (arith, more, count)) e;
    lines = no_feeds;
  }

pub names_tell_actions : NamesTellActions
names_tell_actions domain problem accepted words others =
    let lifted : Lifted = lifted_of domain problem in
    tells domain problem groundings.All (keep_all lifted) (ground_atoms lifted) (none_refused (first_refusal domain problem) lifted accepted) words others

pub kept_names_tell_actions : KeptNamesTellActions
kept_names_tell_actions domain problem grounding kept known words others = tells domain problem grounding kept (kept_atoms (lifted_of domain problem) kept) known words others
