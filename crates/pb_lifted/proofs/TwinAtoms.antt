-- A fitting atom, by names and by numbers.
use Rattle.std.proofs.Common.{◌≡◌, ◌<◌, ℕ, suc, Bool, true, false, cond, Option, Some, None, is_some, option_map, unwrap_or, List, [], ◌∷◌, ◌++◌, length, map, get_or, All, refl, sym, ap, ◌∙◌, arith}
use Rattle.std.proofs.lemmas.Bool.{and_from}
use Rattle.std.specs.Str.{bytes_eq}
use Rattle.std.proofs.lemmas.List.{length-map}
use Rattle.pb_pddl.specs.declared.tree.Typed.{Typed}
use Rattle.pb_pddl.specs.declared.tree.Term.{Term}
use Rattle.pb_pddl.specs.declared.tree.Term.TheVariants.{Object, Variable}
use Rattle.pb_pddl.specs.declared.tree.Atom.{Atom}
use Rattle.pb_pddl.specs.declared.tree.Literal.{Literal}
use Rattle.pb_pddl.specs.declared.tree.Domain.{Domain}
use Rattle.pb_pddl.specs.declared.tree.Problem.{Problem}
use Rattle.pb_lifted.specs.declared.lifted.LiftedAtom.{LiftedAtom}
use Rattle.pb_lifted.specs.Names.{number_of, is_among}
use Rattle.pb_lifted.specs.Types.{name_text}
use Rattle.pb_lifted.specs.Lifted.{number, argument_of, arguments_of, atom_of, atoms_of, effect_of}
use Rattle.pb_lifted.specs.Space.{Fact, object_of, fact_of, facts_of, added, deleted}
use Rattle.pb_lifted.specs.Facts.{name_at, value_of, IsKnown, AreKnown}
use Rattle.pb_lifted.specs.Typing.{object_names, predicate_names, named, AreDistinct, AtomFits}
use Rattle.pb_lifted.specs.Steps.{GroundFact, ground, ground_all}
use Rattle.pb_lifted.proofs.Numbering.{among_number}
use Rattle.pb_lifted.proofs.TypeTree.{known_number}
use Rattle.pb_lifted.proofs.SameFacts.{same_object}
use Rattle.pb_lifted.proofs.KnownNames.{known_terms, known_predicate}
use Rattle.pb_lifted.proofs.TwinFacts.{are_among, Twin, Twins}

pub number_below : (text : List ℕ) (names : List (List ℕ)) (n : ℕ) → number_of text names ≡ Some n → n < length names
number_below text [] n h = cc
number_below text (name ∷ names) n h = at (bytes_eq text name) (number_of text names) refl (number_below text names) h
  where
    at : (here : Bool) (m : Option ℕ) → number_of text names ≡ m → ((k : ℕ) → number_of text names ≡ Some k → k < length names) → cond here (Some 0) (option_map suc m) ≡ Some n → n < suc (length names)
    at true m e rest h = let n_is : n ≡ 0 = cc in omega arith
    at false None e rest h = cc
    at false (Some k) e rest h = let n_is : n ≡ suc k = cc in let less : k < length names = rest k e in omega arith

-- objects that are there
abbrev pub AreBelow : List (List ℕ) → List ℕ → Type 0
AreBelow names given = (k : ℕ) → k < length given → get_or given k 0 < length names

-- ---- one atom

twin_object : (names : List (List ℕ)) (params : List Typed) (given : List ℕ) (t : Term) → AreDistinct names → AreBelow names given → IsKnown names params t → length given ≡ length params
    → (is_among (object_of params (map (λ i. name_at names i) given) t) names ≡ true)
    × (number (object_of params (map (λ i. name_at names i) given) t) names ≡ value_of given (argument_of names (map name_text params) t))
twin_object names params given (Object name) distinct below known count = (known, refl)
twin_object names params given (Variable name) distinct below known count =
    let k : ℕ = number name.text (map name_text params) in
    let there : number_of name.text (map name_text params) ≡ Some k = known_number name.text (map name_text params) known in
    let less : k < length (map name_text params) = number_below name.text (map name_text params) k there in
    let wide : length (map name_text params) ≡ length params = length-map params name_text in
    let its : number_of (name_at names (get_or given k 0)) names ≡ Some (get_or given k 0) = distinct (get_or given k 0) (below k (omega arith)) in
    let same : name_at names (get_or given k 0) ≡ object_of params (map (λ i. name_at names i) given) (Variable name) = same_object names params given (Variable name) known count in
    let found : number_of (object_of params (map (λ i. name_at names i) given) (Variable name)) names ≡ Some (get_or given k 0) = ap (λ t. number_of t names) (sym same) ∙ its in
    (among_number (object_of params (map (λ i. name_at names i) given) (Variable name)) names ∙ ap is_some found, ap (λ n. unwrap_or n 0) found)

twin_objects : (names : List (List ℕ)) (params : List Typed) (given : List ℕ) (terms : List Term) → AreDistinct names → AreBelow names given → AreKnown names params terms
    → length given ≡ length params
    → (are_among names (map (λ t. object_of params (map (λ i. name_at names i) given) t) terms) ≡ true)
    × (map (λ o. number o names) (map (λ t. object_of params (map (λ i. name_at names i) given) t) terms) ≡ map (λ a. value_of given a) (arguments_of names (map name_text params) terms))
twin_objects names params given [] distinct below known count = (refl, refl)
twin_objects names params given (t ∷ terms) distinct below known count =
    at (twin_object names params given t distinct below known.0 count) (twin_objects names params given terms distinct below known.1 count)
  where
    os : List (List ℕ)
    os = map (λ u. object_of params (map (λ i. name_at names i) given) u) terms

    o : List ℕ
    o = object_of params (map (λ i. name_at names i) given) t

    at : (is_among o names ≡ true) × (number o names ≡ value_of given (argument_of names (map name_text params) t))
        → (are_among names os ≡ true) × (map (λ x. number x names) os ≡ map (λ a. value_of given a) (arguments_of names (map name_text params) terms))
        → (are_among names (o ∷ os) ≡ true) × (map (λ x. number x names) (o ∷ os) ≡ map (λ a. value_of given a) (arguments_of names (map name_text params) (t ∷ terms)))
    at one rest = (
      and_from (is_among o names) (are_among names os) one.0 rest.0,
      ap (λ n. n ∷ map (λ x. number x names) os) one.1 ∙ ap (λ ns. value_of given (argument_of names (map name_text params) t) ∷ ns) rest.1,
    )

pub twin_atom : (domain : Domain) (problem : Problem) (params : List Typed) (given : List ℕ) (atom : Atom) → AreDistinct (object_names domain problem)
    → AreBelow (object_names domain problem) given → length given ≡ length params → AtomFits domain problem params atom
    → Twin domain problem (fact_of params (named domain problem given) atom)
    (ground given (atom_of (predicate_names domain) (object_names domain problem) (map name_text params) atom))
twin_atom domain problem params given atom distinct below count fit =
    let known : AreKnown (object_names domain problem) params atom.terms = known_terms domain problem params atom.terms fit.predicate.params fit.arguments in
    let both = twin_objects (object_names domain problem) params given atom.terms distinct below known count in (
      and_from (is_among atom.predicate.text (predicate_names domain)) _ (known_predicate domain problem params atom fit) both.0,
      ap (λ os. let g : GroundFact = record { predicate = number atom.predicate.text (predicate_names domain); objects = os } in g) both.1,
    )

-- ---- lists of atoms

pub twin_atoms : (domain : Domain) (problem : Problem) (params : List Typed) (given : List ℕ) (atoms : List Atom) → AreDistinct (object_names domain problem)
    → AreBelow (object_names domain problem) given → length given ≡ length params → All (AtomFits domain problem params) atoms
    → Twins domain problem (facts_of params (named domain problem given) atoms)
    (ground_all given (atoms_of (predicate_names domain) (object_names domain problem) (map name_text params) atoms))
twin_atoms domain problem params given [] distinct below count fit = tt
twin_atoms domain problem params given (a ∷ atoms) distinct below count fit = (
  twin_atom domain problem params given a distinct below count (fit 0 a (omega arith)),
  twin_atoms domain problem params given atoms distinct below count (λ k d less. fit (suc k) d (omega arith)),
)

twin_added : (domain : Domain) (problem : Problem) (given : List ℕ) (negated : Bool) (f : Fact) (a : LiftedAtom) (facts : List Fact) (atoms : List LiftedAtom) → Twin domain problem f (ground given a)
    → Twins domain problem facts (ground_all given atoms) → Twins domain problem (cond negated [] (f ∷ []) ++ facts) (ground_all given (cond negated [] (a ∷ []) ++ atoms))
twin_added domain problem given true f a facts atoms one rest = rest
twin_added domain problem given false f a facts atoms one rest = (one, rest)

twin_deleted : (domain : Domain) (problem : Problem) (given : List ℕ) (negated : Bool) (f : Fact) (a : LiftedAtom) (facts : List Fact) (atoms : List LiftedAtom) → Twin domain problem f (ground given a)
    → Twins domain problem facts (ground_all given atoms) → Twins domain problem (cond negated (f ∷ []) [] ++ facts) (ground_all given (cond negated (a ∷ []) [] ++ atoms))
twin_deleted domain problem given true f a facts atoms one rest = (one, rest)
twin_deleted domain problem given false f a facts atoms one rest = rest

pub twin_adds : (domain : Domain) (problem : Problem) (params : List Typed) (given : List ℕ) (effect : List Literal) → AreDistinct (object_names domain problem)
    → AreBelow (object_names domain problem) given → length given ≡ length params → All (λ (l : Literal). AtomFits domain problem params l.atom) effect
    → Twins domain problem (added params (named domain problem given) effect)
    (ground_all given (effect_of false (predicate_names domain) (object_names domain problem) (map name_text params) effect))
twin_adds domain problem params given [] distinct below count fit = tt
twin_adds domain problem params given (l ∷ effect) distinct below count fit =
    twin_added domain problem given l.negated (fact_of params (named domain problem given) l.atom)
    (atom_of (predicate_names domain) (object_names domain problem) (map name_text params) l.atom) (added params (named domain problem given) effect)
    (effect_of false (predicate_names domain) (object_names domain problem) (map name_text params) effect)
    (twin_atom domain problem params given l.atom distinct below count (fit 0 l (omega arith)))
    (twin_adds domain problem params given effect distinct below count (λ k d less. fit (suc k) d (omega arith)))

pub twin_deletes : (domain : Domain) (problem : Problem) (params : List Typed) (given : List ℕ) (effect : List Literal) → AreDistinct (object_names domain problem)
    → AreBelow (object_names domain problem) given → length given ≡ length params → All (λ (l : Literal). AtomFits domain problem params l.atom) effect
    → Twins domain problem (deleted params (named domain problem given) effect)
    (ground_all given (effect_of true (predicate_names domain) (object_names domain problem) (map name_text params) effect))
twin_deletes domain problem params given [] distinct below count fit = tt
twin_deletes domain problem params given (l ∷ effect) distinct below count fit =
    twin_deleted domain problem given l.negated (fact_of params (named domain problem given) l.atom)
    (atom_of (predicate_names domain) (object_names domain problem) (map name_text params) l.atom) (deleted params (named domain problem given) effect)
    (effect_of true (predicate_names domain) (object_names domain problem) (map name_text params) effect)
    (twin_atom domain problem params given l.atom distinct below count (fit 0 l (omega arith)))
    (twin_deletes domain problem params given effect distinct below count (λ k d less. fit (suc k) d (omega arith)))
