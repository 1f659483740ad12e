-- An atom by numbers stands for the fact that it stands for by names.
use Rattle.std.proofs.Common.{◌≡◌, ◌∷◌, ℕ, suc, Bool, true, false, cond, Option, Some, None, option_map, List, [], length, map, refl, sym, ap, ◌∙◌, get_or, arith}
use Rattle.std.specs.Str.{bytes_eq}
use Rattle.std.proofs.lemmas.Slice.Eq.{bytes_eq-Decides}
use Rattle.pb_pddl.specs.declared.tree.Typed.{Typed}
use Rattle.pb_pddl.specs.declared.tree.Term.{Term}
use Rattle.pb_pddl.specs.declared.tree.Term.TheVariants.{Object, Variable}
use Rattle.pb_lifted.specs.Names.{number_of}
use Rattle.pb_lifted.specs.Types.{name_text}
use Rattle.pb_lifted.specs.Lifted.{number, argument_of, arguments_of}
use Rattle.pb_lifted.specs.Space.{Fact, given_to, object_of}
use Rattle.pb_lifted.specs.Facts.{name_at, value_of, IsKnown, AreKnown, NumbersKeepFacts}
use Rattle.pb_lifted.proofs.TypeTree.{known_number}

-- the name of a name's number
pub named_again : (text : List ℕ) (names : List (List ℕ)) (n : ℕ) → number_of text names ≡ Some n → name_at names n ≡ text
named_again text [] n h = cc
named_again text (name ∷ names) n h = at (bytes_eq text name) refl (number_of text names) refl (named_again text names) h
  where
    at : (here : Bool) → bytes_eq text name ≡ here → (m : Option ℕ) → number_of text names ≡ m → ((k : ℕ) → number_of text names ≡ Some k → name_at names k ≡ text)
        → cond here (Some 0) (option_map suc m) ≡ Some n → name_at (name ∷ names) n ≡ text
    at true e m f rest h = let n_is : n ≡ 0 = cc in rw n_is (sym ((bytes_eq-Decides text name).0 e))
    at false e None f rest h = cc
    at false e (Some k) f rest h = let n_is : n ≡ suc k = cc in rw n_is (rest k f)

-- the object that is given to a parameter, by its number
given_again : (objects : List (List ℕ)) (params : List Typed) (given : List ℕ) (text : List ℕ) (n : ℕ) → number_of text (map name_text params) ≡ Some n → length given ≡ length params
    → name_at objects (get_or given n 0) ≡ given_to params (map (λ i. name_at objects i) given) text
given_again objects [] given text n h count = cc
given_again objects (p ∷ params) [] text n h count = absurd (omega arith)
given_again objects (p ∷ params) (i ∷ given) text n h count = at (bytes_eq text (name_text p)) (number_of text (map name_text params)) refl (λ k e. given_again objects params given text k e (omega arith)) h
  where
    at : (here : Bool) (m : Option ℕ) → number_of text (map name_text params) ≡ m
        → ((k : ℕ) → number_of text (map name_text params) ≡ Some k → name_at objects (get_or given k 0) ≡ given_to params (map (λ j. name_at objects j) given) text)
        → cond here (Some 0) (option_map suc m) ≡ Some n
        → name_at objects (get_or (i ∷ given) n 0) ≡ cond here (name_at objects i) (given_to params (map (λ j. name_at objects j) given) text)
    at true m e rest h = let n_is : n ≡ 0 = cc in rw n_is refl
    at false None e rest h = cc
    at false (Some k) e rest h = let n_is : n ≡ suc k = cc in rw n_is (rest k e)

pub same_object : (objects : List (List ℕ)) (params : List Typed) (given : List ℕ) (t : Term) → IsKnown objects params t → length given ≡ length params
    → name_at objects (value_of given (argument_of objects (map name_text params) t)) ≡ object_of params (map (λ i. name_at objects i) given) t
same_object objects params given (Object name) known count = named_again name.text objects (number name.text objects) (known_number name.text objects known)
same_object objects params given (Variable name) known count =
    given_again objects params given name.text (number name.text (map name_text params)) (known_number name.text (map name_text params) known) count

same_list : (objects : List (List ℕ)) (params : List Typed) (given : List ℕ) (terms : List Term) → AreKnown objects params terms → length given ≡ length params
    → map (λ a. name_at objects (value_of given a)) (arguments_of objects (map name_text params) terms) ≡ map (λ t. object_of params (map (λ i. name_at objects i) given) t) terms
same_list objects params given [] known count = refl
same_list objects params given (t ∷ terms) known count =
    ap (λ o. o ∷ map (λ a. name_at objects (value_of given a)) (arguments_of objects (map name_text params) terms)) (same_object objects params given t known.0 count)
    ∙ ap (λ os. object_of params (map (λ i. name_at objects i) given) t ∷ os) (same_list objects params given terms known.1 count)

pub numbers_keep_facts : NumbersKeepFacts
numbers_keep_facts predicates objects params given atom there known count =
    ap (λ p. let f : Fact = record { predicate = p; objects = map (λ a. name_at objects (value_of given a)) (arguments_of objects (map name_text params) atom.terms) } in f)
    (named_again atom.predicate.text predicates (number atom.predicate.text predicates) (known_number atom.predicate.text predicates there))
    ∙ ap (λ os. let f : Fact = record { predicate = atom.predicate.text; objects = os } in f) (same_list objects params given atom.terms known count)
