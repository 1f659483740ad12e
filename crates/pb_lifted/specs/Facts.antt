-- The facts that atoms by numbers mean.
use Rattle.std.specs.Prelude.{◌≡◌, ℕ, zero, suc, true, List, [], ◌∷◌, length, map, slice_index}
use Rattle.pb_pddl.specs.declared.tree.Typed.{Typed}
use Rattle.pb_pddl.specs.declared.tree.Term.{Term}
use Rattle.pb_pddl.specs.declared.tree.Term.TheVariants as terms
use Rattle.pb_pddl.specs.declared.tree.Atom.{Atom}
use Rattle.pb_lifted.specs.declared.lifted.Argument.{Argument}
use Rattle.pb_lifted.specs.declared.lifted.Argument.TheVariants as arguments
use Rattle.pb_lifted.specs.declared.lifted.LiftedAtom.{LiftedAtom}
use Rattle.pb_lifted.specs.Names.{is_among}
use Rattle.pb_lifted.specs.Types.{name_text}
use Rattle.pb_lifted.specs.Lifted.{atom_of}
use Rattle.pb_lifted.specs.Space.{Fact, fact_of}

-- the name of a number
abbrev pub name_at : List (List ℕ) → ℕ → List ℕ
name_at [] n = []
name_at (name ∷ names) zero = name
name_at (name ∷ names) (suc n) = name_at names n

-- the number of the object that an argument means, if objects of these numbers are given to the
-- parameters
abbrev pub value_of : List ℕ → Argument → ℕ
value_of given (arguments.Object i) = i
value_of given (arguments.Parameter k) = slice_index given k

abbrev pub fact_by_numbers : List (List ℕ) → List (List ℕ) → List ℕ → LiftedAtom → Fact
fact_by_numbers predicates objects given atom =
    record {
      predicate = name_at predicates atom.predicate;
      objects = map (λ a. name_at objects (value_of given a)) atom.arguments;
    }

-- each argument is an object or a parameter
abbrev pub IsKnown : List (List ℕ) → List Typed → Term → Type 0
IsKnown objects params (terms.Object name) = is_among name.text objects ≡ true
IsKnown objects params (terms.Variable name) = is_among name.text (map name_text params) ≡ true

abbrev pub AreKnown : List (List ℕ) → List Typed → List Term → Type 0
AreKnown objects params [] = Unit {0}
AreKnown objects params (t ∷ terms) = IsKnown objects params t × AreKnown objects params terms

-- An atom of known names means the same fact by numbers and by names, whatever objects are given to
-- the parameters.
abbrev pub NumbersKeepFacts : Type 0
NumbersKeepFacts =
    (predicates objects : List (List ℕ)) (params : List Typed) (given : List ℕ) (atom : Atom)
    → is_among atom.predicate.text predicates ≡ true → AreKnown objects params atom.terms
    → length given ≡ length params
    → fact_by_numbers predicates objects given
    (atom_of predicates objects (map name_text params) atom)
    ≡ fact_of params (map (λ i. name_at objects i) given) atom
