-- Some of the names of a list, in their order.
use Rattle.std.proofs.Common.{inl, inr, ℕ, List, [], ◌∷◌, ◌++◌, refl, ◌∙◌}
use Rattle.pb_run.specs.Asked.{AreSomeOf}
use Rattle.pb_run.specs.Contents.{IsNoneOf}

pub all_are_some : (names : List (List ℕ)) → AreSomeOf names names
all_are_some [] = tt
all_are_some (name ∷ names) = inl (refl, all_are_some names)

some_after : (first : List ℕ) (begun names : List (List ℕ)) → AreSomeOf begun names → AreSomeOf begun (first ∷ names)
some_after first [] names some = tt
some_after first (name ∷ begun) names some = inr some

pub some_behind : (before begun names : List (List ℕ)) → AreSomeOf begun names → AreSomeOf begun (before ++ names)
some_behind [] begun names some = some
some_behind (first ∷ before) begun names some = some_after first begun (before ++ names) (some_behind before begun names some)

-- with the same names before both
pub some_with : (before begun names : List (List ℕ)) → AreSomeOf begun names → AreSomeOf (before ++ begun) (before ++ names)
some_with [] begun names some = some
some_with (first ∷ before) begun names some = inl (refl, some_with before begun names some)

-- the first of them are some too
pub first_are_some : (begun rest names : List (List ℕ)) → AreSomeOf (begun ++ rest) names → AreSomeOf begun names
first_are_some [] rest names some = tt
first_are_some (name ∷ begun) rest [] some = some
first_are_some (name ∷ begun) rest (first ∷ names) (inl (is, some)) = inl (is, first_are_some begun rest names some)
first_are_some (name ∷ begun) rest (first ∷ names) (inr some) = inr (first_are_some (name ∷ begun) rest names some)

-- a name that is none of the names is none of some of them
pub none_of_some : (begun names : List (List ℕ)) (other : List ℕ) → AreSomeOf begun names → IsNoneOf names other → IsNoneOf begun other
none_of_some [] names other some none = tt
none_of_some (name ∷ begun) [] other some none = absurd some
none_of_some (name ∷ begun) (first ∷ names) other (inl (is, some)) none = (λ e. none.0 (e ∙ is), none_of_some begun names other some none.1)
none_of_some (name ∷ begun) (first ∷ names) other (inr some) none = none_of_some (name ∷ begun) names other some none.1
