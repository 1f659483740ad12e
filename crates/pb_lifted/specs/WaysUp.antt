-- The way up from a type is counted far enough.
use Rattle.std.specs.Prelude.{◌≡◌, ◌<◌, ◌+◌, ℕ, true, List, length, slice_index}
use Rattle.pb_pddl.specs.declared.tree.Typed.{Typed}
use Rattle.pb_lifted.specs.Types.{ancestor, height, is_within, is_below, is_object}
use Rattle.pb_lifted.specs.Tree.{comes_to}

-- More steps up come to no other type: neither by names nor by numbers.
abbrev pub MoreStepsChangeNothing : Type 0
MoreStepsChangeNothing =
    (types : List Typed) (n : ℕ) (text high : List ℕ) → is_within types (height types + n) text high
    ≡ is_below types text high

abbrev pub MoreStepsOfNumbersChangeNothing : Type 0
MoreStepsOfNumbersChangeNothing =
    (parents : List ℕ) (n i j : ℕ) → 0 < length parents → slice_index parents 0 ≡ 0
    → comes_to parents (length parents + n) i j ≡ comes_to parents (length parents) i j

-- A way up that comes to object at all does so within the steps that are counted.
abbrev pub ObjectIsReached : Type 0
ObjectIsReached =
    (types : List Typed) (n : ℕ) (text : List ℕ) → is_object (ancestor types n text) ≡ true
    → is_object (ancestor types (height types) text) ≡ true

-- A type is below itself. It is also below each type that is above one that it is below.
abbrev pub BelowIsReflexive : Type 0
BelowIsReflexive = (types : List Typed) (text : List ℕ) → is_below types text text ≡ true

abbrev pub BelowIsTransitive : Type 0
BelowIsTransitive =
    (types : List Typed) (low middle high : List ℕ) → is_below types low middle ≡ true
    → is_below types middle high ≡ true → is_below types low high ≡ true
