-- The map from names to their numbers.
use Rattle.std.specs.Prelude.{◌≡◌, ℕ, List}
use Rattle.std.specs.Global.{Vec}
use Rattle.std.specs.Ordering.{nat_cmp}
use Rattle.std.specs.Cmp.Lexicographic.{slice_cmp}
use Rattle.std.specs.BTreeMap.{BTreeMap, get_by}
use Rattle.pb_lifted.specs.Names.{number_of}

-- each name has its number there
abbrev pub AreNumbers : BTreeMap (Vec ℕ) ℕ → List (List ℕ) → Type 0
AreNumbers numbers names =
    (text : List ℕ) → get_by (λ key. slice_cmp nat_cmp text key.items) numbers
    ≡ number_of text names
