-- The rule of the second example, a number that falls.
use Rattle.std.specs.Prelude.{◌≡◌, ℕ, ◌≤◌, min, List, Option, Some, None}
use mathlib.Core.Option.{some}
use lib.ListN.{get_elem?}

-- The number is at most what each pass has read or brought last: that is its view. The view of a
-- pass that was taken in says nothing.
abbrev pub IsAtMost : ℕ → List (Option ℕ) → Type 0
IsAtMost number views = (pass last : ℕ) → get_elem? views pass ≡ some (Some last) → number ≤ last

-- the view after a pass brought a number: the least that it knows of
abbrev pub brought : Option ℕ → ℕ → Option ℕ
brought None number = Some number
brought (Some last) number = Some (min last number)
