-- Lists in strictly increasing order have each number once.
use Rattle.std.proofs.Common.{◌≡◌, ℕ, zero, suc, ◌<◌, false, nat_eq, List, [], ◌∷◌, get_or, arith}
use Rattle.std.proofs.lemmas.Bool.{ne_eqb}
use Rattle.std.specs.List.{IsDistinct, AllPairs}
use Rattle.std.proofs.lemmas.List.Elements.{recursion_from_All}
use Rattle.std.proofs.lemmas.List.Kept.{AllPairs-from_increasing}
use Rattle.std.proofs.lemmas.Map.Keys.{IsDistinct-cons}
use Rattle.pb_bundles.specs.Laws.{IncreasingScopesAreDistinct}

by_pairs : (xs : List ℕ) → AllPairs (λ x y. x < y) xs → IsDistinct nat_eq xs
unfolding IsDistinct
by_pairs [] pairs = tt
by_pairs (x ∷ xs) pairs = IsDistinct-cons nat_eq x xs
    (recursion_from_All (λ y. nat_eq x y ≡ false) xs (λ k d within. let above = pairs zero (suc k) d (omega arith) (omega arith) in ne_eqb x (get_or xs k d) (λ is. omega (arith, above, is))))
    (by_pairs xs (λ i j d before within. pairs (suc i) (suc j) d (omega arith) (omega arith)))

pub increasing_scopes_are_distinct : IncreasingScopesAreDistinct
increasing_scopes_are_distinct scope increasing = by_pairs scope (AllPairs-from_increasing scope increasing)
