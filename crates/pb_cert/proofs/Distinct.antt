-- Lists without repetition.
use Rattle.std.proofs.Common.{◌≡◌, Bool, false, List, [], ◌∷◌, ◌++◌, All}
use Rattle.std.specs.List.{IsDistinct}
use Rattle.std.proofs.lemmas.List.Elements.{All-append, All-from_recursion, recursion_from_All, All-head, All-tail}
use Rattle.std.proofs.lemmas.Map.Keys.{IsDistinct-head, IsDistinct-tail, IsDistinct-cons}

pub IsDistinct-append : {K : Type 0} (eq : K → K → Bool) (xs ys : List K) → IsDistinct eq xs → IsDistinct eq ys → All (λ x. All (λ y. eq x y ≡ false) ys) xs → IsDistinct eq (xs ++ ys)
IsDistinct-append eq [] ys one two apart = two
IsDistinct-append eq (x ∷ xs) ys one two apart =
    IsDistinct-cons eq x (xs ++ ys)
    (recursion_from_All (λ y. eq x y ≡ false) (xs ++ ys)
    (All-append (λ y. eq x y ≡ false) xs ys (All-from_recursion (λ y. eq x y ≡ false) xs (IsDistinct-head eq x xs one)) (All-head (λ x. All (λ y. eq x y ≡ false) ys) x xs apart)))
    (IsDistinct-append eq xs ys (IsDistinct-tail eq x xs one) two (All-tail (λ x. All (λ y. eq x y ≡ false) ys) x xs apart))
