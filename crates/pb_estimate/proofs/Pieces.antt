-- Lists that lie in one array, to which more is added.
use Rattle.std.proofs.Common.{◌≡◌, ℕ, suc, ◌+◌, ◌-◌, List, [], ◌∷◌, ◌++◌, length, map, take, drop, All, refl, ap, arith, ◌∙◌}
use Rattle.std.proofs.Math.Seq.{drop-append_seam}
use Rattle.std.proofs.lemmas.List.{length-append, length-drop, take_all, take-append-le, drop-append-le, map-append}
use Rattle.std.proofs.lemmas.List.Elements.{All-weaker, All-push}
use Rattle.pb_estimate.specs.Relaxed.{piece, IsPiece}

module _ (items more : List ℕ) where
  long : length (items ++ more) ≡ length items + length more
  long = length-append items more

  pub piece_stays : (from to : ℕ) → IsPiece (length items) from to → piece (items ++ more) from to ≡ piece items from to
  piece_stays from to (le, within) =
      let rest : length (drop from items) ≡ length items - from = length-drop from items in
      ap (take (to - from)) (drop-append-le from items more (omega arith)) ∙ take-append-le (to - from) (drop from items) more (omega arith)

  pub piece_added : piece (items ++ more) (length items) (length items + length more) ≡ more
  piece_added =
      ap (take (length items + length more - length items)) (drop-append_seam items more)
      ∙ take_all (length items + length more - length items) more (omega arith)

  -- what is built of the pieces of an array stays when more is added
  module _ {X Y : Type 0} (from to : X → ℕ) (build : X → List ℕ → Y) where
    pub pieces_stay : (xs : List X) → All (λ x. IsPiece (length items) (from x) (to x)) xs
        → map (λ x. build x (piece (items ++ more) (from x) (to x))) xs ≡ map (λ x. build x (piece items (from x) (to x))) xs
    pieces_stay [] each = refl
    pieces_stay (x ∷ xs) each =
        ap (λ p. build x p ∷ map (λ x. build x (piece (items ++ more) (from x) (to x))) xs) (piece_stays (from x) (to x) (each 0 x (omega arith)))
        ∙ ap (λ ps. build x (piece items (from x) (to x)) ∷ ps) (pieces_stay xs (λ k d less. each (suc k) d (omega (arith, less))))

    pub pieces_push : (xs : List X) (x : X) → All (λ x. IsPiece (length items) (from x) (to x)) xs → from x ≡ length items → to x ≡ length items + length more
        → map (λ x. build x (piece (items ++ more) (from x) (to x))) (xs ++ x ∷ []) ≡ map (λ x. build x (piece items (from x) (to x))) xs ++ build x more ∷ []
    pieces_push xs x each start end =
        map-append (λ x. build x (piece (items ++ more) (from x) (to x))) xs (x ∷ [])
        ∙ ap (λ ps. ps ++ build x (piece (items ++ more) (from x) (to x)) ∷ []) (pieces_stay xs each)
        ∙ ap (λ p. map (λ x. build x (piece items (from x) (to x))) xs ++ build x p ∷ [])
        (ap (λ k. piece (items ++ more) k (to x)) start ∙ ap (piece (items ++ more) (length items)) end ∙ piece_added)

  module _ {X : Type 0} (from to : X → ℕ) where
    pub are_still : (xs : List X) → All (λ x. IsPiece (length items) (from x) (to x)) xs → All (λ x. IsPiece (length (items ++ more)) (from x) (to x)) xs
    are_still xs each =
        All-weaker (λ x. IsPiece (length items) (from x) (to x)) (λ x. IsPiece (length (items ++ more)) (from x) (to x)) (λ x is. (is.0, omega (arith, is.1, long))) xs each

    pub are_pushed : (xs : List X) (x : X) → All (λ x. IsPiece (length items) (from x) (to x)) xs → from x ≡ length items → to x ≡ length items + length more
        → All (λ x. IsPiece (length (items ++ more)) (from x) (to x)) (xs ++ x ∷ [])
    are_pushed xs x each start end = All-push (λ x. IsPiece (length (items ++ more)) (from x) (to x)) xs x (are_still xs each) (omega (arith, start, end), omega (arith, end, long))
