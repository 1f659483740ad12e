-- Ranges of a list.
use Rattle.std.proofs.Common.{◌≡◌, ℕ, zero, suc, ◌+◌, ◌≤◌, List, [], ◌∷◌, length, take, drop, refl, sym, ap, subst, ◌∙◌, arith, zero-add}

pub drop_drop : (m n : ℕ) (xs : List ℕ) → drop n (drop m xs) ≡ drop (m + n) xs
drop_drop zero n xs = ap (λ k. drop k xs) (sym (zero-add n))
drop_drop (suc m) zero [] = let k : suc m + zero ≡ suc m = omega arith in ap (λ i. drop i []) (sym k)
drop_drop (suc m) (suc n) [] = let k : suc m + suc n ≡ suc (m + suc n) = omega arith in ap (λ i. drop {A = ℕ} i []) (sym k)
drop_drop (suc m) n (x ∷ xs) = let k : suc m + n ≡ suc (m + n) = omega arith in drop_drop m n xs ∙ ap (λ i. drop i (x ∷ xs)) (sym k)

take_take : (len n : ℕ) (xs : List ℕ) → len ≤ length (take n xs) → take len (take n xs) ≡ take len xs
take_take zero n xs le = refl
take_take (suc len) zero xs le = absurd (omega (arith, le))
take_take (suc len) (suc n) [] le = refl
take_take (suc len) (suc n) (x ∷ xs) le = ap (λ (ys : List ℕ). x ∷ ys) (take_take len n xs (omega (arith, le)))

range : (from len n : ℕ) (xs : List ℕ) → from + len ≤ length (take n xs) → take len (drop from (take n xs)) ≡ take len (drop from xs)
range zero len n xs le = take_take len n xs (omega (arith, le))
range (suc from) len zero xs le = absurd (omega (arith, le))
range (suc from) len (suc n) [] le = refl
range (suc from) len (suc n) (x ∷ xs) le = range from len n xs (omega (arith, le))

-- a range of a range is a range
pub part_is : (start n from len : ℕ) (bytes now : List ℕ) → take n (drop start bytes) ≡ now → from + len ≤ length now → take len (drop (start + from) bytes) ≡ take len (drop from now)
part_is start n from len bytes now is le =
    let inside : from + len ≤ length (take n (drop start bytes)) = subst (λ (xs : List ℕ). from + len ≤ length xs) (sym is) le in
    ap (take len) (sym (drop_drop start from bytes)) ∙ sym (range from len n (drop start bytes) inside) ∙ ap (λ (xs : List ℕ). take len (drop from xs)) is
