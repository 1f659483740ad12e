-- The earliest of places that come in parts.
use Rattle.std.proofs.Common.{◌≡◌, ◌<◌, ◌+◌, ℕ, Option, Some, None, List, [], ◌∷◌, ◌++◌, flat_map, map, length, take, drop, get_or, refl, sym, ap, ◌∙◌}
use Rattle.std.proofs.lemmas.List.{drop_more, map_more}
use Rattle.pb_lifted.specs.Names.{earlier, earliest}

pub earliest_append : (first : Option ℕ) (xs ys : List ℕ) → earliest first (xs ++ ys) ≡ earliest (earliest first xs) ys
earliest_append first [] ys = refl
earliest_append first (x ∷ xs) ys = earliest_append (Some (earlier first x)) xs ys

-- what is left of a list from an element on
pub dropped : {A : Type 0} (xs : List A) (x : A) (i : ℕ) → i < length xs → x ≡ get_or xs i x → drop i xs ≡ x ∷ drop (i + 1) xs
dropped xs x i less is = drop_more xs i x less ∙ ap (λ z. z ∷ drop (i + 1) xs) (sym is)

-- the earliest place of a list's elements, one element on
pub kept : {A : Type 0} (places : A → List ℕ) (xs : List A) (x : A) (i : ℕ) (found next all : Option ℕ) → i < length xs → x ≡ get_or xs i x → next ≡ earliest found (places x)
    → earliest found (flat_map places (drop i xs)) ≡ all → earliest next (flat_map places (drop (i + 1) xs)) ≡ all
kept places xs x i found next all less is told so_far =
    ap (λ f. earliest f (flat_map places (drop (i + 1) xs))) told
    ∙ (sym (earliest_append found (places x) (flat_map places (drop (i + 1) xs)))
    ∙ (ap (λ ys. earliest found (flat_map places ys)) (sym (dropped xs x i less is)) ∙ so_far))

-- places that were gone over, and then more
pub joined : (xs ys : List ℕ) (found next : Option ℕ) → found ≡ earliest None xs → next ≡ earliest found ys → next ≡ earliest None (xs ++ ys)
joined xs ys found next told more = more ∙ (ap (λ f. earliest f ys) told ∙ sym (earliest_append None xs ys))

-- what the elements so far give, one element on
pub taken : {A B : Type 0} (f : A → B) (xs : List A) (x : A) (i : ℕ) → i < length xs → x ≡ get_or xs i x → map f (take (i + 1) xs) ≡ map f (take i xs) ++ f x ∷ []
taken f xs x i less is = map_more f xs i x less ∙ ap (λ z. map f (take i xs) ++ f z ∷ []) (sym is)
