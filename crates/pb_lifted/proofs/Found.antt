-- A number leads to the first element of a name.
use Rattle.std.proofs.Common.{◌≡◌, ◌<◌, ◌≤◌, ◌-◌, ℕ, zero, suc, Bool, true, false, cond, Option, Some, None, option_map, List, [], ◌∷◌, ◌++◌, length, map, find, refl, ap, ◌∙◌, arith}
use Rattle.std.specs.List.{slice_get}
use Rattle.std.specs.Str.{bytes_eq}
use Rattle.pb_lifted.specs.Names.{number_of}

abbrev pub at_number : {A : Type 0} → List A → Option ℕ → Option A
at_number items None = None
at_number items (Some i) = slice_get items i

pub first_found : {A : Type 0} (text_of : A → List ℕ) (items : List A) (text : List ℕ) → find (λ i. bytes_eq text (text_of i)) items ≡ at_number items (number_of text (map text_of items))
first_found text_of [] text = refl
first_found text_of (x ∷ items) text = at (bytes_eq text (text_of x)) (number_of text (map text_of items)) (first_found text_of items text)
  where
    at : (here : Bool) (n : Option ℕ) → find (λ i. bytes_eq text (text_of i)) items ≡ at_number items n
        → cond here (Some x) (find (λ i. bytes_eq text (text_of i)) items) ≡ at_number (x ∷ items) (cond here (Some 0) (option_map suc n))
    at true n e = refl
    at false None e = e
    at false (Some i) e = e

pub get_front : {A : Type 0} (xs ys : List A) (i : ℕ) → i < length xs → slice_get xs i ≡ slice_get (xs ++ ys) i
get_front [] ys i less = absurd (omega arith)
get_front (x ∷ xs) ys zero less = refl
get_front (x ∷ xs) ys (suc i) less = get_front xs ys i (omega arith)

pub get_behind : {A : Type 0} (xs ys : List A) (i : ℕ) → length xs ≤ i → slice_get ys (i - length xs) ≡ slice_get (xs ++ ys) i
get_behind [] ys i le = let same : i - 0 ≡ i = omega arith in ap (slice_get ys) same
get_behind (x ∷ xs) ys zero le = absurd (omega arith)
get_behind (x ∷ xs) ys (suc i) le = let same : suc i - suc (length xs) ≡ i - length xs = omega arith in ap (slice_get ys) same ∙ get_behind xs ys i (omega arith)
