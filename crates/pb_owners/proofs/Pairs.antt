-- Lists of seats before and after a loop that goes over their places.
use Rattle.std.proofs.Common.{◌≡◌, ◌≢◌, ℕ, zero, suc, ◌+◌, ◌<◌, ◌≤◌, List, [], ◌∷◌, ◌++◌, length, set, refl, sym, ap, ◌∙◌, subst, ⊎_elim, arith, length-set, slice_get, Option, Some, None}
use Rattle.std.proofs.lemmas.Bool.{cases_lt, cases_eq}
use Rattle.std.proofs.lemmas.List.{get_or-set_same, get_or-set_other, get_or_push, get_or_append_left, length-append}
use Rattle.std.proofs.lemmas.Option.{slice_get_within, slice_get-get_or, slice_get_past}
use Rattle.pb_hashed.specs.Laws.{sum_below}
use Rattle.pb_owners.specs.Seats.{Each, EachPair}

pub get_set_here : {A : Type 0} (l : List A) (i : ℕ) (a : A) → i < length l → slice_get (set l i a) i ≡ Some a
get_set_here l i a less = slice_get-get_or (set l i a) i a (let e = length-set l i a in omega arith) ∙ ap Some (get_or-set_same l i a a less)

pub get_set_else : {A : Type 0} (l : List A) (i j : ℕ) (a : A) → j ≢ i → slice_get (set l i a) j ≡ slice_get l j
get_set_else l i j a off =
    let e = length-set l i a in
    ⊎_elim (λ (less : j < length l). slice_get-get_or (set l i a) j a (omega arith) ∙ ap Some (get_or-set_other l i j a a off) ∙ sym (slice_get-get_or l j a less))
    (λ (past : length l ≤ j). slice_get_past (set l i a) j (omega arith) ∙ sym (slice_get_past l j past)) (cases_lt j (length l))

pub some_is : {A : Type 0} (x y : A) → ◌≡◌ {A = Option A} (Some x) (Some y) → x ≡ y
some_is x y h = cc

pub none_some : {A B : Type 0} (y : A) → ◌≡◌ {A = Option A} None (Some y) → B
none_some y h = absurd (let bad : ◌≡◌ {A = Option _} None (Some y) = h in cc)

-- the element at a place
pub there : {A : Type 0} (xs : List A) (i : ℕ) → i < length xs → (x : A) × (slice_get xs i ≡ Some x)
there [] i less = absurd (omega arith)
there (x ∷ xs) zero less = (x, refl)
there (x ∷ xs) (suc i) less = there xs i (omega arith)

-- one more at the end
pub get_push : {A : Type 0} (xs : List A) (y : A) (k : ℕ) → k < length xs → slice_get (xs ++ y ∷ []) k ≡ slice_get xs k
get_push xs y k less = slice_get-get_or (xs ++ y ∷ []) k y (let e = length-append xs (y ∷ []) in omega arith) ∙ ap Some (get_or_append_left xs (y ∷ []) y k less) ∙ sym (slice_get-get_or xs k y less)

pub get_last : {A : Type 0} (xs : List A) (y : A) (k : ℕ) → length xs ≡ k → slice_get (xs ++ y ∷ []) k ≡ Some y
get_last xs y k is = slice_get-get_or (xs ++ y ∷ []) k y (let e = length-append xs (y ∷ []) in omega arith) ∙ ap Some (get_or_push xs y y k is)

-- something that holds of each element holds with one more
pub each_more : {A : Type 0} (P : ℕ → A → Type 0) (xs : List A) (y : A) → ((i : ℕ) (x : A) → slice_get xs i ≡ Some x → P i x) → P (length xs) y → (i : ℕ) (x : A) → slice_get (xs ++ y ∷ []) i ≡ Some x → P i x
each_more P xs y each last i x is = ⊎_elim
    (λ (e : i ≡ length xs). subst (λ n. P n x) (sym e) (subst (λ a. P (length xs) a) (some_is y x (sym (get_last xs y (length xs) refl) ∙ (ap (slice_get (xs ++ y ∷ [])) (sym e) ∙ is))) last))
    (λ (off : i ≢ length xs). each i x (sym (get_push xs y i (let w = slice_get_within (xs ++ y ∷ []) i x is in let l = length-append xs (y ∷ []) in omega arith)) ∙ is)) (cases_eq i (length xs))

-- The first so many elements were changed, one after another, and the others are as they were.
pub record Pairs {A : Type 0} (count : ℕ) (R : ℕ → A → A → Type 0) (olds news : List A) : Type 0 where
  pub many : length news ≡ length olds
  pub done : (i : ℕ) (x y : A) → i < count → slice_get olds i ≡ Some x → slice_get news i ≡ Some y → R i x y
  pub left : (i : ℕ) → count ≤ i → slice_get news i ≡ slice_get olds i

pub pairs_none : {A : Type 0} (R : ℕ → A → A → Type 0) (xs : List A) → Pairs 0 R xs xs
pairs_none R xs = record { many = refl; done = λ i x y less. absurd (omega arith); left = λ i past. refl }

pub pairs_more : {A : Type 0} (R : ℕ → A → A → Type 0) (olds news : List A) (at : ℕ) (x y : A) → Pairs at R olds news → slice_get news at ≡ Some x → (slice_get olds at ≡ Some x → R at x y) → Pairs (at + 1) R olds (set news at y)
pairs_more R olds news at x y h is r =
    let was : slice_get olds at ≡ Some x = sym (h.left at (omega arith)) ∙ is in
    let low = slice_get_within news at x is in
    record {
      many = length-set news at y ∙ h.many;
      done = λ i u v less old new. ⊎_elim
          (λ (e : i ≡ at).
          let u_is : x ≡ u = some_is x u (sym was ∙ (ap (λ n. slice_get olds n) (sym e) ∙ old)) in
          let v_is : y ≡ v = some_is y v (sym (get_set_here news at y low) ∙ (ap (λ n. slice_get (set news at y) n) (sym e) ∙ new)) in
          subst (λ w. R i u w) v_is (subst (λ w. R i w y) u_is (subst (λ n. R n x y) (sym e) (r was))))
          (λ (off : i ≢ at). h.done i u v (omega arith) old (sym (get_set_else news at i y off) ∙ new)) (cases_eq i at);
      left = λ i past. get_set_else news at i y (λ e. omega arith) ∙ h.left i (omega arith);
    }

pub pairs_map : {A : Type 0} (R S : ℕ → A → A → Type 0) (olds news : List A) (count : ℕ) → ((i : ℕ) (x y : A) → i < count → R i x y → S i x y) → Pairs count R olds news → Pairs count S olds news
pairs_map R S olds news count f h = record { many = h.many; done = λ i x y less old new. f i x y less (h.done i x y less old new); left = h.left }

pub pairs_all : {A : Type 0} (R : ℕ → A → A → Type 0) (olds news : List A) (count : ℕ) → length news ≤ count → Pairs count R olds news → EachPair R olds news
pairs_all R olds news count all h = record {
  many = h.many;
  at = λ i x y old new. h.done i x y (let w = slice_get_within news i y new in omega arith) old new;
}

-- the element before
pub old_of : {A : Type 0} (olds news : List A) (i : ℕ) (y : A) → length news ≡ length olds → slice_get news i ≡ Some y → (x : A) × (slice_get olds i ≡ Some x)
old_of olds news i y many is = there olds i (let w = slice_get_within news i y is in omega arith)

-- one change after another
pub then : {A : Type 0} (R S : ℕ → A → A → Type 0) (xs ys zs : List A) → EachPair R xs ys → EachPair S ys zs → EachPair (λ i x z. (y : A) × R i x y × S i y z) xs zs
then R S xs ys zs one two = record {
  many = two.many ∙ one.many;
  at = λ i x z first last. let y = old_of ys zs i z two.many last in (y.0, one.at i x y.0 first y.1, two.at i y.0 z y.1 last);
}

-- what holds of each element afterwards
pub each_after : {A : Type 0} (R : ℕ → A → A → Type 0) (P : ℕ → A → Type 0) (xs ys : List A) → ((i : ℕ) (x y : A) → slice_get xs i ≡ Some x → R i x y → P i y) → EachPair R xs ys → Each P ys
each_after R P xs ys f h = record { at = λ i y is. let x = old_of xs ys i y h.many is in f i x.0 y x.1 (h.at i x.0 y x.1 is) }

-- ---- sums

pub sum_same : (count : ℕ) (f g : ℕ → ℕ) → ((i : ℕ) → i < count → f i ≡ g i) → sum_below count f ≡ sum_below count g
sum_same zero f g same = refl
sum_same (suc k) f g same = omega (arith, sum_same k f g (λ i less. same i (omega arith)), same k (omega arith))

pub sum_at_most : (count : ℕ) (f g : ℕ → ℕ) → ((i : ℕ) → i < count → f i ≤ g i) → sum_below count f ≤ sum_below count g
sum_at_most zero f g low = omega arith
sum_at_most (suc k) f g low = omega (arith, sum_at_most k f g (λ i less. low i (omega arith)), low k (omega arith))

pub term_at_most : (count : ℕ) (f : ℕ → ℕ) (i : ℕ) → i < count → f i ≤ sum_below count f
term_at_most zero f i less = absurd (omega arith)
term_at_most (suc k) f i less = ⊎_elim (λ (e : i ≡ k). let is = ap f e in omega arith) (λ (off : i ≢ k). let low = term_at_most k f i (omega arith) in omega arith) (cases_eq i k)
