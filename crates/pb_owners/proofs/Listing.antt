-- Seats are made of shares, and shares are taken from seats: the last one first.
use Rattle.std.proofs.Common.{◌≡◌, ◌-◌, ◌<◌, List, [], ◌∷◌, ◌++◌, map, reverse, length, refl, sym, ap, ◌∙◌, subst, arith, slice_get, slice_index_or, All}
use Rattle.std.proofs.lemmas.List.{map-append, append_assoc, reverse-append, length-reverse, get_or-reverse}
use Rattle.std.proofs.lemmas.Option.{slice_get_within, get_or_from_slice_get}
use Rattle.std.proofs.lemmas.List.{length-append, get_or_append_left, get_or_push}
use Rattle.pb_owner.specs.declared.share.Share.{Share}
use Rattle.pb_owners.specs.declared.seat.Seat.{Seat}
use Rattle.pb_owners.specs.Seats.{Each}
use Rattle.pb_owners.specs.Shares.{share_of}

pub seated : (shares rest : List Share) (seats more : List Seat) (share : Share) (seat : Seat) → shares ≡ rest ++ share ∷ [] → more ≡ seats ++ seat ∷ [] → seat.share ≡ share → rest ++ map share_of (reverse more) ≡ shares ++ map share_of (reverse seats)
seated shares rest seats more share seat is more_is same =
    ap (λ (l : List Seat). rest ++ map share_of l) (ap reverse more_is ∙ reverse-append seats (seat ∷ []))
    ∙ ap (λ (s : Share). rest ++ (s ∷ map share_of (reverse seats))) same
    ∙ sym (append_assoc rest (share ∷ []) (map share_of (reverse seats))) ∙ ap (λ l. l ++ map share_of (reverse seats)) (sym is)

pub unseated : (seats rest : List Seat) (shares more : List Share) (seat : Seat) → seats ≡ rest ++ seat ∷ [] → more ≡ shares ++ seat.share ∷ [] → map share_of rest ++ reverse more ≡ map share_of seats ++ reverse shares
unseated seats rest shares more seat is more_is =
    ap (λ l. map share_of rest ++ l) (ap reverse more_is ∙ reverse-append shares (seat.share ∷ []))
    ∙ sym (append_assoc (map share_of rest) (seat.share ∷ []) (reverse shares)) ∙ ap (λ l. l ++ reverse shares) (sym (map-append share_of rest (seat ∷ []))) ∙ ap (λ l. map share_of l ++ reverse shares) (sym is)

pub no_items : {A : Type 0} (xs : List A) → length xs ≡ 0 → xs ≡ []
no_items [] e = refl
no_items (x ∷ xs) e = absurd (omega (arith, e))

-- the last one is taken off
pub all_front : {A : Type 0} (P : A → Type 0) (all xs : List A) (y : A) → all ≡ xs ++ y ∷ [] → All P all → All P xs
all_front P all xs y is h k d less = subst P (ap (λ l. slice_index_or l k d) is ∙ get_or_append_left xs (y ∷ []) d k less) (h k d (omega (arith, ap length is, length-append xs (y ∷ []))))

pub all_last : {A : Type 0} (P : A → Type 0) (all xs : List A) (y : A) → all ≡ xs ++ y ∷ [] → All P all → P y
all_last P all xs y is h = subst P (ap (λ l. slice_index_or l (length xs) y) is ∙ get_or_push xs y y (length xs) refl) (h (length xs) y (omega (arith, ap length is, length-append xs (y ∷ []))))

-- what holds of all holds of each in the other order
pub each_reversed : {A : Type 0} (P : A → Type 0) (xs ys : List A) → ys ≡ reverse xs → All P xs → Each (λ i. P) ys
each_reversed P xs ys is h = record {
  at = λ i y at.
      let at_reverse = ap (λ l. slice_get l i) (sym is) ∙ at in
      let less : i < length xs = let w = slice_get_within (reverse xs) i y at_reverse in let e = length-reverse xs in omega arith in
      let same : slice_index_or xs (length xs - 1 - i) y ≡ y = sym (get_or-reverse xs i y less) ∙ get_or_from_slice_get (reverse xs) i y y at_reverse in
      subst P same (h (length xs - 1 - i) y (omega arith));
}

pub length_shares : (seats : List Seat) → length (map share_of seats) ≡ length seats
length_shares [] = refl
length_shares (x ∷ xs) = omega (arith, length_shares xs)
