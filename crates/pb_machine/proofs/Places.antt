-- Places of a list, beginnings of a journal, and the events that a view has of a worker.
use Rattle.std.proofs.Common.{◌≡◌, ◌≢◌, ℕ, zero, suc, ◌+◌, ◌<◌, ◌≤◌, length, set, false, ◌==◌, List, [], ◌∷◌, ◌++◌, refl, sym, ap, ◌∙◌, subst, ◌⊎◌, inl, inr, arith, length-append}
use Rattle.std.specs.List.{AllByRecursion}
use Rattle.std.proofs.lemmas.Bool.{ne_eqb}
use Rattle.std.proofs.lemmas.List.{append-nil, append_assoc, nil_from_length}
use Rattle.std.proofs.lemmas.List.Elements.{filter-append}
use mathlib.Core.Option.{some, some-injective, some-ne-none}
use lib.ListN.{get_elem?}
use Rattle.pb_model.proofs.Callers.{by_cases, not_both, equal, equal_self}
use Rattle.pb_machine.specs.declared.event.Event.{Event}
use Rattle.pb_machine.specs.History.{is_event_of, events_of, StartsWith}
use Rattle.pb_machine.specs.Views.{Share, AreDistinct, IsShareOf, IsAmong}

-- ---- places of a list

module _ {A : Type 0} where
  pub set_else : (l : List A) (i j : ℕ) (a : A) → j ≢ i → get_elem? (set l i a) j ≡ get_elem? l j
  set_else [] i j a n = refl
  set_else (x ∷ xs) zero zero a n = absurd (n refl)
  set_else (x ∷ xs) zero (suc j) a n = refl
  set_else (x ∷ xs) (suc i) zero a n = refl
  set_else (x ∷ xs) (suc i) (suc j) a n = set_else xs i j a (λ e. n (ap suc e))

  pub set_here : (l : List A) (i : ℕ) (a b : A) → get_elem? l i ≡ some a → get_elem? (set l i b) i ≡ some b
  set_here [] i a b e = absurd (some-ne-none a (sym e))
  set_here (x ∷ xs) zero a b e = refl
  set_here (x ∷ xs) (suc i) a b e = set_here xs i a b e

  -- an item of a list with another item at one place is that one, or one that was there before
  pub at_set : (l : List A) (i j : ℕ) (b a : A) → get_elem? (set l i b) j ≡ some a → ((j ≡ i) × (b ≡ a)) ⊎ ((j ≢ i) × (get_elem? l j ≡ some a))
  at_set l i j b a e = by_cases (j == i)
      (λ same. let here : j ≡ i = equal j i same in inl (here, new l j (subst (λ k. get_elem? (set l k b) j ≡ some a) (sym here) e)))
      (λ differ. let other : j ≢ i = λ p. not_both (j == i) (ap (λ k. k == i) p ∙ equal_self i) differ in inr (other, sym (set_else l i j b other) ∙ e))
    where
      new : (l : List A) (j : ℕ) → get_elem? (set l j b) j ≡ some a → b ≡ a
      new [] j e = absurd (some-ne-none a (sym e))
      new (x ∷ xs) zero e = some-injective b a e
      new (x ∷ xs) (suc j) e = new xs j e

  pub at_longer : (l m : List A) (i : ℕ) (a : A) → get_elem? l i ≡ some a → get_elem? (l ++ m) i ≡ some a
  at_longer [] m i a e = absurd (some-ne-none a (sym e))
  at_longer (x ∷ xs) m zero a e = e
  at_longer (x ∷ xs) m (suc i) a e = at_longer xs m i a e

  pub at_last : (l : List A) (a : A) (n : ℕ) → length l ≡ n → get_elem? (l ++ a ∷ []) n ≡ some a
  at_last [] a zero e = refl
  at_last [] a (suc n) e = absurd (omega arith)
  at_last (x ∷ xs) a zero e = absurd (omega arith)
  at_last (x ∷ xs) a (suc n) e = at_last xs a n (omega arith)

  -- an item is an old one, or the one that was added at the end
  pub at_end : (l : List A) (a b : A) (j : ℕ) → get_elem? (l ++ a ∷ []) j ≡ some b → (get_elem? l j ≡ some b) ⊎ ((j ≡ length l) × (a ≡ b))
  at_end [] a b zero e = inr (refl, some-injective a b e)
  at_end [] a b (suc j) e = absurd (some-ne-none b (sym e))
  at_end (x ∷ xs) a b zero e = inl e
  at_end (x ∷ xs) a b (suc j) e = go (at_end xs a b j e)
    where
      go : ((get_elem? xs j ≡ some b) ⊎ ((j ≡ length xs) × (a ≡ b))) → (get_elem? xs j ≡ some b) ⊎ ((suc j ≡ suc (length xs)) × (a ≡ b))
      go (inl h) = inl h
      go (inr h) = inr (ap suc h.0, h.1)

  pub all_both : (P R Q : A → Type 0) → ((x : A) → P x → R x → Q x) → (xs : List A) → AllByRecursion P xs → AllByRecursion R xs → AllByRecursion Q xs
  all_both P R Q f [] p r = tt
  all_both P R Q f (x ∷ xs) p r = (f x p.0 r.0, all_both P R Q f xs p.1 r.1)

  pub all_of : (P Q : A → Type 0) → ((x : A) → P x → Q x) → (xs : List A) → AllByRecursion P xs → AllByRecursion Q xs
  all_of P Q f [] p = tt
  all_of P Q f (x ∷ xs) p = (f x p.0, all_of P Q f xs p.1)

  pub all_append : (P : A → Type 0) (xs ys : List A) → AllByRecursion P xs → AllByRecursion P ys → AllByRecursion P (xs ++ ys)
  all_append P [] ys p q = q
  all_append P (x ∷ xs) ys p q = (p.0, all_append P xs ys p.1 q)

-- ---- beginnings of a journal

pub starts_more : (journal added seen : List Event) → StartsWith journal seen → StartsWith (journal ++ added) seen
starts_more journal added seen s = (s.0 ++ added, ap (λ xs. xs ++ added) s.1 ∙ append_assoc seen s.0 added)

-- of two beginnings of one journal the shorter begins the longer
pub begins_other : (a b r s : List Event) → a ++ r ≡ b ++ s → length a ≤ length b → StartsWith b a
begins_other [] b r s e le = (b, refl)
begins_other (x ∷ a) [] r s e le = absurd (omega arith)
begins_other (x ∷ a) (y ∷ b) r s e le =
    let rest : a ++ r ≡ b ++ s = cc in
    let first : x ≡ y = cc in
    let more = begins_other a b r s rest (omega arith) in
    (more.0, ap (λ z. z ∷ b) (sym first) ∙ ap (λ xs. x ∷ xs) more.1)

-- a beginning of a journal is no longer than it, and as long a one is the journal
pub no_longer : (journal seen : List Event) → StartsWith journal seen → length seen ≤ length journal
no_longer journal seen starts =
    let sum : length journal ≡ length seen + length starts.0 = ap length starts.1 ∙ length-append seen starts.0 in
    omega (arith, sum)

pub all_seen : (journal seen : List Event) → StartsWith journal seen → length journal ≤ length seen → seen ≡ journal
all_seen journal seen starts le =
    let sum : length journal ≡ length seen + length starts.0 = ap length starts.1 ∙ length-append seen starts.0 in
    let none : starts.0 ≡ [] = nil_from_length starts.0 (omega (arith, sum, le)) in
    sym (starts.1 ∙ ap (λ xs. seen ++ xs) none ∙ append-nil seen)

-- a longer beginning of the journal has the events that a shorter one has all of
pub covered_more : (journal a b : List Event) (worker : ℕ) (events : List Event) → StartsWith journal a → StartsWith journal b → length a ≤ length b
    → events_of worker journal ≡ events → events_of worker a ≡ events → events_of worker b ≡ events
covered_more journal a b worker events in_a in_b le told covered =
    let more : StartsWith b a = begins_other a b in_a.0 in_b.0 (sym in_a.1 ∙ in_b.1) le in
    let here : events_of worker b ≡ events ++ events_of worker more.0 =
    ap (events_of worker) more.1 ∙ filter-append (is_event_of worker) a more.0 ∙ ap (λ xs. xs ++ events_of worker more.0) covered in
    let all : events ≡ events_of worker b ++ events_of worker in_b.0 = sym told ∙ ap (events_of worker) in_b.1 ∙ filter-append (is_event_of worker) b in_b.0 in
    let one : length (events_of worker b) ≡ length events + length (events_of worker more.0) = ap length here ∙ length-append events (events_of worker more.0) in
    let two : length events ≡ length (events_of worker b) + length (events_of worker in_b.0) = ap length all ∙ length-append (events_of worker b) (events_of worker in_b.0) in
    let none : events_of worker more.0 ≡ [] = nil_from_length (events_of worker more.0) (omega (arith, one, two)) in
    here ∙ ap (λ xs. events ++ xs) none ∙ append-nil events

-- a beginning of a journal without events of a worker has none
pub none_covered : (journal seen : List Event) (worker : ℕ) → StartsWith journal seen → events_of worker journal ≡ [] → events_of worker seen ≡ []
none_covered journal seen worker starts none =
    let all : [] ≡ events_of worker seen ++ events_of worker starts.0 = sym none ∙ ap (events_of worker) starts.1 ∙ filter-append (is_event_of worker) seen starts.0 in
    let sum : 0 ≡ length (events_of worker seen) + length (events_of worker starts.0) = ap length all ∙ length-append (events_of worker seen) (events_of worker starts.0) in
    nil_from_length (events_of worker seen) (omega (arith, sum))

-- ---- shares

pub unmoved : (journal added : List Event) (worker : ℕ) → events_of worker added ≡ [] → events_of worker (journal ++ added) ≡ events_of worker journal
unmoved journal added worker none = filter-append (is_event_of worker) journal added ∙ ap (λ xs. events_of worker journal ++ xs) none ∙ append-nil (events_of worker journal)

abbrev pub IsRight : (journal seen : List Event) (made : ℕ) (seat_of : ℕ → ℕ) (seat : ℕ) → Share → Type 0
IsRight journal seen made seat_of seat share = IsShareOf journal seen share × (share.worker < made) × (seat_of share.worker ≡ seat)

pub among_left : (worker : ℕ) (xs ys : List Share) → IsAmong worker xs → IsAmong worker (xs ++ ys)
among_left worker [] ys h = absurd h
among_left worker (x ∷ xs) ys (inl h) = inl h
among_left worker (x ∷ xs) ys (inr h) = inr (among_left worker xs ys h)

pub among_right : (worker : ℕ) (xs ys : List Share) → IsAmong worker ys → IsAmong worker (xs ++ ys)
among_right worker [] ys h = h
among_right worker (x ∷ xs) ys h = inr (among_right worker xs ys h)

-- the seat of a worker among these shares
pub has_seat : (journal seen : List Event) (made : ℕ) (seat_of : ℕ → ℕ) (seat worker : ℕ) (shares : List Share) → AllByRecursion (IsRight journal seen made seat_of seat) shares → IsAmong worker shares → seat_of worker ≡ seat
has_seat journal seen made seat_of seat worker [] right h = absurd h
has_seat journal seen made seat_of seat worker (x ∷ xs) right (inl is) = ap seat_of (sym is) ∙ right.0.2
has_seat journal seen made seat_of seat worker (x ∷ xs) right (inr h) = has_seat journal seen made seat_of seat worker xs right.1 h

-- who is among two lists of shares is among one of them
pub among_one : (worker : ℕ) (xs ys : List Share) → IsAmong worker (xs ++ ys) → IsAmong worker xs ⊎ IsAmong worker ys
among_one worker [] ys h = inr h
among_one worker (x ∷ xs) ys (inl h) = inl (inl h)
among_one worker (x ∷ xs) ys (inr h) = go (among_one worker xs ys h)
  where
    go : (IsAmong worker xs ⊎ IsAmong worker ys) → IsAmong worker (x ∷ xs) ⊎ IsAmong worker ys
    go (inl is) = inl (inr is)
    go (inr is) = inr is

-- shares of two seats are of workers that differ
pub distinct_append : (journal seen other_seen : List Event) (made : ℕ) (seat_of : ℕ → ℕ) (seat other : ℕ) (xs ys : List Share) → other ≢ seat
    → AllByRecursion (IsRight journal seen made seat_of seat) xs → AllByRecursion (IsRight journal other_seen made seat_of other) ys → AreDistinct xs → AreDistinct ys → AreDistinct (xs ++ ys)
distinct_append journal seen other_seen made seat_of seat other [] ys apart right theirs d e = e
distinct_append journal seen other_seen made seat_of seat other (x ∷ xs) ys apart right theirs d e = (
  all_append (λ share. (share.worker == x.worker) ≡ false) xs ys d.0
      (all_of (IsRight journal other_seen made seat_of other) (λ share. (share.worker == x.worker) ≡ false)
      (λ share is. ne_eqb share.worker x.worker (λ same. apart (sym is.2 ∙ ap seat_of same ∙ right.0.2))) ys theirs),
  distinct_append journal seen other_seen made seat_of seat other xs ys apart right.1 theirs d.1 e,
)
