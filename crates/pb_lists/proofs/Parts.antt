-- Heaps of entries, and entries in two parts, after one came or left.
use Rattle.std.proofs.Common.{◌≡◌, ◌<◌, ◌≤◌, Bool, true, false, Option, Some, None, List, [], ◌∷◌, ◌||◌, ◌&&◌, ◌⊎◌, inl, inr, refl, sym, ap, ◌∙◌, subst, arith, nat_eq, true≢false, IfSome, IfNone, Result, Ok, Err, OnOk, OnErr, slice_index_or, if◌then◌else◌}
use Rattle.std.proofs.Math.Bool.{or-true, or_assoc, or_comm}
use Rattle.std.proofs.lemmas.Bool.{or_cases, cases_order, cases_lt}
use Rattle.std.proofs.lemmas.List.Sorted.{list_any-IsPermutation}
use Rattle.std.specs.List.{AllByRecursion}
use Rattle.std.specs.List.Sorted.{IsPermutation}
use Rattle.std.specs.Cmp.{nat_cmp_is}
use Rattle.std.specs.declared.cmp.Ordering.{Ordering}
use Rattle.std.specs.declared.cmp.Ordering.TheVariants.{Less, Equal, Greater}
use Rattle.std.specs.Ordering.{nat_cmp, ordering_then, is_lt}
use Rattle.std.specs.BinaryHeap.{heap_items, lt_by_cmp}
use Rattle.std.specs.declared.cmp.Reverse.{Reverse}
use Rattle.pb_model.proofs.Callers.{equal, equal_self}
use Rattle.std.specs.Global.{Box}
use Rattle.pb_lists.specs.declared.wide_entries.WideEntries.{WideEntries}
use Rattle.pb_lists.specs.declared.bucket.Bucket.{Bucket}
use Rattle.pb_lists.specs.Buckets.{has_boxed, top_of_boxed, has_entry, top_of}
use Rattle.pb_lists.specs.Heaped.{Entry, entry_cmp, later, IsNoLater, is_same, is_among, first_of, is_second_first, top_of_two, IsTop}

-- ---- entries

pub same_self : (entry : Entry) → is_same entry entry ≡ true
same_self entry =
    ap (λ b. b && (nat_eq entry.1 entry.1 && nat_eq entry.2 entry.2)) (equal_self entry.0)
    ∙ (ap (λ b. b && nat_eq entry.2 entry.2) (equal_self entry.1) ∙ equal_self entry.2)

pub same_found : (entry other : Entry) → is_same entry other ≡ true → entry ≡ other
same_found entry other same = which (nat_eq entry.0 other.0) refl (nat_eq entry.1 other.1) refl same
  where
    which : (b : Bool) → nat_eq entry.0 other.0 ≡ b → (d : Bool) → nat_eq entry.1 other.1 ≡ d → (b && (d && nat_eq entry.2 other.2)) ≡ true → entry ≡ other
    which true e true f m =
        let h : entry.0 ≡ other.0 = equal entry.0 other.0 e in
        let state : entry.1 ≡ other.1 = equal entry.1 other.1 f in
        let place : entry.2 ≡ other.2 = equal entry.2 other.2 m in
        ap (λ n. (n, entry.1, entry.2)) h ∙ (ap (λ s. (other.0, s, entry.2)) state ∙ ap (λ p. (other.0, other.1, p)) place)
    which true e false f m = absurd (true≢false (sym m))
    which false e d f m = absurd (true≢false (sym m))

abbrev ComesFirst : Entry → Entry → Type 0
ComesFirst first second =
    (first.0 < second.0)
    ⊎ ((first.0 ≡ second.0) × ((first.1 < second.1) ⊎ ((first.1 ≡ second.1) × (first.2 < second.2))))

-- an entry is no later than another that doesn't come before it
no_later : (entry other : Entry) → (ComesFirst other entry → ⊥) → IsNoLater entry other
no_later entry other not_first = by_first (cases_order entry.0 other.0)
  where
    by_third : entry.0 ≡ other.0 → entry.1 ≡ other.1 → ((other.2 < entry.2) ⊎ (entry.2 ≤ other.2)) → IsNoLater entry other
    by_third e f (inl l) = absurd (not_first (inr (sym e, inr (sym f, l))))
    by_third e f (inr le) = inr (e, inr (f, le))

    by_second : entry.0 ≡ other.0 → ((entry.1 ≡ other.1) ⊎ ((entry.1 < other.1) ⊎ (other.1 < entry.1))) → IsNoLater entry other
    by_second e (inl f) = by_third e f (cases_lt other.2 entry.2)
    by_second e (inr (inl l)) = inr (e, inl l)
    by_second e (inr (inr g)) = absurd (not_first (inr (sym e, inl g)))

    by_first : ((entry.0 ≡ other.0) ⊎ ((entry.0 < other.0) ⊎ (other.0 < entry.0))) → IsNoLater entry other
    by_first (inl e) = by_second e (cases_order entry.1 other.1)
    by_first (inr (inl l)) = inl l
    by_first (inr (inr g)) = absurd (not_first (inl g))

-- how entries are compared
compared : (a b : Entry) (first second third : Ordering) → nat_cmp a.0 b.0 ≡ first → nat_cmp a.1 b.1 ≡ second → nat_cmp a.2 b.2 ≡ third
    → entry_cmp a b ≡ ordering_then (ordering_then first second) third
compared a b first second third e f g =
    ap (λ o. ordering_then (ordering_then o (nat_cmp a.1 b.1)) (nat_cmp a.2 b.2)) e
    ∙ (ap (λ o. ordering_then (ordering_then first o) (nat_cmp a.2 b.2)) f ∙ ap (ordering_then (ordering_then first second)) g)

-- an entry that no other comes before
not_before : (entry other : Entry) → is_lt (entry_cmp other entry) ≡ false → IsNoLater entry other
not_before entry other e = no_later entry other (λ first. true≢false (sym (ap is_lt (less first)) ∙ e))
  where
    less : ComesFirst other entry → entry_cmp other entry ≡ Less
    less (inl l) = compared other entry Less (nat_cmp other.1 entry.1) (nat_cmp other.2 entry.2) (sym (nat_cmp_is other.0 entry.0 Less l)) refl refl
    less (inr (d, inl l)) = compared other entry Equal Less (nat_cmp other.2 entry.2) (sym (nat_cmp_is other.0 entry.0 Equal d)) (sym (nat_cmp_is other.1 entry.1 Less l)) refl
    less (inr (d, inr l)) =
        compared other entry Equal Equal Less (sym (nat_cmp_is other.0 entry.0 Equal d)) (sym (nat_cmp_is other.1 entry.1 Equal l.0)) (sym (nat_cmp_is other.2 entry.2 Less l.1))

-- an entry that comes before another
before : (entry other : Entry) → is_lt (entry_cmp entry other) ≡ true → IsNoLater entry other
before entry other e = no_later entry other (λ first. true≢false (sym e ∙ ap is_lt (greater first)))
  where
    greater : ComesFirst other entry → entry_cmp entry other ≡ Greater
    greater (inl l) = compared entry other Greater (nat_cmp entry.1 other.1) (nat_cmp entry.2 other.2) (sym (nat_cmp_is entry.0 other.0 Greater l)) refl refl
    greater (inr (d, inl l)) = compared entry other Equal Greater (nat_cmp entry.2 other.2) (sym (nat_cmp_is entry.0 other.0 Equal (sym d))) (sym (nat_cmp_is entry.1 other.1 Greater l)) refl
    greater (inr (d, inr l)) =
        compared entry other Equal Equal Greater (sym (nat_cmp_is entry.0 other.0 Equal (sym d))) (sym (nat_cmp_is entry.1 other.1 Equal (sym l.0))) (sym (nat_cmp_is entry.2 other.2 Greater l.1))

no_later_trans : (a b c : Entry) → IsNoLater a b → IsNoLater b c → IsNoLater a c
no_later_trans a b c (inl l) (inl m) = inl (omega arith)
no_later_trans a b c (inl l) (inr (e, m)) = inl (omega arith)
no_later_trans a b c (inr (d, l)) (inl m) = inl (omega arith)
no_later_trans a b c (inr (d, l)) (inr (e, m)) = inr (d ∙ e, rest l m)
  where
    rest : ((a.1 < b.1) ⊎ ((a.1 ≡ b.1) × (a.2 ≤ b.2))) → ((b.1 < c.1) ⊎ ((b.1 ≡ c.1) × (b.2 ≤ c.2))) → (a.1 < c.1) ⊎ ((a.1 ≡ c.1) × (a.2 ≤ c.2))
    rest (inl x) (inl y) = inl (omega arith)
    rest (inl x) (inr (f, y)) = inl (omega arith)
    rest (inr (g, x)) (inl y) = inl (omega arith)
    rest (inr (g, x)) (inr (f, y)) = inr (g ∙ f, omega arith)

no_later_both : (a b : Entry) → IsNoLater a b → IsNoLater b a → a ≡ b
no_later_both a b (inl l) (inl m) = absurd (omega arith)
no_later_both a b (inl l) (inr (e, m)) = absurd (omega arith)
no_later_both a b (inr (d, l)) (inl m) = absurd (omega arith)
no_later_both a b (inr (d, l)) (inr (e, m)) = rest l m
  where
    rest : ((a.1 < b.1) ⊎ ((a.1 ≡ b.1) × (a.2 ≤ b.2))) → ((b.1 < a.1) ⊎ ((b.1 ≡ a.1) × (b.2 ≤ a.2))) → a ≡ b
    rest (inl x) (inl y) = absurd (omega arith)
    rest (inl x) (inr (f, y)) = absurd (omega arith)
    rest (inr (g, x)) (inl y) = absurd (omega arith)
    rest (inr (g, x)) (inr (f, y)) =
        let place : a.2 ≡ b.2 = omega arith in
        ap (λ n. (n, a.1, a.2)) d ∙ (ap (λ s. (b.0, s, a.2)) g ∙ ap (λ p. (b.0, b.1, p)) place)

-- the top of a heap is before all others
pub least_among : (item : Reverse Entry) (items : List (Reverse Entry)) → AllByRecursion (λ other. lt_by_cmp later item other ≡ false) items → (entry : Entry) → is_among entry items ≡ true → IsNoLater item.0 entry
least_among item [] above entry among = absurd (true≢false (sym among))
least_among item (other ∷ items) above entry among = which (is_same entry other.0) refl among (λ m. least_among item items above.1 entry m)
  where
    which : (b : Bool) → is_same entry other.0 ≡ b → (b || is_among entry items) ≡ true → (is_among entry items ≡ true → IsNoLater item.0 entry) → IsNoLater item.0 entry
    which true e m rest = subst (λ p. IsNoLater item.0 p) (sym (same_found entry other.0 e)) (not_before item.0 other.0 above.0)
    which false e m rest = rest m

-- ---- what a call answered

pub ok_then : {T E P Q : Type 0} (result : Result T E) → (P → Q) → OnOk result P → OnOk result Q
ok_then (Ok x) f p = f p
ok_then (Err e) f p = tt

pub err_then : {T E P Q : Type 0} (result : Result T E) → (P → Q) → OnErr result P → OnErr result Q
err_then (Ok x) f p = tt
err_then (Err e) f p = f p

-- ---- one heap

-- an entry comes into a heap
pub among_more : (entry : Entry) (item : Reverse Entry) (old new : List (Reverse Entry)) → IsPermutation (item ∷ old) new → is_among entry new ≡ (is_same entry item.0 || is_among entry old)
among_more entry item old new moved = sym (list_any-IsPermutation (λ other. is_same entry other.0) (item ∷ old) new moved)

first_member : (items : List (Reverse Entry)) (entry : Entry) → first_of items ≡ Some entry → is_among entry items ≡ true
first_member [] entry first = cc
first_member (item ∷ items) entry first =
    let is : item.0 ≡ entry = cc in
    ap (λ b. b || is_among entry items) (subst (λ e. is_same entry e ≡ true) (sym is) (same_self entry))

-- a heap without an entry has no top
top_of_none : (items : List (Reverse Entry)) → items ≡ [] → IsTop (λ entry. is_among entry items) (first_of items)
top_of_none [] empty = record { here = tt; least = tt; none = λ entry. refl }
top_of_none (item ∷ items) empty = cc

-- the top of a heap
pub heap_top : (items : List (Reverse Entry)) (found : Option Entry) → found ≡ first_of items → IfSome found (λ entry. (other : Entry) → is_among other items ≡ true → IsNoLater entry other)
    → IfNone found (items ≡ []) → IsTop (λ entry. is_among entry items) (first_of items)
heap_top items None first least none = top_of_none items none
heap_top items (Some entry) first least none = subst (λ top. IsTop (λ other. is_among other items) top) first (record {
  here = first_member items entry (sym first);
  least = least;
  none = tt;
})

top_first : (items : List (Reverse Entry)) (item : Reverse Entry) → item ≡ slice_index_or items 0 item → is_among item.0 items ≡ true → first_of items ≡ Some item.0
top_first [] item first member = absurd (true≢false (sym member))
top_first (other ∷ items) item first member = ap (λ (r : Reverse Entry). Some r.0) (sym first)

-- a heap loses its first
pub heap_less : (old new : List (Reverse Entry)) (popped : Option (Reverse Entry)) → IfSome popped (λ item. item ≡ slice_index_or old 0 item) → IfSome popped (λ item. IsPermutation old (item ∷ new))
    → IfNone popped (new ≡ old) → (entry : Entry) → is_among entry old ≡ true → (first_of old ≡ Some entry) ⊎ (is_among entry new ≡ true)
heap_less old new None first moved same entry had = inr (ap (λ items. is_among entry items) same ∙ had)
heap_less old new (Some item) first moved same entry had = which (is_same entry item.0) refl (sym (is entry) ∙ had)
  where
    is : (other : Entry) → is_among other old ≡ (is_same other item.0 || is_among other new)
    is other = list_any-IsPermutation (λ it. is_same other it.0) old (item ∷ new) moved

    which : (b : Bool) → is_same entry item.0 ≡ b → (b || is_among entry new) ≡ true → (first_of old ≡ Some entry) ⊎ (is_among entry new ≡ true)
    which true e m =
        let member : is_among item.0 old ≡ true = is item.0 ∙ ap (λ b. b || is_among item.0 new) (same_self item.0) in
        inl (top_first old item first member ∙ ap (λ s. Some s) (sym (same_found entry item.0 e)))
    which false e m = inr m

-- and nothing comes in
pub heap_had : (old new : List (Reverse Entry)) (popped : Option (Reverse Entry)) → IfSome popped (λ item. IsPermutation old (item ∷ new)) → IfNone popped (new ≡ old)
    → (entry : Entry) → is_among entry new ≡ true → is_among entry old ≡ true
heap_had old new None moved same entry has = ap (λ items. is_among entry items) (sym same) ∙ has
heap_had old new (Some item) moved same entry has =
    list_any-IsPermutation (λ it. is_same entry it.0) old (item ∷ new) moved ∙ (ap (λ b. is_same entry item.0 || b) has ∙ or-true (is_same entry item.0))

-- ---- two parts

either : {P : Type 0} (a b : Bool) → (a || b) ≡ true → (a ≡ true → P) → (b ≡ true → P) → P
either {P = P} a b member left right = which (or_cases a b member)
  where
    which : (a ≡ true) ⊎ (b ≡ true) → P
    which (inl m) = left m
    which (inr m) = right m

-- the top of two parts is that of one of them
pub two_top : (had more : Entry → Bool) (first second : Option Entry) → IsTop had first → IsTop more second → IsTop (λ entry. had entry || more entry) (top_of_two first second)
two_top had more None None a b = record { here = tt; least = tt; none = λ entry. ap (λ x. x || more entry) (a.none entry) ∙ b.none entry }
two_top had more None (Some second) a b = record {
  here = ap (λ x. had second || x) b.here ∙ or-true (had second);
  least = λ other member. either (had other) (more other) member (λ m. absurd (true≢false (sym m ∙ a.none other))) (λ m. b.least other m);
  none = tt;
}
two_top had more (Some first) None a b = record {
  here = ap (λ x. x || more first) a.here;
  least = λ other member. either (had other) (more other) member (λ m. a.least other m) (λ m. absurd (true≢false (sym m ∙ b.none other)));
  none = tt;
}
two_top had more (Some first) (Some second) a b = which (is_lt (entry_cmp second first)) refl
  where
    which : (x : Bool) → is_lt (entry_cmp second first) ≡ x → IsTop (λ entry. had entry || more entry) (if x then Some second else Some first)
    which true e = record {
      here = ap (λ x. had second || x) b.here ∙ or-true (had second);
      least = λ other member. either (had other) (more other) member (λ m. no_later_trans second first other (before second first e) (a.least other m)) (λ m. b.least other m);
      none = tt;
    }
    which false e = record {
      here = ap (λ x. x || more first) a.here;
      least = λ other member. either (had other) (more other) member (λ m. a.least other m) (λ m. no_later_trans first second other (not_before first second e) (b.least other m));
      none = tt;
    }

-- and is one of its entries
two_member : (entry : Entry) (had more : Bool) (first second : Option Entry) → (first ≡ Some entry → had ≡ true) → (second ≡ Some entry → more ≡ true) → top_of_two first second ≡ Some entry → (had || more) ≡ true
two_member entry had more first second of_first of_second top = which (is_second_first first second) top
  where
    which : (b : Bool) → (if b then second else first) ≡ Some entry → (had || more) ≡ true
    which true e = ap (λ m. had || m) (of_second e) ∙ or-true had
    which false e = ap (λ m. m || more) (of_first e)

boxed_member : (wide : Option (Box WideEntries)) (entry : Entry) → top_of_boxed wide ≡ Some entry → has_boxed wide entry ≡ true
boxed_member None entry top = cc
boxed_member (Some wide) entry top =
    two_member entry (is_among entry wide.value.few.items) (is_among entry wide.value.many.items) (first_of wide.value.few.items) (first_of wide.value.many.items)
    (first_member wide.value.few.items entry) (first_member wide.value.many.items entry) top

pub top_member : (bucket : Bucket) (entry : Entry) → top_of bucket ≡ Some entry → has_entry bucket entry ≡ true
top_member bucket entry top =
    two_member entry (is_among entry bucket.words.items) (has_boxed bucket.wide entry) (first_of bucket.words.items) (top_of_boxed bucket.wide)
    (first_member bucket.words.items entry) (boxed_member bucket.wide entry) top

-- an entry comes into the first part, or into the second
pub first_more : (is same had more : Bool) → is ≡ (same || had) → (is || more) ≡ (same || (had || more))
first_more is same had more e = ap (λ b. b || more) e ∙ or_assoc same had more

pub second_more : (is same had more : Bool) → is ≡ (same || more) → (had || is) ≡ (same || (had || more))
second_more is same had more e = ap (λ b. had || b) e ∙ (sym (or_assoc had same more) ∙ (ap (λ b. b || more) (or_comm had same) ∙ or_assoc same had more))

-- the first part loses its top, which is that of both
pub first_less : (had less more : Entry → Bool) (first second : Option Entry) → is_second_first first second ≡ false → ((entry : Entry) → had entry ≡ true → (first ≡ Some entry) ⊎ (less entry ≡ true))
    → (entry : Entry) → (had entry || more entry) ≡ true → (top_of_two first second ≡ Some entry) ⊎ ((less entry || more entry) ≡ true)
first_less had less more first second is left entry member = either (had entry) (more entry) member (λ m. part (left entry m)) (λ m. inr (ap (λ b. less entry || b) m ∙ or-true (less entry)))
  where
    part : (first ≡ Some entry) ⊎ (less entry ≡ true) → (top_of_two first second ≡ Some entry) ⊎ ((less entry || more entry) ≡ true)
    part (inl e) = inl (ap (λ b. if b then second else first) is ∙ e)
    part (inr m) = inr (ap (λ b. b || more entry) m)

-- the second part loses its top, which is that of both
pub second_less : (had more less : Entry → Bool) (first second : Option Entry) → is_second_first first second ≡ true → ((entry : Entry) → more entry ≡ true → (second ≡ Some entry) ⊎ (less entry ≡ true))
    → (entry : Entry) → (had entry || more entry) ≡ true → (top_of_two first second ≡ Some entry) ⊎ ((had entry || less entry) ≡ true)
second_less had more less first second is left entry member = either (had entry) (more entry) member (λ m. inr (ap (λ b. b || less entry) m)) (λ m. part (left entry m))
  where
    part : (second ≡ Some entry) ⊎ (less entry ≡ true) → (top_of_two first second ≡ Some entry) ⊎ ((had entry || less entry) ≡ true)
    part (inl e) = inl (ap (λ b. if b then second else first) is ∙ e)
    part (inr m) = inr (ap (λ b. had entry || b) m ∙ or-true (had entry))

-- a part that loses its top gets nothing
pub first_had : (had less more : Bool) → (less ≡ true → had ≡ true) → (less || more) ≡ true → (had || more) ≡ true
first_had had less more kept member = either less more member (λ m. ap (λ b. b || more) (kept m)) (λ m. ap (λ b. had || b) m ∙ or-true had)

pub second_had : (had more less : Bool) → (less ≡ true → more ≡ true) → (had || less) ≡ true → (had || more) ≡ true
second_had had more less kept member = either had less member (λ m. ap (λ b. b || more) m) (λ m. ap (λ b. had || b) (kept m) ∙ or-true had)

-- ---- the top after a push

module _ (entry : Entry) (had has : Entry → Bool) (more : (other : Entry) → has other ≡ (is_same other entry || had other)) where
  pub pushed_member : has entry ≡ true
  pushed_member = more entry ∙ ap (λ b. b || had entry) (same_self entry)

  pub pushed_had : (other : Entry) → has other ≡ true → (other ≡ entry) ⊎ (had other ≡ true)
  pushed_had other here = which (or_cases (is_same other entry) (had other) (sym (more other) ∙ here))
    where
      which : (is_same other entry ≡ true) ⊎ (had other ≡ true) → (other ≡ entry) ⊎ (had other ≡ true)
      which (inl s) = inl (same_found other entry s)
      which (inr m) = inr m

  pub pushed_keeps : (other : Entry) → had other ≡ true → has other ≡ true
  pushed_keeps other here = more other ∙ (ap (λ b. is_same other entry || b) here ∙ or-true (is_same other entry))

  pub pushed_top : (was is : Option Entry) → IsTop had was → IsTop has is → (is ≡ was) ⊎ (is ≡ Some entry)
  pushed_top was None old new = absurd (true≢false (sym pushed_member ∙ new.none entry))
  pushed_top was (Some top) old new = which (is_same top entry) refl (sym (more top) ∙ new.here)
    where
      among : (found : Option Entry) → IsTop had found → had top ≡ true → Some top ≡ found
      among None o m = absurd (true≢false (sym m ∙ o.none top))
      among (Some first) o m = ap (λ t. Some t) (no_later_both top first (new.least first (pushed_keeps first o.here)) (o.least top m))

      which : (b : Bool) → is_same top entry ≡ b → (b || had top) ≡ true → (Some top ≡ was) ⊎ (Some top ≡ Some entry)
      which true s m = inr (ap (λ t. Some t) (same_found top entry s))
      which false s m = inl (among was old m)
