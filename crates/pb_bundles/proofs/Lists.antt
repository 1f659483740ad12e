-- Lists by place, and which numbers a list has.
use Rattle.std.proofs.Common.{◌≡◌, ℕ, zero, suc, ◌+◌, ◌<◌, ◌≤◌, Bool, true, false, cond, ◌||◌, ◌==◌, nat_eq, List, [], ◌∷◌, ◌++◌, Option, Some, None, get_or, set, take, is_some, length, refl, sym, ap, subst, ◌∙◌, arith, add-one, one-add, nat_lt, not, get_or-set_same, get_or-set_other, true≢false}
use Rattle.std.proofs.lemmas.Bool.{or_right, eqb-false}
use Rattle.std.proofs.lemmas.Bool.Decides.{nat_tests}
use Rattle.std.proofs.lemmas.List.{get_or_past}
use Rattle.std.proofs.lemmas.Option.{none-some, same_Some}
use Rattle.std.specs.List.{AllByRecursion, IsDistinct, slice_get}
use Rattle.std.proofs.lemmas.Map.Keys.{IsDistinct-head, IsDistinct-tail}
use Rattle.std.specs.Map.{keys_of, lookup, set_value}
use Rattle.indexmap.specs.IndexMap.{set_value_at}
use Rattle.std.specs.List.{position, position_or_len}
use Rattle.pb_model.proofs.Callers.{by_cases, equal, equal_self, equal_swap}
use Rattle.pb_bundles.specs.Moves.{is_among}

-- ---- one place is set

pub set_at : {A : Type 0} (xs : List A) (i k : ℕ) (v d : A) → i < length xs → get_or (set xs i v) k d ≡ cond (k == i) v (get_or xs k d)
set_at xs i k v d within = by_cases (k == i)
    (λ e. ap (λ n. get_or (set xs i v) n d) (equal k i e) ∙ get_or-set_same xs i v d within ∙ sym (ap (λ b. cond b v (get_or xs k d)) e))
    (λ e. get_or-set_other xs i k v d (eqb-false k i e) ∙ sym (ap (λ b. cond b v (get_or xs k d)) e))

cleared_here : {A : Type 0} (xs : List (Option A)) (i : ℕ) → get_or (set xs i None) i None ≡ None
cleared_here [] i = refl
cleared_here (x ∷ xs) zero = refl
cleared_here (x ∷ xs) (suc i) = cleared_here xs i

pub cleared_at : {A : Type 0} (xs : List (Option A)) (i k : ℕ) → get_or (set xs i None) k None ≡ cond (k == i) None (get_or xs k None)
cleared_at xs i k = by_cases (k == i)
    (λ e. ap (λ n. get_or (set xs i None) n None) (equal k i e) ∙ cleared_here xs i ∙ sym (ap (λ b. cond b None (get_or xs k None)) e))
    (λ e. get_or-set_other xs i k None None (eqb-false k i e) ∙ sym (ap (λ b. cond b None (get_or xs k None)) e))

-- ---- distinct numbers

each : {A : Type 0} (P : A → Type 0) (xs : List A) (i : ℕ) (d : A) → i < length xs → AllByRecursion P xs → P (get_or xs i d)
each P [] i d within all = absurd (omega arith)
each P (x ∷ xs) zero d within all = all.0
each P (x ∷ xs) (suc i) d within all = each P xs i d (omega arith) all.1

-- a number of a list of distinct ones isn't among those before it
pub not_before : (xs : List ℕ) (i d : ℕ) → i < length xs → IsDistinct nat_eq xs → is_among (take i xs) (get_or xs i d) ≡ false
not_before [] i d within distinct = absurd (omega arith)
not_before (x ∷ xs) zero d within distinct = refl
not_before (x ∷ xs) (suc i) d within distinct =
    ap (λ b. b || is_among (take i xs) (get_or xs i d)) (each (λ y. nat_eq x y ≡ false) xs i d (omega arith) (IsDistinct-head nat_eq x xs distinct))
    ∙ not_before xs i d (omega arith) (IsDistinct-tail nat_eq x xs distinct)

-- ---- entries

key_at_place : {X : Type 0} (P : ℕ → Type 0) (es : List (ℕ × X)) (i k : ℕ) (x : X) → slice_get es i ≡ Some (k, x) → AllByRecursion P (keys_of es) → P k
key_at_place P [] i k x is all = absurd (none-some _ is)
key_at_place P (e ∷ es) zero k x is all = subst P (ap (λ p. p.0) (same_Some _ _ is)) all.0
key_at_place P (e ∷ es) (suc i) k x is all = key_at_place P es i k x is all.1

-- the key of an entry isn't found among the entries before it
pub absent_before : {X : Type 0} (es : List (ℕ × X)) (i k : ℕ) (x : X) → IsDistinct nat_eq (keys_of es) → slice_get es i ≡ Some (k, x) → lookup (nat_eq k) (take i es) ≡ None
absent_before [] i k x distinct is = absurd (none-some _ is)
absent_before (e ∷ es) zero k x distinct is = refl
absent_before (e ∷ es) (suc i) k x distinct is =
    ap (λ b. cond b (Some e.1) (lookup (nat_eq k) (take i es))) (key_at_place (λ y. nat_eq y e.0 ≡ false) es i k x is turned)
    ∙ absent_before es i k x (IsDistinct-tail nat_eq e.0 (keys_of es) distinct) is
  where
    turn : (ks : List ℕ) → AllByRecursion (λ y. nat_eq e.0 y ≡ false) ks → AllByRecursion (λ y. nat_eq y e.0 ≡ false) ks
    turn [] all = tt
    turn (k ∷ ks) all = (equal_swap k e.0 ∙ all.0, turn ks all.1)

    turned : AllByRecursion (λ y. nat_eq y e.0 ≡ false) (keys_of es)
    turned = turn (keys_of es) (IsDistinct-head nat_eq e.0 (keys_of es) distinct)

-- what is found is found still, if another entry stands first
found_still : {X : Type 0} (b : Bool) (x : X) (found : Option X) → is_some found ≡ true → is_some (cond b (Some x) found) ≡ true
found_still true x found there = refl
found_still false x found there = there

-- the key of an entry is found
pub some_at : {X : Type 0} (es : List (ℕ × X)) (i k : ℕ) (x : X) → slice_get es i ≡ Some (k, x) → is_some (lookup (nat_eq k) es) ≡ true
some_at [] i k x is = absurd (none-some _ is)
some_at {X = X} (e ∷ es) zero k x is = ap (λ b. is_some (cond b (Some e.1) (lookup (nat_eq k) es))) (ap (λ n. nat_eq n e.0) (sym same) ∙ equal_self e.0)
  where
    same : e.0 ≡ k
    same = ap (λ (p : ℕ × X). p.0) (same_Some _ _ is)
some_at (e ∷ es) (suc i) k x is = found_still (nat_eq k e.0) e.1 (lookup (nat_eq k) es) (some_at es i k x is)

-- what holds of each key that is found holds of the key of each entry
pub by_found : {X : Type 0} (P : ℕ → Type 0) (es : List (ℕ × X)) → ((k : ℕ) → is_some (lookup (nat_eq k) es) ≡ true → P k) → AllByRecursion (λ e. P e.0) es
by_found P [] each = tt
by_found P (e ∷ es) each =
    (each e.0 (ap (λ b. is_some (cond b (Some e.1) (lookup (nat_eq e.0) es))) (equal_self e.0)), by_found P es (λ k there. each k (found_still (nat_eq k e.0) e.1 (lookup (nat_eq k) es) there)))

-- a number of a list is among the list, and what holds of each that is among it holds of each
pub among_at : (xs : List ℕ) (i d : ℕ) → i < length xs → is_among xs (get_or xs i d) ≡ true
among_at [] i d within = absurd (omega arith)
among_at (x ∷ xs) zero d within = ap (λ b. b || is_among xs x) (equal_self x)
among_at (x ∷ xs) (suc i) d within = or_right (x == get_or xs i d) (is_among xs (get_or xs i d)) (among_at xs i d (omega arith))

pub by_among : (P : ℕ → Type 0) (xs : List ℕ) → ((x : ℕ) → is_among xs x ≡ true → P x) → AllByRecursion P xs
by_among P [] each = tt
by_among P (x ∷ xs) each = (each x (ap (λ b. b || is_among xs x) (equal_self x)), by_among P xs (λ y there. each y (or_right (x == y) (is_among xs y) there)))

-- what is found among the entries is found still, where one more stands at the end
pub found_front : {X : Type 0} (es : List (ℕ × X)) (e : ℕ × X) (k : ℕ) → (k == e.0) ≡ false → lookup (nat_eq k) (es ++ e ∷ []) ≡ lookup (nat_eq k) es
found_front [] e k other = ap (λ b. cond b (Some e.1) None) other
found_front (f ∷ es) e k other = ap (cond (nat_eq k f.0) (Some f.1)) (found_front es e k other)

-- the last entry is found, where none before it has its key
pub found_last : {X : Type 0} (es : List (ℕ × X)) (e : ℕ × X) → lookup (nat_eq e.0) es ≡ None → lookup (nat_eq e.0) (es ++ e ∷ []) ≡ Some e.1
found_last [] e absent = ap (λ b. cond b (Some e.1) None) (equal_self e.0)
found_last {X = X} (f ∷ es) e absent = by_cases (nat_eq e.0 f.0)
    (λ same. let bad : ◌≡◌ {A = Option X} (Some f.1) None = sym (ap (λ b. cond b (Some f.1) (lookup (nat_eq e.0) es)) same) ∙ absent in cc)
    (λ other. ap (λ b. cond b (Some f.1) (lookup (nat_eq e.0) (es ++ e ∷ []))) other
    ∙ found_last es e (sym (ap (λ b. cond b (Some f.1) (lookup (nat_eq e.0) es)) other) ∙ absent))

-- what stands at a place that there is
pub entry_at : {A : Type 0} (xs : List A) (i : ℕ) → i < length xs → (x : A) × (slice_get xs i ≡ Some x)
entry_at [] i within = absurd (omega arith)
entry_at (x ∷ xs) zero within = (x, refl)
entry_at (x ∷ xs) (suc i) within = entry_at xs i (omega arith)

front_next : {A : Type 0} (xs : List A) (i : ℕ) (x : A) → slice_get xs i ≡ Some x → take (suc i) xs ≡ take i xs ++ x ∷ []
front_next [] i x is = absurd (none-some _ is)
front_next (y ∷ xs) zero x is = ap (λ z. z ∷ []) (same_Some _ _ is)
front_next (y ∷ xs) (suc i) x is = ap (λ zs. y ∷ zs) (front_next xs i x is)

-- the front that is longer by one
pub take_next : {A : Type 0} (xs : List A) (i : ℕ) (x : A) → slice_get xs i ≡ Some x → take (i + 1) xs ≡ take i xs ++ x ∷ []
take_next xs i x is = ap (λ n. take n xs) (add-one i) ∙ front_next xs i x is

-- what holds of each holds of what stands at a place
pub each_at : {A : Type 0} (P : A → Type 0) (xs : List A) (i : ℕ) (x : A) → slice_get xs i ≡ Some x → AllByRecursion P xs → P x
each_at P [] i x is all = absurd (none-some _ is)
each_at P (y ∷ xs) zero x is all = subst P (same_Some _ _ is) all.0
each_at P (y ∷ xs) (suc i) x is all = each_at P xs i x is all.1

-- past the end nothing is found
pub past : {A : Type 0} (xs : List (Option A)) (i : ℕ) → length xs ≤ i → get_or xs i None ≡ None
past xs i above = get_or_past xs i None above

-- where something is found, there is a place
pub some_within : {A : Type 0} (xs : List (Option A)) (i : ℕ) → is_some (get_or xs i None) ≡ true → i < length xs
some_within [] i there = absurd (true≢false (sym there))
some_within (x ∷ xs) zero there = omega arith
some_within (x ∷ xs) (suc i) there = let rest = some_within xs i there in omega (arith, rest)

-- ---- a value is set, by the place of its key

set_by_len : {X : Type 0} (test : ℕ → Bool) (es : List (ℕ × X)) (w : X) → set_value_at es (position_or_len test (keys_of es)) w ≡ set_value test es w
set_by_len test [] w = refl
set_by_len {X = X} test (e ∷ es) w = go (set_by_len test es w) (test e.0) refl
  where
    go : set_value_at es (position_or_len test (keys_of es)) w ≡ set_value test es w → (b : Bool) → test e.0 ≡ b
        → set_value_at (e ∷ es) (cond (not (test e.0)) (1 + position_or_len test (keys_of es)) 0) w ≡ cond (test e.0) ((e.0, w) ∷ es) (e ∷ set_value test es w)
    go rest true is = rw is refl
    go rest false is = rw (is, one-add) (ap (λ xs. e ∷ xs) rest)

placed_at : {X : Type 0} (test : ℕ → Bool) (es : List (ℕ × X)) (i : ℕ) → position test (keys_of es) ≡ Some i → position_or_len test (keys_of es) ≡ i
placed_at test es i at = placed (nat_lt (position_or_len test (keys_of es)) (length (keys_of es))) (position_or_len test (keys_of es)) at
  where
    placed : (b : Bool) (n : ℕ) → cond b (Some n) None ≡ Some i → n ≡ i
    placed true n e = same_Some _ _ e
    placed false n e = absurd (none-some _ e)

pub set_by_place : {X : Type 0} (test : ℕ → Bool) (es : List (ℕ × X)) (i : ℕ) (w : X) → position test (keys_of es) ≡ Some i → set_value_at es i w ≡ set_value test es w
set_by_place test es i w at = ap (λ n. set_value_at es n w) (sym (placed_at test es i at)) ∙ set_by_len test es w

found_by_len : {X : Type 0} (test : ℕ → Bool) (es : List (ℕ × X)) (e : ℕ × X) → slice_get es (position_or_len test (keys_of es)) ≡ Some e → lookup test es ≡ Some e.1
found_by_len test [] e is = absurd (none-some _ is)
found_by_len {X = X} test (f ∷ es) e is = go (found_by_len test es e) (test f.0) refl is
  where
    go : (slice_get es (position_or_len test (keys_of es)) ≡ Some e → lookup test es ≡ Some e.1) → (b : Bool) → test f.0 ≡ b
        → slice_get (f ∷ es) (cond (not (test f.0)) (1 + position_or_len test (keys_of es)) 0) ≡ Some e → cond (test f.0) (Some f.1) (lookup test es) ≡ Some e.1
    go rest true t at = rw t (ap (λ (g : ℕ × X). Some g.1) (same_Some _ _ (rw t at at)))
    go rest false t at = rw t (rest (rw (t, one-add) at at))

-- what stands at the place of a key is what is found by it
pub found_by_place : {X : Type 0} (test : ℕ → Bool) (es : List (ℕ × X)) (i : ℕ) (e : ℕ × X) → position test (keys_of es) ≡ Some i → slice_get es i ≡ Some e → lookup test es ≡ Some e.1
found_by_place test es i e at is = found_by_len test es e (ap (slice_get es) (placed_at test es i at) ∙ is)

absent_by_len : {X : Type 0} (test : ℕ → Bool) (es : List (ℕ × X)) → nat_lt (position_or_len test (keys_of es)) (length (keys_of es)) ≡ false → lookup test es ≡ None
absent_by_len test [] e = refl
absent_by_len {X = X} test (e ∷ es) beyond = go (absent_by_len test es) (test e.0) refl beyond
  where
    go : (nat_lt (position_or_len test (keys_of es)) (length (keys_of es)) ≡ false → lookup test es ≡ None) → (b : Bool) → test e.0 ≡ b
        → nat_lt (cond (not (test e.0)) (1 + position_or_len test (keys_of es)) 0) (length (keys_of (e ∷ es))) ≡ false → cond (test e.0) (Some e.1) (lookup test es) ≡ None
    go rest true t at = absurd (never (rw t at at))
      where
        never : nat_lt 0 (length (keys_of (e ∷ es))) ≡ false → ⊥
        never h = grind (arith, nat_tests)
    go rest false t at = rw t (rest (inner (rw t at at)))
      where
        inner : nat_lt (1 + position_or_len test (keys_of es)) (length (keys_of (e ∷ es))) ≡ false → nat_lt (position_or_len test (keys_of es)) (length (keys_of es)) ≡ false
        inner h = grind (arith, nat_tests)

-- what has no place among the keys isn't found
pub absent_by_place : {X : Type 0} (test : ℕ → Bool) (es : List (ℕ × X)) → position test (keys_of es) ≡ None → lookup test es ≡ None
absent_by_place {X = X} test es none = absent_by_len test es (beyond (nat_lt (position_or_len test (keys_of es)) (length (keys_of es))) (position_or_len test (keys_of es)) none)
  where
    beyond : (b : Bool) (n : ℕ) → ◌≡◌ {A = Option ℕ} (cond b (Some n) None) None → b ≡ false
    beyond true n e = absurd (none-some _ (sym e))
    beyond false n e = refl
