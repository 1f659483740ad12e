-- Two lists in strict order with the same members are one list, and the instances stand in strict order.
use Rattle.std.proofs.Common.{◌≡◌, ◌≤◌, ◌<◌, ℕ, suc, Bool, true, false, cond, ◌&&◌, ◌||◌, List, [], ◌∷◌, ◌++◌, map, length, refl, sym, ap, subst, ◌∙◌, arith}
use Rattle.std.proofs.lemmas.Cmp.{nat_list_cmp_total}
use Rattle.std.proofs.lemmas.List.Kept.{IsStrictlySortedBy-filter}
use Rattle.std.proofs.lemmas.List.Sums.{length-filter, count_by-le-length}
use Rattle.std.proofs.lemmas.Map.Text.{is_eq-slice_cmp}
use Rattle.std.proofs.lemmas.Map.Views.{any-filter_same}
use Rattle.std.proofs.lemmas.Slice.Eq.{bytes_eq-Decides}
use Rattle.std.specs.declared.cmp.Ordering.{Ordering}
use Rattle.std.specs.declared.cmp.Ordering.TheVariants.{Less, Equal, Greater}
use Rattle.std.specs.BTreeSet.{BTreeSet}
use Rattle.std.specs.Cmp.{nat_cmp_is}
use Rattle.std.specs.Cmp.Lexicographic.{slice_cmp}
use Rattle.std.specs.Global.{Vec}
use Rattle.std.specs.List.{AllByRecursion, list_any, filter, flat_map}
use Rattle.std.specs.List.Sorted.{IsStrictlySortedBy}
use Rattle.std.specs.Ordering.{nat_cmp, ordering_then, ordering_reverse}
use Rattle.std.specs.Str.{bytes_eq}
use Rattle.pb_lifted.specs.Tree.{comes_to}
use Rattle.pb_ground.specs.Instances.{choices_of, fitting_from}
use Rattle.pb_ground.specs.Pruning.{has_row, items_of}
use Rattle.pb_ground.proofs.Rows.{is_key, key_cmp}

abbrev pub rows_cmp : List ℕ → List ℕ → Ordering
rows_cmp a b = slice_cmp nat_cmp a b

abbrev pub Ascends : List (List ℕ) → Type 0
Ascends rows = IsStrictlySortedBy rows_cmp rows

abbrev pub Above : List ℕ → List (List ℕ) → Type 0
Above row rows = AllByRecursion (λ r. rows_cmp row r ≡ Less) rows

-- ---- the same members

pub above_member : (row r : List ℕ) (rows : List (List ℕ)) → Above row rows → list_any (bytes_eq r) rows ≡ true → rows_cmp row r ≡ Less
above_member row r [] above e = cc
above_member row r (first ∷ rows) above e = at (above_member row r rows above.1) (bytes_eq r first) refl e
  where
    at : (list_any (bytes_eq r) rows ≡ true → rows_cmp row r ≡ Less) → (b : Bool) → bytes_eq r first ≡ b → (b || list_any (bytes_eq r) rows) ≡ true → rows_cmp row r ≡ Less
    at later true p q = ap (λ x. rows_cmp row x) ((bytes_eq-Decides r first).0 p) ∙ above.0
    at later false p q = later q

pub never_both : (a b : List ℕ) → rows_cmp a b ≡ Less → rows_cmp b a ≡ Less → ⊥
never_both a b p q = let e : Less ≡ Greater = sym p ∙ (nat_list_cmp_total.antisymm a b ∙ ap ordering_reverse q) in cc

none_itself : (x : List ℕ) (xs : List (List ℕ)) → Above x xs → list_any (bytes_eq x) xs ≡ false
none_itself x xs above = at (list_any (bytes_eq x) xs) refl
  where
    at : (b : Bool) → list_any (bytes_eq x) xs ≡ b → b ≡ false
    at false p = refl
    at true p = absurd (never_both x x (above_member x x xs above p) (above_member x x xs above p))

firsts_same : (x y : List ℕ) (xs ys : List (List ℕ)) → Above x xs → Above y ys → (bytes_eq x y || list_any (bytes_eq x) ys) ≡ true → (bytes_eq y x || list_any (bytes_eq y) xs) ≡ true → x ≡ y
firsts_same x y xs ys ax ay ex ey = at (bytes_eq x y) refl ex
  where
    other : list_any (bytes_eq x) ys ≡ true → (b : Bool) → bytes_eq y x ≡ b → (b || list_any (bytes_eq y) xs) ≡ true → x ≡ y
    other h true p q = sym ((bytes_eq-Decides y x).0 p)
    other h false p q = absurd (never_both y x (above_member y x ys ay h) (above_member x y xs ax q))

    at : (b : Bool) → bytes_eq x y ≡ b → (b || list_any (bytes_eq x) ys) ≡ true → x ≡ y
    at true p q = (bytes_eq-Decides x y).0 p
    at false p q = other q (bytes_eq y x) refl ey

tails_same : (x r : List ℕ) (xs ys : List (List ℕ)) → Above x xs → Above x ys → (bytes_eq r x || list_any (bytes_eq r) xs) ≡ (bytes_eq r x || list_any (bytes_eq r) ys)
    → list_any (bytes_eq r) xs ≡ list_any (bytes_eq r) ys
tails_same x r xs ys ax ay m = at (bytes_eq r x) refl m
  where
    none : (zs : List (List ℕ)) → Above x zs → bytes_eq r x ≡ true → list_any (bytes_eq r) zs ≡ false
    none zs az p = ap (λ row. list_any (bytes_eq row) zs) ((bytes_eq-Decides r x).0 p) ∙ none_itself x zs az

    at : (b : Bool) → bytes_eq r x ≡ b → (b || list_any (bytes_eq r) xs) ≡ (b || list_any (bytes_eq r) ys) → list_any (bytes_eq r) xs ≡ list_any (bytes_eq r) ys
    at false p q = q
    at true p q = none xs ax p ∙ sym (none ys ay p)

-- lists in strict order with the same members are the same
pub same_rows : (xs ys : List (List ℕ)) → Ascends xs → Ascends ys → ((r : List ℕ) → list_any (bytes_eq r) xs ≡ list_any (bytes_eq r) ys) → xs ≡ ys
unfolding IsStrictlySortedBy
same_rows [] [] a b m = refl
same_rows [] (y ∷ ys) a b m = let e : false ≡ true = m y ∙ ap (λ t. t || list_any (bytes_eq y) ys) ((bytes_eq-Decides y y).1 refl) in cc
same_rows (x ∷ xs) [] a b m = let e : true ≡ false = sym (ap (λ t. t || list_any (bytes_eq x) xs) ((bytes_eq-Decides x x).1 refl)) ∙ m x in cc
same_rows (x ∷ xs) (y ∷ ys) a b m =
    let e : x ≡ y = firsts_same x y xs ys a.0 b.0
    (sym (m x) ∙ ap (λ t. t || list_any (bytes_eq x) xs) ((bytes_eq-Decides x x).1 refl))
    (m y ∙ ap (λ t. t || list_any (bytes_eq y) ys) ((bytes_eq-Decides y y).1 refl)) in
    ap (λ z. z ∷ xs) e
    ∙ ap (λ zs. y ∷ zs) (same_rows xs ys a.1 b.1 (λ r. tails_same y r xs ys (subst (λ z. Above z xs) e a.0) b.0 (ap (λ z. bytes_eq r z || list_any (bytes_eq r) xs) (sym e) ∙ m r)))

and_implied : (a b : Bool) → (a ≡ true → b ≡ true) → a ≡ (a && b)
and_implied true b h = sym (h refl)
and_implied false b h = refl

pub any_kept : (p : List ℕ → Bool) (r : List ℕ) (rows : List (List ℕ)) → list_any (bytes_eq r) (filter p rows) ≡ (p r && list_any (bytes_eq r) rows)
any_kept p r rows = any-filter_same (bytes_eq r) p (p r) (λ k e. ap p (sym ((bytes_eq-Decides r k).0 e))) rows

-- a list in strict order is no longer than one that has its members
pub no_longer : (xs ys : List (List ℕ)) → Ascends xs → Ascends ys → ((r : List ℕ) → list_any (bytes_eq r) xs ≡ true → list_any (bytes_eq r) ys ≡ true) → length xs ≤ length ys
no_longer xs ys ax ay within =
    let p : List ℕ → Bool = λ r. list_any (bytes_eq r) xs in
    let same : xs ≡ filter p ys = same_rows xs (filter p ys) ax (IsStrictlySortedBy-filter rows_cmp p ys ay)
    (λ r. and_implied (list_any (bytes_eq r) xs) (list_any (bytes_eq r) ys) (within r) ∙ sym (any_kept p r ys)) in
    let e : length xs ≡ length (filter p ys) = ap (λ (l : List (List ℕ)). length l) same in
    let kept = length-filter p ys in
    let few = count_by-le-length p ys in
    omega (arith, e, kept, few)

-- ---- the keys of a set

above_keys : (k : Vec ℕ) (keys : List (Vec ℕ)) → AllByRecursion (λ q. key_cmp k q ≡ Less) keys → Above k.items (items_of keys)
above_keys k [] h = tt
above_keys k (q ∷ keys) h = (h.0, above_keys k keys h.1)

pub keys_ascend : (keys : List (Vec ℕ)) → IsStrictlySortedBy key_cmp keys → Ascends (items_of keys)
unfolding IsStrictlySortedBy
keys_ascend [] s = tt
keys_ascend (k ∷ keys) s = (above_keys k keys s.0, keys_ascend keys s.1)

keys_have : (row : List ℕ) (keys : List (Vec ℕ)) → list_any (is_key row) keys ≡ list_any (bytes_eq row) (items_of keys)
keys_have row [] = refl
keys_have row (k ∷ keys) = ap (λ b. b || list_any (is_key row) keys) (is_eq-slice_cmp row k.items) ∙ ap (λ b. bytes_eq row k.items || b) (keys_have row keys)

pub set_has : (row : List ℕ) (set : BTreeSet (Vec ℕ)) → has_row set row ≡ list_any (bytes_eq row) (items_of set.keys)
set_has row set = keys_have row set.keys

-- ---- the instances

nat_itself : (i : ℕ) → nat_cmp i i ≡ Equal
nat_itself i = sym (nat_cmp_is i i Equal refl)

fitting_above : (types : List ℕ) (wanted i j : ℕ) (kinds : List ℕ) → i < j → AllByRecursion (λ n. nat_cmp i n ≡ Less) (fitting_from types wanted j kinds)
fitting_above types wanted i j [] h = tt
fitting_above types wanted i j (kind ∷ kinds) h = at (comes_to types (length types) kind wanted) (sym (nat_cmp_is i j Less h)) (fitting_above types wanted i (suc j) kinds (omega arith))
  where
    later : List ℕ
    later = fitting_from types wanted (suc j) kinds

    at : (b : Bool) → nat_cmp i j ≡ Less → AllByRecursion (λ n. nat_cmp i n ≡ Less) later → AllByRecursion (λ n. nat_cmp i n ≡ Less) (cond b (j ∷ later) later)
    at true here rest = (here, rest)
    at false here rest = rest

pub fitting_ascends : (types : List ℕ) (wanted i : ℕ) (kinds : List ℕ) → IsStrictlySortedBy nat_cmp (fitting_from types wanted i kinds)
unfolding IsStrictlySortedBy
fitting_ascends types wanted i [] = tt
fitting_ascends types wanted i (kind ∷ kinds) = at (comes_to types (length types) kind wanted) (fitting_above types wanted i (suc i) kinds (omega arith)) (fitting_ascends types wanted (suc i) kinds)
  where
    later : List ℕ
    later = fitting_from types wanted (suc i) kinds

    at : (b : Bool) → AllByRecursion (λ n. nat_cmp i n ≡ Less) later → IsStrictlySortedBy nat_cmp later → IsStrictlySortedBy nat_cmp (cond b (i ∷ later) later)
    at true above rest = (above, rest)
    at false above rest = rest

pub above_append : (row : List ℕ) (a b : List (List ℕ)) → Above row a → Above row b → Above row (a ++ b)
above_append row [] b x y = y
above_append row (r ∷ a) b x y = (x.0, above_append row a b x.1 y)

pub ascends_append : (a b : List (List ℕ)) → Ascends a → Ascends b → AllByRecursion (λ r. Above r b) a → Ascends (a ++ b)
unfolding IsStrictlySortedBy
ascends_append [] b sa sb all = sb
ascends_append (r ∷ a) b sa sb all = (above_append r a b sa.0 all.0, ascends_append a b sa.1 sb all.1)

longer_above : (x : ℕ) (r : List ℕ) (rows : List (List ℕ)) → Above r rows → Above (x ∷ r) (map (λ q. x ∷ q) rows)
longer_above x r [] h = tt
longer_above x r (q ∷ rows) h = (ap (λ o. ordering_then o (rows_cmp r q)) (nat_itself x) ∙ h.0, longer_above x r rows h.1)

pub longer_ascends : (x : ℕ) (rows : List (List ℕ)) → Ascends rows → Ascends (map (λ q. x ∷ q) rows)
unfolding IsStrictlySortedBy
longer_ascends x [] s = tt
longer_ascends x (r ∷ rows) s = (longer_above x r rows s.0, longer_ascends x rows s.1)

pub lower_all : (x y : ℕ) (r : List ℕ) (rest : List (List ℕ)) → nat_cmp x y ≡ Less → Above (x ∷ r) (map (λ q. y ∷ q) rest)
lower_all x y r [] h = tt
lower_all x y r (q ∷ rest) h = (ap (λ o. ordering_then o (rows_cmp r q)) h, lower_all x y r rest h)

lower_first : (x : ℕ) (r : List ℕ) (rest : List (List ℕ)) (first : List ℕ) → AllByRecursion (λ n. nat_cmp x n ≡ Less) first → Above (x ∷ r) (flat_map (λ y. map (λ q. y ∷ q) rest) first)
lower_first x r rest [] h = tt
lower_first x r rest (y ∷ first) h = above_append (x ∷ r) (map (λ q. y ∷ q) rest) (flat_map (λ z. map (λ q. z ∷ q) rest) first) (lower_all x y r rest h.0) (lower_first x r rest first h.1)

each_lower : (x : ℕ) (rows rest : List (List ℕ)) (first : List ℕ) → AllByRecursion (λ n. nat_cmp x n ≡ Less) first
    → AllByRecursion (λ r. Above r (flat_map (λ y. map (λ q. y ∷ q) rest) first)) (map (λ q. x ∷ q) rows)
each_lower x [] rest first h = tt
each_lower x (r ∷ rows) rest first h = (lower_first x r rest first h, each_lower x rows rest first h)

with_each : (rest : List (List ℕ)) → Ascends rest → (first : List ℕ) → IsStrictlySortedBy nat_cmp first → Ascends (flat_map (λ x. map (λ q. x ∷ q) rest) first)
unfolding IsStrictlySortedBy
with_each rest sr [] s = tt
with_each rest sr (x ∷ first) s =
    ascends_append (map (λ q. x ∷ q) rest) (flat_map (λ y. map (λ q. y ∷ q) rest) first) (longer_ascends x rest sr) (with_each rest sr first s.1) (each_lower x rest rest first s.0)

abbrev pub AllAscend : List (List ℕ) → Type 0
AllAscend lists = AllByRecursion (λ list. IsStrictlySortedBy nat_cmp list) lists

pub choices_ascend : (lists : List (List ℕ)) → AllAscend lists → Ascends (choices_of lists)
unfolding IsStrictlySortedBy
choices_ascend [] h = (tt, tt)
choices_ascend (list ∷ lists) h = with_each (choices_of lists) (choices_ascend lists h.1) list h.0
