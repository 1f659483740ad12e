-- Lists of numbers that are sorted, filtered and joined.
use Rattle.std.proofs.Common.{◌≡◌, ℕ, zero, suc, ◌+◌, ◌<◌, Bool, true, false, not, ◌&&◌, ◌||◌, ◌==◌, List, [], ◌∷◌, ◌++◌, get_or, length, refl, sym, ap, subst, ◌∙◌, arith, eqb, if◌then◌else◌}
use Rattle.std.specs.List.{list_any, filter, dedup, Contains, Any}
use Rattle.std.proofs.Math.Bool.{and-false}
use Rattle.std.proofs.lemmas.Bool.{and_from}
use Rattle.std.proofs.lemmas.Bool.Decides.{nat_tests, same_from_decides}
use Rattle.std.proofs.lemmas.List.{get_or_read, get_or_push, get_or_append_left}
use Rattle.std.proofs.lemmas.List.Folds.{Any-from_list_any, list_any_at}
use Rattle.std.proofs.lemmas.List.Kept.{Contains-dedup_nat, Contains-from_dedup}
use Rattle.pb_model.proofs.Callers.{equal, and_true, by_cases}
use Rattle.pb_machine.specs.Tables.{any_below}
use Rattle.pb_machine.specs.Blocks.{interferes}
use Rattle.pb_machine.proofs.Callers.{any_some, any_at}
use Rattle.pb_abstract.specs.Graph.{has, blocks_in, AreKnown, AreSources}
use Rattle.pb_abstract.proofs.Has.{has_at}

-- two tests that follow from one another
pub same_tests : (a b : Bool) → (a ≡ true → b ≡ true) → (b ≡ true → a ≡ true) → a ≡ b
same_tests a b f g = same_from_decides {P = b ≡ true} a b (f, g) (λ e. e, λ e. e)

-- a list has what it contains
pub contains_has : (xs : List ℕ) (c : ℕ) → Contains xs c → has xs c ≡ true
contains_has xs c (k, less, is) = ap (has xs) (sym is) ∙ has_at xs k c less

pub has_contains : (xs : List ℕ) (c : ℕ) → has xs c ≡ true → Contains xs c
has_contains xs c h = go (Any-from_list_any (λ x. x == c) xs h) where
  go : Any (λ x. (x == c) ≡ true) xs → Contains xs c
  go (k, x, less, is, e) = (k, less, subst (λ n. get_or xs k n ≡ n) (equal x c e) is)

pub has_dedup : (xs : List ℕ) (c : ℕ) → has (dedup eqb xs) c ≡ has xs c
has_dedup xs c = same_tests (has (dedup eqb xs) c) (has xs c)
    (λ h. contains_has xs c (Contains-from_dedup eqb xs c (has_contains (dedup eqb xs) c h)))
    (λ h. contains_has (dedup eqb xs) c (Contains-dedup_nat xs c (has_contains xs c h)))

-- the numbers without one of them
pub has_others : (xs : List ℕ) (block c : ℕ) → has (filter (λ x. not (x == block)) xs) c ≡ (not (block == c) && has xs c)
has_others [] block c = sym (and-false (not (block == c)))
has_others (x ∷ xs) block c = go (x == block) refl (has_others xs block c) where
  kept : (here other rest tail : Bool) → (here ≡ true → other ≡ true) → tail ≡ (other && rest) → (here || tail) ≡ (other && (here || rest))
  kept true other rest tail f e = sym (ap (λ b. b && true) (f refl))
  kept false other rest tail f e = e

  dropped : (here other rest tail : Bool) → (here ≡ true → other ≡ false) → tail ≡ (other && rest) → tail ≡ (other && (here || rest))
  dropped true other rest tail f e = e ∙ ap (λ b. b && rest) (f refl) ∙ sym (ap (λ b. b && true) (f refl))
  dropped false other rest tail f e = e

  differs : (x == block) ≡ false → (x == c) ≡ true → not (block == c) ≡ true
  differs e f = grind (arith, nat_tests)

  agrees : (x == block) ≡ true → (x == c) ≡ true → not (block == c) ≡ false
  agrees e f = grind (arith, nat_tests)

  go : (test : Bool) → (x == block) ≡ test → has (filter (λ y. not (y == block)) xs) c ≡ (not (block == c) && has xs c)
      → has (if not test then x ∷ filter (λ y. not (y == block)) xs else filter (λ y. not (y == block)) xs) c ≡ (not (block == c) && ((x == c) || has xs c))
  go true e rest = dropped (x == c) (not (block == c)) (has xs c) (has (filter (λ y. not (y == block)) xs) c) (agrees e) rest
  go false e rest = kept (x == c) (not (block == c)) (has xs c) (has (filter (λ y. not (y == block)) xs) c) (differs e) rest

-- a list whose numbers are small has one that passes exactly where a small number that it has passes
pub any_of : (count : ℕ) (test : ℕ → Bool) (xs : List ℕ) → ((x : ℕ) → has xs x ≡ true → x < count) → list_any test xs ≡ any_below count (λ n. has xs n && test n)
any_of count test xs small = same_tests (list_any test xs) (any_below count (λ n. has xs n && test n)) forth back where
  to : Any (λ x. test x ≡ true) xs → any_below count (λ n. has xs n && test n) ≡ true
  to (k, x, less, is, e) =
      let here : has xs x ≡ true = contains_has xs x (k, less, is) in
      any_at count x (λ n. has xs n && test n) (small x here) (and_from (has xs x) (test x) here e)

  forth : list_any test xs ≡ true → any_below count (λ n. has xs n && test n) ≡ true
  forth h = to (Any-from_list_any test xs h)

  from : ((n : ℕ) × (n < count) × ((has xs n && test n) ≡ true)) → list_any test xs ≡ true
  from (n, less, e) =
      let two = and_true (has xs n) (test n) e in
      let at : Contains xs n = has_contains xs n two.0 in
      list_any_at test xs at.0 n at.1 (ap test at.2 ∙ two.1)

  back : any_below count (λ n. has xs n && test n) ≡ true → list_any test xs ≡ true
  back h = from (any_some count (λ n. has xs n && test n) h)

-- ---- interference

-- tests that agree below a number agree on whether one there passes
pub any_same_below : (count : ℕ) (p q : ℕ → Bool) → ((n : ℕ) → n < count → p n ≡ q n) → any_below count p ≡ any_below count q
any_same_below zero p q h = refl
any_same_below (suc count) p q h = ap (λ r. r || any_below count p) (h count (omega arith)) ∙ ap (λ r. q count || r) (any_same_below count p q (λ n less. h n (omega arith)))

-- the blocks near a scope, without the block itself, are those that interfere
pub near_interferes : (scopes sources : List (List ℕ)) (block : ℕ) (scope found list : List ℕ) → AreKnown scopes → AreSources scopes sources → block < length scopes → scope ≡ get_or scopes block scope
    → ((c : ℕ) → has found c ≡ list_any (λ shared. has (get_or sources shared []) c) scope) → ((c : ℕ) → has list c ≡ has (filter (λ x. not (x == block)) found) c)
    → (c : ℕ) → has list c ≡ interferes (blocks_in scopes) block c
near_interferes scopes sources block scope found list known are less read near without c =
    let here : scope ≡ get_or scopes block [] = get_or_read scopes block scope less read [] in
    let small = λ (x : ℕ) (h : has scope x ≡ true). known block x (ap (λ xs. has xs x) (sym here) ∙ h) in
    without c ∙ has_others found block c
    ∙ ap (λ r. not (block == c) && r)
    (near c ∙ any_of (length scopes) (λ shared. has (get_or sources shared []) c) scope small
    ∙ any_same_below (length scopes) (λ n. has scope n && has (get_or sources n []) c) (λ n. has (get_or scopes block []) n && has (get_or scopes c []) n)
    (λ n within. ap (λ r. has scope n && r) (are n c within) ∙ ap (λ xs. has xs n && has (get_or scopes c []) n) here))

-- one list more
pub one_more_list : (scopes lists : List (List ℕ)) (block : ℕ) (list : List ℕ) → length lists ≡ block
    → ((b c : ℕ) → b < block → has (get_or lists b []) c ≡ interferes (blocks_in scopes) b c) → ((c : ℕ) → has list c ≡ interferes (blocks_in scopes) block c)
    → (b c : ℕ) → b < block + 1 → has (get_or (lists ++ list ∷ []) b []) c ≡ interferes (blocks_in scopes) b c
one_more_list scopes lists block list many before here b c less = by_cases (b == block) last first where
  last : (b == block) ≡ true → has (get_or (lists ++ list ∷ []) b []) c ≡ interferes (blocks_in scopes) b c
  last e =
      let is : b ≡ block = equal b block e in
      ap (λ xs. has xs c) (get_or_push lists list [] b (many ∙ sym is)) ∙ here c ∙ ap (λ n. interferes (blocks_in scopes) n c) (sym is)

  first : (b == block) ≡ false → has (get_or (lists ++ list ∷ []) b []) c ≡ interferes (blocks_in scopes) b c
  first e =
      let smaller : b < block = grind (arith, nat_tests) in
      ap (λ xs. has xs c) (get_or_append_left lists (list ∷ []) [] b (omega (arith, smaller, many))) ∙ before b c smaller

-- one number more is tested
pub any_one_more : (count : ℕ) (test : ℕ → Bool) → test count ≡ false → any_below count test ≡ false → any_below (count + 1) test ≡ false
any_one_more count test here before =
    ap (λ n. any_below n test) (let e : count + 1 ≡ suc count = omega arith in e) ∙ ap (λ r. r || any_below count test) here ∙ before
