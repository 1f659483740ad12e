-- The order of blocks by their keys, and the best of some and one more.
use Rattle.std.proofs.Common.{◌≡◌, ℕ, ◌+◌, ◌<◌, Bool, true, ◌||◌, ◌==◌, nat_lt, List, [], ◌∷◌, ◌++◌, Option, Some, None, IsSome, is_some, true≢false, sym, ap, subst, ◌∙◌, ◌⊎◌, inl, inr, arith}
use Rattle.std.proofs.Math.Bool.{or-true, or-false, or_assoc}
use Rattle.std.proofs.lemmas.Bool.{cases_order}
use Rattle.pb_model.specs.declared.key.Key.{Key}
use Rattle.pb_model.specs.declared.key.Key.TheVariants.{Sum, Dead}
use Rattle.pb_model.specs.Key.{IsKeyBelow, IsBefore}
use Rattle.pb_model.proofs.Callers.{key_cases, by_cases, below, not_below, equal, equal_self, or_true}
use Rattle.pb_machine.specs.Choice.{ComesBefore}
use Rattle.pb_bundles.specs.Moves.{is_among}
use Rattle.pb_bundles.specs.Choosing.{IsBetterBy, IsBestOf, IsBetterOf, MayBeFirst, MayRival, IsRivalBy}

-- ---- keys

below_trans : (x y z : Key) → IsKeyBelow x y → IsKeyBelow y z → IsKeyBelow x z
below_trans Dead y z l h = absurd l
below_trans (Sum a h) Dead z l g = absurd g
below_trans (Sum a h) (Sum b k) Dead l g = tt
below_trans (Sum a h) (Sum b k) (Sum c m) (inl l) (inl g) = inl (omega arith)
below_trans (Sum a h) (Sum b k) (Sum c m) (inl l) (inr g) = inl (omega (arith, l, g.0))
below_trans (Sum a h) (Sum b k) (Sum c m) (inr l) (inl g) = inl (omega (arith, l.0, g))
below_trans (Sum a h) (Sum b k) (Sum c m) (inr l) (inr g) = inr (l.0 ∙ g.0, omega (arith, l.1, g.1))

before_trans : (x : Key) (a : ℕ) (y : Key) (b : ℕ) (z : Key) (c : ℕ) → IsBefore x a y b → IsBefore y b z c → IsBefore x a z c
before_trans x a y b z c (inl l) (inl g) = inl (below_trans x y z l g)
before_trans x a y b z c (inl l) (inr g) = inl (subst (IsKeyBelow x) g.0 l)
before_trans x a y b z c (inr l) (inl g) = inl (subst (λ key. IsKeyBelow key z) (sym l.0) g)
before_trans x a y b z c (inr l) (inr g) = inr (l.0 ∙ g.0, omega (arith, l.1, g.1))

-- ---- blocks

pub comes_trans : (x : Option Key) (a : ℕ) (y : Option Key) (b : ℕ) (z : Option Key) (c : ℕ) → ComesBefore x a y b → ComesBefore y b z c → ComesBefore x a z c
comes_trans None a None b None c l g = omega (arith, l, g)
comes_trans None a None b (Some z) c l g = absurd g
comes_trans None a (Some y) b z c l g = absurd l
comes_trans (Some x) a None b None c l g = tt
comes_trans (Some x) a None b (Some z) c l g = absurd g
comes_trans (Some x) a (Some y) b None c l g = tt
comes_trans (Some x) a (Some y) b (Some z) c l g = before_trans x a y b z c l g

pub comes_cases : (x : Option Key) (a : ℕ) (y : Option Key) (b : ℕ) → ComesBefore x a y b ⊎ ((a ≡ b) ⊎ ComesBefore y b x a)
comes_cases None a None b = which (cases_order a b)
  where
    which : ((a ≡ b) ⊎ ((a < b) ⊎ (b < a))) → (a < b) ⊎ ((a ≡ b) ⊎ (b < a))
    which (inl same) = inr (inl same)
    which (inr (inl l)) = inl l
    which (inr (inr g)) = inr (inr g)
comes_cases None a (Some y) b = inr (inr tt)
comes_cases (Some x) a None b = inl tt
comes_cases (Some x) a (Some y) b = by_key (key_cases x y)
  where
    by_number : x ≡ y → ((a ≡ b) ⊎ ((a < b) ⊎ (b < a))) → IsBefore x a y b ⊎ ((a ≡ b) ⊎ IsBefore y b x a)
    by_number e (inl same) = inr (inl same)
    by_number e (inr (inl l)) = inl (inr (e, l))
    by_number e (inr (inr g)) = inr (inr (inr (sym e, g)))

    by_key : (IsKeyBelow x y ⊎ ((x ≡ y) ⊎ IsKeyBelow y x)) → IsBefore x a y b ⊎ ((a ≡ b) ⊎ IsBefore y b x a)
    by_key (inl l) = inl (inl l)
    by_key (inr (inl e)) = by_number e (cases_order a b)
    by_key (inr (inr g)) = inr (inr (inl g))

-- ---- the best of some

-- with other words for the same candidates
pub best_same : (P Q : ℕ → Type 0) (keys : ℕ → Option Key) (best : Option ℕ) → ((block : ℕ) → P block → Q block) → ((block : ℕ) → Q block → P block) → IsBestOf P keys best → IsBestOf Q keys best
best_same P Q keys None to back first = λ block q. first block (back block q)
best_same P Q keys (Some best) to back first = (to best first.0, λ block q. first.1 block (back block q))

-- one that is better than all others leads them
leads : (P : ℕ → Type 0) (keys : ℕ → Option Key) (other : ℕ) → ((block : ℕ) → P block → IsBetterBy keys other block) → (block : ℕ) → (P block ⊎ (block ≡ other)) → (block ≡ other) ⊎ IsBetterBy keys other block
leads P keys other better block (inl p) = inr (better block p)
leads P keys other better block (inr e) = inl e

-- with one candidate more
pub best_more : (P Q : ℕ → Type 0) (keys : ℕ → Option Key) (best : Option ℕ) (other : ℕ) (result : Option ℕ) → ((block : ℕ) → P block → Q block) → ((block : ℕ) → Q block → P block ⊎ (block ≡ other)) → Q other
    → IsBestOf P keys best → IsBetterOf keys best other result → IsBestOf Q keys result
best_more P Q keys None other result to cases more first better = subst (IsBestOf Q keys) (sym better) (more, λ block q. leads P keys other (λ one p. absurd (first one p)) block (cases block q))
best_more P Q keys (Some best) other result to cases more first (inl better) = subst (IsBestOf Q keys) (sym better.0) (more, λ block q. leads P keys other (λ one p. behind one (first.1 one p)) block (cases block q))
  where
    behind : (block : ℕ) → ((block ≡ best) ⊎ IsBetterBy keys best block) → IsBetterBy keys other block
    behind block (inl e) = subst (IsBetterBy keys other) (sym e) better.1
    behind block (inr l) = comes_trans (keys other) other (keys best) best (keys block) block better.1 l
best_more P Q keys (Some best) other result to cases more first (inr better) = subst (IsBestOf Q keys) (sym better.0) (to best first.0, λ block q. which block (cases block q))
  where
    behind : (IsBetterBy keys other best ⊎ ((other ≡ best) ⊎ IsBetterBy keys best other)) → (other ≡ best) ⊎ IsBetterBy keys best other
    behind (inl l) = absurd (better.1 l)
    behind (inr rest) = rest

    which : (block : ℕ) → (P block ⊎ (block ≡ other)) → (block ≡ best) ⊎ IsBetterBy keys best block
    which block (inl p) = first.1 block p
    which block (inr e) = subst (λ n. (n ≡ best) ⊎ IsBetterBy keys best n) (sym e) (behind (comes_cases (keys other) other (keys best) best))

-- ---- going over blocks by number

-- the next block passes and has an Opened row
pub first_more : (test : ℕ → Bool) (keys : ℕ → Option Key) (n : ℕ) (best result : Option ℕ) → MayBeFirst test keys n
    → IsBestOf (λ block. (block < n) × MayBeFirst test keys block) keys best → IsBetterOf keys best n result → IsBestOf (λ block. (block < n + 1) × MayBeFirst test keys block) keys result
first_more test keys n best result may first better =
    best_more (λ block. (block < n) × MayBeFirst test keys block) (λ block. (block < n + 1) × MayBeFirst test keys block) keys best n result
    (λ block p. (omega (arith, p.0), p.1)) (λ block q. cases block q.0 q.1) (omega arith, may) first better
  where
    cases : (block : ℕ) → block < n + 1 → MayBeFirst test keys block → ((block < n) × MayBeFirst test keys block) ⊎ (block ≡ n)
    cases block low q = by_cases (nat_lt block n) (λ e. inl (below block n e, q)) (λ e. let ge = not_below block n e in inr (omega arith))

-- the next block doesn't
pub first_skip : (test : ℕ → Bool) (keys : ℕ → Option Key) (n : ℕ) (best : Option ℕ) → (MayBeFirst test keys n → ⊥)
    → IsBestOf (λ block. (block < n) × MayBeFirst test keys block) keys best → IsBestOf (λ block. (block < n + 1) × MayBeFirst test keys block) keys best
first_skip test keys n best not_so first =
    best_same (λ block. (block < n) × MayBeFirst test keys block) (λ block. (block < n + 1) × MayBeFirst test keys block) keys best
    (λ block p. (omega (arith, p.0), p.1)) (λ block q. (lower block q.0 q.1, q.1)) first
  where
    lower : (block : ℕ) → block < n + 1 → MayBeFirst test keys block → block < n
    lower block low q = by_cases (nat_lt block n) (λ e. below block n e)
        (λ e. let ge = not_below block n e in let same : block ≡ n = omega arith in absurd (not_so (subst (MayBeFirst test keys) same q)))

-- the next block isn't better where it has an Opened row
pub first_stays : (test : ℕ → Bool) (keys : ℕ → Option Key) (n : ℕ) (best : Option ℕ) → (IsSome (keys n) → IsBetterOf keys best n best)
    → IsBestOf (λ block. (block < n) × MayBeFirst test keys block) keys best → IsBestOf (λ block. (block < n + 1) × MayBeFirst test keys block) keys best
first_stays test keys n best worse first = by_cases (test n)
    (λ e. by_cases (is_some (keys n)) (λ f. first_more test keys n best best (e, f) first (worse f)) (λ f. first_skip test keys n best (λ may. true≢false (sym may.1 ∙ f)) first))
    (λ e. first_skip test keys n best (λ may. true≢false (sym may.0 ∙ e)) first)

-- ---- going over a list of blocks

among_last : (xs : List ℕ) (x block : ℕ) → is_among (xs ++ x ∷ []) block ≡ (is_among xs block || (x == block))
among_last [] x block = or-false (x == block)
among_last (y ∷ xs) x block = ap (λ b. (y == block) || b) (among_last xs x block) ∙ sym (or_assoc (y == block) (is_among xs block) (x == block))

module _ (xs : List ℕ) (x : ℕ) (keys : ℕ → Option Key) (block : ℕ) where
  stays : (other : ℕ) → MayRival (is_among xs) keys block other → MayRival (is_among (xs ++ x ∷ [])) keys block other
  stays other p = (among_last xs x other ∙ ap (λ b. b || (x == other)) p.0, p.1)

  split : (other : ℕ) → MayRival (is_among (xs ++ x ∷ [])) keys block other → MayRival (is_among xs) keys block other ⊎ (other ≡ x)
  split other q = which (or_true (is_among xs other) (x == other) (sym (among_last xs x other) ∙ q.0))
    where
      which : ((is_among xs other ≡ true) ⊎ ((x == other) ≡ true)) → MayRival (is_among xs) keys block other ⊎ (other ≡ x)
      which (inl e) = inl (e, q.1)
      which (inr e) = inr (sym (equal x other e))

  -- the next block is better than the block
  pub rival_more : (best result : Option ℕ) → IsBetterBy keys x block → IsRivalBy (is_among xs) keys block best → IsBetterOf keys best x result → IsRivalBy (is_among (xs ++ x ∷ [])) keys block result
  rival_more best result is first better =
      best_more (MayRival (is_among xs) keys block) (MayRival (is_among (xs ++ x ∷ [])) keys block) keys best x result stays split
      (among_last xs x x ∙ ap (λ b. is_among xs x || b) (equal_self x) ∙ or-true (is_among xs x), is) first better

  -- the next block isn't
  pub rival_skip : (best : Option ℕ) → (IsBetterBy keys x block → ⊥) → IsRivalBy (is_among xs) keys block best → IsRivalBy (is_among (xs ++ x ∷ [])) keys block best
  rival_skip best not_so first =
      best_same (MayRival (is_among xs) keys block) (MayRival (is_among (xs ++ x ∷ [])) keys block) keys best stays
      (λ other q. which other q.1 (split other q)) first
    where
      which : (other : ℕ) → IsBetterBy keys other block → (MayRival (is_among xs) keys block other ⊎ (other ≡ x)) → MayRival (is_among xs) keys block other
      which other l (inl p) = p
      which other l (inr e) = absurd (not_so (subst (λ n. IsBetterBy keys n block) e l))
