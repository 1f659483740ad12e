-- Steps up in numbers, and many at once.
use Rattle.std.proofs.Common.{◌≡◌, ◌<◌, ◌+◌, ◌/◌, ◌%◌, ℕ, zero, suc, Bool, false, ◌||◌, nat_eq, List, [], ◌∷◌, length, refl, sym, ap, ◌∙◌, arith, get_or}
use Rattle.pb_lifted.specs.Tree.{climb, comes_to, followed}

-- above a number that is above itself there is no other
pub stays : (parents : List ℕ) (n i j : ℕ) → get_or parents i 0 ≡ i → nat_eq i j ≡ false → comes_to parents n i j ≡ false
stays parents zero i j same other = other
stays parents (suc n) i j same other =
    ap (λ b. b || comes_to parents n (get_or parents i 0) j) other ∙ (ap (λ k. comes_to parents n k j) same ∙ stays parents n i j same other)

-- from another number the way goes on
pub goes_up : (parents : List ℕ) (m n i j : ℕ) (all : Bool) → n ≡ suc m → nat_eq i j ≡ false → comes_to parents n i j ≡ all → comes_to parents m (get_or parents i 0) j ≡ all
goes_up parents m n i j all e other h = ap (λ b. b || comes_to parents m (get_or parents i 0) j) (sym other) ∙ (sym (ap (λ k. comes_to parents k i j) e) ∙ h)

pub followed_at : (first second : List ℕ) (i : ℕ) → get_or second 0 0 ≡ 0 → get_or (followed first second) i 0 ≡ get_or second (get_or first i 0) 0
followed_at [] second i root = sym root
followed_at (x ∷ first) second zero root = refl
followed_at (x ∷ first) second (suc i) root = followed_at first second i root

pub twice_climb : (step : List ℕ) (k i : ℕ) → get_or step 0 0 ≡ 0 → climb (followed step step) k i ≡ climb step (k + k) i
twice_climb step zero i root = refl
twice_climb step (suc k) i root =
    twice_climb step k (get_or (followed step step) i 0) root ∙ ap (climb step (k + k)) (followed_at step step i root)
    ∙ sym (ap (λ n. climb step n i) (more k))
  where
    more : (k : ℕ) → suc k + suc k ≡ suc (suc (k + k))
    more k = omega arith

-- half as many steps, each of them two
pub even_climb : (step : List ℕ) (left i : ℕ) → get_or step 0 0 ≡ 0 → (left % 2 ≡ 1 → ⊥) → climb (followed step step) (left / 2) i ≡ climb step left i
even_climb step left i root even = twice_climb step (left / 2) i root ∙ ap (λ n. climb step n i) halves
  where
    halves : left / 2 + left / 2 ≡ left
    halves = omega arith

-- a step, and second half as many
pub odd_climb : (step : List ℕ) (left i : ℕ) → get_or step 0 0 ≡ 0 → left % 2 ≡ 1 → climb (followed step step) (left / 2) (get_or step i 0) ≡ climb step left i
odd_climb step left i root odd = twice_climb step (left / 2) (get_or step i 0) root ∙ sym (ap (λ n. climb step n i) halves)
  where
    halves : left ≡ suc (left / 2 + left / 2)
    halves = omega arith

pub followed_root : (step : List ℕ) → get_or step 0 0 ≡ 0 → get_or (followed step step) 0 0 ≡ 0
followed_root step root = followed_at step step 0 root ∙ (ap (λ i. get_or step i 0) root ∙ root)

-- the way goes on as before, where the steps double
pub even_each : (parents far step : List ℕ) (n left : ℕ) → get_or step 0 0 ≡ 0 → (left % 2 ≡ 1 → ⊥)
    → ((i : ℕ) → i < length far → climb step left (get_or far i 0) ≡ climb parents n i)
    → (i : ℕ) → i < length far → climb (followed step step) (left / 2) (get_or far i 0) ≡ climb parents n i
even_each parents far step n left root even each i h = even_climb step left (get_or far i 0) root even ∙ each i h

pub odd_each : (parents far step : List ℕ) (n left : ℕ) → get_or step 0 0 ≡ 0 → left % 2 ≡ 1
    → ((i : ℕ) → i < length far → climb step left (get_or far i 0) ≡ climb parents n i)
    → (i : ℕ) → i < length far → climb (followed step step) (left / 2) (get_or (followed far step) i 0) ≡ climb parents n i
odd_each parents far step n left root odd each i h =
    ap (climb (followed step step) (left / 2)) (followed_at far step i root) ∙ (odd_climb step left (get_or far i 0) root odd ∙ each i h)
