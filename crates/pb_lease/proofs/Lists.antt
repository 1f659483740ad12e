-- Which numbers a rising list has, and numbers that a walk over one changes by one.
use Rattle.std.proofs.Common.{◌≡◌, ℕ, zero, suc, ◌+◌, ◌-◌, ◌<◌, ◌≤◌, true, false, ◌||◌, ◌==◌, List, [], ◌∷◌, length, take, get_or, slice_set, refl, sym, ap, ◌∙◌, arith, true≢false, subst}
use Rattle.std.specs.List.{All}
use Rattle.std.specs.List.Sorted.{IsStrictlyIncreasing}
use Rattle.std.proofs.lemmas.List.Folds.{list_any_more, list_any_at}
use Rattle.std.proofs.lemmas.List.Elements.{All-get_or}
use Rattle.std.proofs.Math.Bool.{or-true, or-false}
use Rattle.std.proofs.lemmas.Bool.Decides.{nat_tests}
use Rattle.pb_model.proofs.Callers.{by_cases, equal, equal_self}
use Rattle.pb_machine.specs.Tables.{one_if}
use Rattle.pb_machine.proofs.Callers.{written_here, written_else}
use Rattle.pb_abstract.specs.Graph.{has}

-- of a rising list each number is below those after it
rises : (xs : List ℕ) (i n : ℕ) → IsStrictlyIncreasing xs → i + n + 1 < length xs → get_or xs i 0 < get_or xs (i + n + 1) 0
rises xs i zero up lt =
    let here : get_or xs i 0 < get_or xs (i + 1) 0 = up i (omega arith) in
    let same : i + 1 ≡ i + 0 + 1 = omega arith in
    subst (λ k. get_or xs i 0 < get_or xs k 0) same here
rises xs i (suc n) up lt =
    let before : get_or xs i 0 < get_or xs (i + n + 1) 0 = rises xs i n up (omega arith) in
    let here : get_or xs (i + n + 1) 0 < get_or xs (i + n + 1 + 1) 0 = up (i + n + 1) (omega arith) in
    let same : i + n + 1 + 1 ≡ i + suc n + 1 = omega arith in
    let there = ap (λ k. get_or xs k 0) same in
    omega (arith, before, here, there)

pub rising : (xs : List ℕ) (i j : ℕ) → IsStrictlyIncreasing xs → i < j → j < length xs → get_or xs i 0 < get_or xs j 0
rising xs i j up less lt =
    let same : i + (j - (i + 1)) + 1 ≡ j = omega arith in
    let there = rises xs i (j - (i + 1)) up (omega arith) in
    subst (λ k. get_or xs i 0 < get_or xs k 0) same there

-- one more number
pub has_more : (xs : List ℕ) (i c : ℕ) → i < length xs → has (take (i + 1) xs) c ≡ (has (take i xs) c || (get_or xs i 0 == c))
has_more xs i c lt = list_any_more (λ x. x == c) xs i 0 lt

pub has_at : (xs : List ℕ) (i : ℕ) → i < length xs → has xs (get_or xs i 0) ≡ true
has_at xs i lt = list_any_at (λ x. x == get_or xs i 0) xs i 0 lt (equal_self (get_or xs i 0))

-- the number at a place isn't among those before it
not_before : (xs : List ℕ) (i n : ℕ) → IsStrictlyIncreasing xs → n ≤ i → i < length xs → has (take n xs) (get_or xs i 0) ≡ false
not_before xs i zero up le lt = refl
not_before xs i (suc n) up le lt =
    let before = not_before xs i n up (omega arith) lt in
    let less : get_or xs n 0 < get_or xs i 0 = rising xs n i up (omega arith) lt in
    let other : (get_or xs n 0 == get_or xs i 0) ≡ false = grind (arith, nat_tests) in
    let one : suc n ≡ n + 1 = omega arith in
    ap (λ k. has (take k xs) (get_or xs i 0)) one ∙ has_more xs n (get_or xs i 0) (omega arith) ∙ ap (λ r. r || (get_or xs n 0 == get_or xs i 0)) before ∙ other

pub fresh : (xs : List ℕ) (i : ℕ) → IsStrictlyIncreasing xs → i < length xs → has (take i xs) (get_or xs i 0) ≡ false
fresh xs i up lt = not_before xs i i up (omega arith) lt

module _ (old now near : List ℕ) (i v : ℕ) (up : IsStrictlyIncreasing near) (lt : i < length near) (there : get_or near i 0 < length now) where
  abbrev Written : List ℕ
  Written = slice_set now (get_or near i 0) v

  -- a walk writes at the block that it comes by, by which it hasn't come before, and nowhere else
  walked : {A : Type 0} (c : ℕ) → (get_or near i 0 ≡ c → get_or Written c 0 ≡ v → one_if (has (take i near) c) ≡ 0 → one_if (has (take (i + 1) near) c) ≡ 1 → A)
      → (get_or Written c 0 ≡ get_or now c 0 → one_if (has (take (i + 1) near) c) ≡ one_if (has (take i near) c) → A) → A
  walked c here elsewhere =
      let more = ap one_if (has_more near i c lt) in
      by_cases (get_or near i 0 == c)
      (λ e.
      let same : get_or near i 0 ≡ c = equal (get_or near i 0) c e in
      let none : one_if (has (take i near) c) ≡ 0 = ap (λ n. one_if (has (take i near) n)) (sym same) ∙ ap one_if (fresh near i up lt) in
      here same (written_here now (get_or near i 0) c v 0 there e) none (more ∙ ap (λ r. one_if (has (take i near) c || r)) e ∙ ap one_if (or-true (has (take i near) c))))
      (λ e. elsewhere (written_else now (get_or near i 0) c v 0 e) (more ∙ ap (λ r. one_if (has (take i near) c || r)) e ∙ ap one_if (or-false (has (take i near) c))))

  -- a walk that adds one
  pub raised : ((c : ℕ) → get_or now c 0 ≡ get_or old c 0 + one_if (has (take i near) c)) → v ≡ get_or now (get_or near i 0) 0 + 1
      → (c : ℕ) → get_or (slice_set now (get_or near i 0) v) c 0 ≡ get_or old c 0 + one_if (has (take (i + 1) near) c)
  raised each is c = walked c
      (λ same new none one. let value = ap (λ n. get_or now n 0) same in omega (arith, each c, is, value, new, none, one))
      (λ new one. omega (arith, each c, new, one))

  -- a walk that takes one
  pub lowered : ((c : ℕ) → get_or now c 0 + one_if (has (take i near) c) ≡ get_or old c 0) → v + 1 ≡ get_or now (get_or near i 0) 0
      → (c : ℕ) → get_or (slice_set now (get_or near i 0) v) c 0 + one_if (has (take (i + 1) near) c) ≡ get_or old c 0
  lowered each is c = walked c
      (λ same new none one. let value = ap (λ n. get_or now n 0) same in omega (arith, each c, is, value, new, none, one))
      (λ new one. omega (arith, each c, new, one))

-- where a list has a number
pub found_at : (xs : List ℕ) (c : ℕ) → has xs c ≡ true → (i : ℕ) × (i < length xs) × (get_or xs i 0 ≡ c)
found_at [] c h = absurd (true≢false (sym h))
found_at (x ∷ xs) c h = by_cases (x == c)
    (λ e. (0, omega arith, equal x c e))
    (λ e. let rest = found_at xs c (sym (ap (λ r. r || has xs c) e) ∙ h) in (suc rest.0, omega (arith, rest.1), rest.2))

-- what holds of all of its numbers holds of each that it has
pub has_below : (xs : List ℕ) (n c : ℕ) → All (λ x. x < n) xs → has xs c ≡ true → c < n
has_below xs n c all h =
    let at = found_at xs c h in
    let here : get_or xs at.0 0 < n = All-get_or (λ x. x < n) xs at.0 0 at.1 all in
    omega (arith, here, at.2)
