-- Rising lists of blocks: no block stands twice, and lists of the same blocks are equally long.
use Rattle.std.proofs.Common.{◌≡◌, ℕ, suc, ◌<◌, ◌≤◌, cond, ◌||◌, ◌==◌, nat_eq, List, [], ◌∷◌, Some, is_some, length, get_or, refl, sym, ap, ◌∙◌, arith}
use Rattle.std.specs.Cmp.{nat_eq_equiv}
use Rattle.std.specs.List.{list_any, IsDistinct}
use Rattle.std.specs.List.Sorted.{IsStrictlyIncreasing}
use Rattle.std.specs.Map.{lookup}
use Rattle.std.proofs.lemmas.Bool.Decides.{nat_tests}
use Rattle.std.proofs.lemmas.List.{get_or_default}
use Rattle.std.proofs.lemmas.Map.Keys.{IsDistinct-from_apart}
use Rattle.std.proofs.lemmas.Map.Steps.{length-le_from_keys}
use Rattle.pb_model.proofs.Callers.{equal_swap, by_cases}
use Rattle.pb_abstract.specs.Graph.{has}
use Rattle.pb_lease.proofs.Lists.{rising}

pub distinct : (xs : List ℕ) → IsStrictlyIncreasing xs → IsDistinct nat_eq xs
distinct xs up = IsDistinct-from_apart nat_eq xs (λ i j d less lt.
    let apart : get_or xs i 0 < get_or xs j 0 = rising xs i j up less lt in
    let first : get_or xs i d ≡ get_or xs i 0 = get_or_default xs i d 0 (omega (arith, less, lt)) in
    let second : get_or xs j d ≡ get_or xs j 0 = get_or_default xs j d 0 lt in
    grind (arith, nat_tests))

-- each number with itself
abbrev twice : List ℕ → List (ℕ × ℕ)
twice [] = []
twice (x ∷ xs) = (x, x) ∷ twice xs

twice_long : (xs : List ℕ) → length (twice xs) ≡ length xs
twice_long [] = refl
twice_long (x ∷ xs) = ap suc (twice_long xs)

found_twice : (xs : List ℕ) (q : ℕ) → is_some (lookup (nat_eq q) (twice xs)) ≡ list_any (nat_eq q) xs
found_twice [] q = refl
found_twice (x ∷ xs) q = by_cases (nat_eq q x)
    (λ e. ap (λ r. is_some (cond r (Some x) (lookup (nat_eq q) (twice xs)))) e ∙ sym (ap (λ r. r || list_any (nat_eq q) xs) e))
    (λ e. ap (λ r. is_some (cond r (Some x) (lookup (nat_eq q) (twice xs)))) e ∙ found_twice xs q ∙ sym (ap (λ r. r || list_any (nat_eq q) xs) e))

has_either : (xs : List ℕ) (q : ℕ) → list_any (nat_eq q) xs ≡ has xs q
has_either [] q = refl
has_either (x ∷ xs) q = ap (λ r. r || list_any (nat_eq q) xs) (equal_swap q x) ∙ ap (λ r. (x == q) || r) (has_either xs q)

-- the second list has no more blocks than the first, where they have the same
pub no_longer : (xs ys : List ℕ) → IsStrictlyIncreasing ys → ((c : ℕ) → has ys c ≡ has xs c) → length ys ≤ length xs
no_longer xs ys up same =
    let fewer = length-le_from_keys nat_eq_equiv ys (twice xs) (distinct ys up) (λ q there. found_twice xs q ∙ has_either xs q ∙ sym (same q) ∙ sym (has_either ys q) ∙ there) in
    omega (arith, fewer, twice_long xs)
