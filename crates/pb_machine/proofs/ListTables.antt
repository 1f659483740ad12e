-- A list as a table by worker or by block.
use Rattle.std.proofs.Common.{◌≡◌, ℕ, zero, suc, ◌<◌, true, false, cond, ◌==◌, List, [], ◌∷◌, length, get_or, slice_set, replicate, sym, refl, ap, ◌∙◌, arith, true≢false, get_or-set_same, get_or-set_other}
use Rattle.pb_model.proofs.Callers.{by_cases, equal, equal_self, equal_swap}
use Rattle.pb_machine.specs.Tables.{with_entry}

-- at a place that there is, the default tells nothing
pub item_is : {A : Type 0} (xs : List A) (i : ℕ) (x d : A) → i < length xs → x ≡ get_or xs i x → x ≡ get_or xs i d
item_is [] i x d lt is = absurd (omega arith)
item_is (y ∷ xs) zero x d lt is = is
item_is (y ∷ xs) (suc i) x d lt is = item_is xs i x d (omega arith) is

-- a list of the default alone
pub defaults : {A : Type 0} (n i : ℕ) (d : A) → get_or (replicate n d) i d ≡ d
defaults zero i d = refl
defaults (suc n) zero d = refl
defaults (suc n) (suc i) d = defaults n i d

-- a list's place after a write
pub written_here : {A : Type 0} (xs : List A) (i k : ℕ) (v d : A) → i < length xs → (i == k) ≡ true → get_or (slice_set xs i v) k d ≡ v
written_here xs i k v d lt e = ap (λ n. get_or (slice_set xs i v) n d) (sym (equal i k e)) ∙ get_or-set_same xs i v d lt

pub written_else : {A : Type 0} (xs : List A) (i k : ℕ) (v d : A) → (i == k) ≡ false → get_or (slice_set xs i v) k d ≡ get_or xs k d
written_else xs i k v d e = get_or-set_other xs i k v d (λ is. true≢false (sym (ap (λ n. i == n) is ∙ equal_self i) ∙ e))

-- a list after a write, as a table
pub table_at : {A : Type 0} (xs : List A) (i : ℕ) (v d : A) → i < length xs → (k : ℕ) → get_or (slice_set xs i v) k d ≡ with_entry (λ n. get_or xs n d) i v k
table_at xs i v d lt k = by_cases (i == k)
    (λ e. written_here xs i k v d lt e ∙ sym (ap (λ r. cond r v (get_or xs k d)) (equal_swap k i ∙ e)))
    (λ e. written_else xs i k v d e ∙ sym (ap (λ r. cond r v (get_or xs k d)) (equal_swap k i ∙ e)))
