-- Which numbers a list has.
use Rattle.std.proofs.Common.{◌≡◌, ℕ, zero, suc, ◌<◌, ◌≤◌, true, not, ◌&&◌, ◌==◌, List, [], ◌∷◌, get_or, length, All, sym, ap, ◌∙◌, arith, true≢false, ◌⊎◌, inl, inr}
use Rattle.std.proofs.lemmas.Bool.{or_left, or_right, cases_lt}
use Rattle.std.proofs.lemmas.List.{get_or_past, get_or_read}
use Rattle.pb_model.proofs.Callers.{equal_self, and_true}
use Rattle.pb_machine.specs.Blocks.{meets, interferes}
use Rattle.pb_machine.proofs.Callers.{any_some}
use Rattle.pb_abstract.specs.Graph.{has, blocks_in, AreKnown, AreInterference}

-- a list has each of its items
pub has_at : (xs : List ℕ) (i d : ℕ) → i < length xs → has xs (get_or xs i d) ≡ true
has_at [] i d h = absurd (omega arith)
has_at (x ∷ xs) zero d h = or_left (x == x) (has xs x) (equal_self x)
has_at (x ∷ xs) (suc i) d h = or_right (x == get_or xs i d) (has xs (get_or xs i d)) (has_at xs i d (omega arith))

-- what holds of each number that a list has holds of its items
pub all_by_has : (P : ℕ → Type 0) (xs : List ℕ) → ((x : ℕ) → has xs x ≡ true → P x) → All P xs
all_by_has P xs h = λ i d less. h (get_or xs i d) (has_at xs i d less)

-- a block that interferes with another is one of the blocks
pub interferes_known : (scopes : List (List ℕ)) (block other : ℕ) → interferes (blocks_in scopes) block other ≡ true → other < length scopes
interferes_known scopes block other e =
    let two = and_true (not (block == other)) (meets (blocks_in scopes) block other) e in
    let shared = any_some (length scopes) (λ s. has (get_or scopes block []) s && has (get_or scopes other []) s) two.1 in
    known shared.0 (and_true (has (get_or scopes block []) shared.0) (has (get_or scopes other []) shared.0) shared.2).1
  where
    known : (s : ℕ) → has (get_or scopes other []) s ≡ true → other < length scopes
    known s h = go (cases_lt other (length scopes)) where
      go : ((other < length scopes) ⊎ (length scopes ≤ other)) → other < length scopes
      go (inl less) = less
      go (inr past) = absurd (true≢false (sym h ∙ ap (λ xs. has xs s) (get_or_past scopes other [] past)))

-- the scope of a block is of blocks that there are
pub scope_below : (scopes : List (List ℕ)) → AreKnown scopes → (block : ℕ) (list : List ℕ) → block < length scopes → list ≡ get_or scopes block list → All (λ c. c < length scopes) list
scope_below scopes known block list less read =
    all_by_has (λ n. n < length scopes) list (λ n h. known block n (ap (λ xs. has xs n) (sym (get_or_read scopes block list less read [])) ∙ h))

-- the interference of a block is of blocks that there are
pub interference_below : (scopes lists : List (List ℕ)) → AreInterference scopes lists → (block : ℕ) (list : List ℕ) → block < length scopes → list ≡ get_or lists block list → All (λ c. c < length scopes) list
interference_below scopes lists is block list less read =
    let within : block < length lists = omega (arith, less, is.same) in
    all_by_has (λ n. n < length scopes) list (λ n h. interferes_known scopes block n (sym (is.each block n less) ∙ ap (λ xs. has xs n) (sym (get_or_read lists block list within read [])) ∙ h))
