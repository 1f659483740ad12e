-- Marks of actions as bits of words.
use Rattle.std.proofs.Common.{◌≡◌, ◌≢◌, ℕ, ◌*◌, ◌/◌, ◌%◌, ◌^◌, ◌<◌, true, List, length, get_or, set, ◌==◌, sym, ap, arith, ◌∙◌, ◌⊎◌, inl, inr}
use Rattle.std.specs.Int.{bit_at, w64}
use Rattle.std.specs.Int.RustNames.{bit_or}
use Rattle.std.proofs.lemmas.Bool.{cases_eq}
use Rattle.std.proofs.lemmas.List.{get_or-set_same, get_or-set_other}
use Rattle.std.proofs.lemmas.Nat.{mod_below}
use Rattle.std.proofs.lemmas.Nat.Bits.{bit_at_set_same, bit_at_set_other}
use Rattle.pb_task.specs.Marks.{is_marked}

within_word : (n : ℕ) → n % 64 < 64
within_word n = mod_below n 64 (omega arith)

-- ---- a mark more

module _ (marks : List ℕ) (action word : ℕ) (is : word ≡ get_or marks (action / 64) 0) where
  -- the marks with one more
  abbrev more : List ℕ
  more = set marks (action / 64) (bit_or word (1 * 2 ^ (action % 64) % 2 ^ 64))

  pub marked_now : action < 64 * length marks → is_marked more action ≡ true
  marked_now less =
      let inside : action / 64 < length marks = omega arith in
      ap (λ w. bit_at w (action % 64) == 1) (get_or-set_same marks (action / 64) (bit_or word (1 * 2 ^ (action % 64) % 2 ^ 64)) 0 inside)
      ∙ ap (λ n. n == 1) (bit_at_set_same w64 word (action % 64) (within_word action))

  pub marked_as_before : action < 64 * length marks → (other : ℕ) → other ≢ action → is_marked more other ≡ is_marked marks other
  marked_as_before less other apart = go (cases_eq (other / 64) (action / 64)) where
    go : (other / 64 ≡ action / 64) ⊎ (other / 64 ≢ action / 64) → is_marked more other ≡ is_marked marks other
    go (inl same) =
        let inside : action / 64 < length marks = omega arith in
        let differ : other % 64 ≢ action % 64 = λ e. apart (omega (arith, same, e)) in
        ap (λ place. bit_at (get_or more place 0) (other % 64) == 1) same
        ∙ ap (λ w. bit_at w (other % 64) == 1) (get_or-set_same marks (action / 64) (bit_or word (1 * 2 ^ (action % 64) % 2 ^ 64)) 0 inside)
        ∙ ap (λ n. n == 1) (bit_at_set_other w64 word (action % 64) (within_word action) (other % 64) differ)
        ∙ ap (λ w. bit_at w (other % 64) == 1) (is ∙ ap (λ place. get_or marks place 0) (sym same))
    go (inr differ) =
        ap (λ w. bit_at w (other % 64) == 1)
        (get_or-set_other marks (action / 64) (other / 64) (bit_or word (1 * 2 ^ (action % 64) % 2 ^ 64)) 0 differ)

-- marks of which one more is there
pub marked_too : (before after : List ℕ) (action : ℕ) → is_marked after action ≡ true → ((other : ℕ) → other ≢ action → is_marked after other ≡ is_marked before other)
    → (other : ℕ) → is_marked before other ≡ true → is_marked after other ≡ true
marked_too before after action now others other marked = go (cases_eq other action) where
  go : (other ≡ action) ⊎ (other ≢ action) → is_marked after other ≡ true
  go (inl e) = ap (is_marked after) e ∙ now
  go (inr apart) = others other apart ∙ marked
