use Rattle.std.proofs.Common.{◌≡◌, ℕ, ◌-◌, ◌/◌, ◌%◌, ◌^◌, ◌<◌, ◌∷◌, [], true, slice_index_or, ◌==◌, ap, sym, arith, ◌∙◌}
use Rattle.std.specs.Int.{bit_at}
use Rattle.std.proofs.lemmas.Bool.{false≢true}
use Rattle.std.proofs.lemmas.Nat.{mod_below}
use Rattle.std.proofs.lemmas.Nat.Bits.{bit_at_ones}
use Rattle.pb_task.specs.Marks.{is_marked}
use Rattle.pb_test_examples.proofs.marked.among_all.Goals as goal

-- in a word of ones each action is marked
marked : (action : ℕ) → action < 64 → is_marked ((2 ^ 64 - 1) ∷ []) action ≡ true
marked action less =
    let first : action / 64 ≡ 0 = omega arith in
    ap (λ word. bit_at (slice_index_or ((2 ^ 64 - 1) ∷ []) word 0) (action % 64) == 1) first
    ∙ ap (λ bit. bit == 1) (bit_at_ones 64 (action % 64) (mod_below action 64 (omega arith)))

pub successors_among-requires-clause-others : goal.successors_among-requires-clause-others
successors_among-requires-clause-others g c = λ action less unmarked.
    absurd (false≢true (sym unmarked ∙ marked action (omega arith)))
