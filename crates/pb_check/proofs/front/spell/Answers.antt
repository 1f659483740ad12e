use Rattle.std.proofs.Common.{◌≡◌, ℕ, List, length, sym, subst, ◌∙◌}
use Rattle.std.proofs.Math.ListN.{replicate}
use Rattle.pb_packed.specs.Words.{AreWords}
use Rattle.pb_table_lines.proofs.Callers.{all_zeros}
use Rattle.pb_check.proofs.front.spell.Goals as goal

pub spell_into-requires-clause-words : goal.spell_into-requires-clause-words
spell_into-requires-clause-words c =
    let zeros : c.deref_mut.result.now ≡ replicate c.words_for.result 0 = c.deref_mut.ensures.value ∙ c.in_ok-words.ensures.items_if_clones_equal (λ y e. e) in
    subst (λ (ws : List ℕ). AreWords (length ws) ws) (sym zeros) (all_zeros c.words_for.result)
