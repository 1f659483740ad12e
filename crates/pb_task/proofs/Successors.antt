-- One more action in a list of successors.
use Rattle.std.proofs.Common.{◌≡◌, ℕ, zero, suc, ◌+◌, ◌<◌, ◌≤◌, Option, None, List, ◌++◌, ap, sym, append-nil, ◌∙◌, ◌⊎◌, inl, inr, add-one, arith, refl}
use Rattle.std.proofs.lemmas.Bool.{cases_lt}
use Rattle.pb_model.specs.Space.{Space, steps_below, successor_list}
use Rattle.pb_model.specs.declared.row.Succ.{Succ}

pub one_more : (space : Space) (state action : ℕ) (before after : List Succ) (step : Option (ℕ × ℕ)) → before ≡ steps_below space state action
    → step ≡ space.step state action → after ≡ before ++ successor_list action step → after ≡ steps_below space state (action + 1)
one_more space state action before after step is here added =
    added ∙ ap (λ b. b ++ successor_list action step) is ∙ ap (λ s. steps_below space state action ++ successor_list action s) here ∙ rw add-one refl

-- where no action from a place to the next is applicable, the list stays
pub steps_past : (space : Space) (state at next : ℕ) → at ≤ next → ((action : ℕ) → at ≤ action → action < next → space.step state action ≡ None)
    → steps_below space state at ≡ steps_below space state next
steps_past space state at zero le none = let e : at ≡ 0 = omega arith in ap (steps_below space state) e
steps_past space state at (suc last) le none = go (cases_lt last at) (steps_past space state at last) where
  go : (last < at) ⊎ (at ≤ last) → (at ≤ last → ((action : ℕ) → at ≤ action → action < last → space.step state action ≡ None) → steps_below space state at ≡ steps_below space state last)
      → steps_below space state at ≡ steps_below space state (suc last)
  go (inl less) rest = let e : at ≡ suc last = omega arith in ap (steps_below space state) e
  go (inr before) rest =
      rest before (λ action above less. none action above (omega (arith, less)))
      ∙ sym (append-nil (steps_below space state last))
      ∙ ap (λ step. steps_below space state last ++ successor_list last step) (sym (none last before (omega arith)))

-- an action and those to the next
pub steps_more : (space : Space) (state action next : ℕ) (before after : List Succ) (step : Option (ℕ × ℕ)) → before ≡ steps_below space state action
    → step ≡ space.step state action → after ≡ before ++ successor_list action step → action + 1 ≤ next
    → ((a : ℕ) → action + 1 ≤ a → a < next → space.step state a ≡ None) → after ≡ steps_below space state next
steps_more space state action next before after step is here added le none =
    let one : suc action ≡ action + 1 = omega arith in
    added ∙ ap (λ b. b ++ successor_list action step) is ∙ ap (λ s. steps_below space state action ++ successor_list action s) here
    ∙ ap (steps_below space state) one ∙ steps_past space state (action + 1) next le none
