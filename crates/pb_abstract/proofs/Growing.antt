-- Lists that grow by one list.
use Rattle.std.proofs.Common.{◌≡◌, ℕ, ◌+◌, ◌<◌, ◌==◌, ◌++◌, ◌∷◌, ◌↔◌, ◌⊎◌, IsTrue, List, [], get_or, length, true, false, sym, subst, arith}
use Rattle.std.proofs.lemmas.Bool.Decides.{nat_tests}
use Rattle.std.proofs.lemmas.List.{get_or_push, get_or_append_left}
use Rattle.pb_model.proofs.Callers.{equal, by_cases}
use Rattle.pb_abstract.specs.Graph.{has}

-- one scope more
pub one_more_scope : (edge : ℕ → ℕ → Type 0) (scopes : List (List ℕ)) (count : ℕ) (scope : List ℕ) → length scopes ≡ count
    → ((block other : ℕ) → block < count → IsTrue (has (get_or scopes block []) other) ↔ ((block ≡ other) ⊎ edge block other)) → ((other : ℕ) → IsTrue (has scope other) ↔ ((count ≡ other) ⊎ edge count other))
    → (block other : ℕ) → block < count + 1 → IsTrue (has (get_or (scopes ++ scope ∷ []) block []) other) ↔ ((block ≡ other) ⊎ edge block other)
one_more_scope edge scopes count scope many before here block other less = by_cases (block == count) last first where
  last : (block == count) ≡ true → IsTrue (has (get_or (scopes ++ scope ∷ []) block []) other) ↔ ((block ≡ other) ⊎ edge block other)
  last e =
      let is : block ≡ count = equal block count e in
      subst (λ n. IsTrue (has (get_or (scopes ++ scope ∷ []) n []) other) ↔ ((n ≡ other) ⊎ edge n other)) (sym is)
      (subst (λ list. IsTrue (has list other) ↔ ((count ≡ other) ⊎ edge count other)) (sym (get_or_push scopes scope [] count many)) (here other))

  first : (block == count) ≡ false → IsTrue (has (get_or (scopes ++ scope ∷ []) block []) other) ↔ ((block ≡ other) ⊎ edge block other)
  first e =
      let smaller : block < count = grind (arith, nat_tests) in
      subst (λ list. IsTrue (has list other) ↔ ((block ≡ other) ⊎ edge block other)) (sym (get_or_append_left scopes (scope ∷ []) [] block (omega (arith, smaller, many)))) (before block other smaller)
