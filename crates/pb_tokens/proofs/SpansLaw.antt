-- Tokens are slices of their text, one behind the other.
use Rattle.std.proofs.Common.{◌≡◌, ℕ, zero, suc, ◌+◌, Bool, true, false, List, [], ◌∷◌, length, take, drop, map, refl, sym, ap, subst, ◌∙◌, arith, ◌⊎◌, inl, inr}
use Rattle.pb_pddl.specs.declared.token.TokenKind.TheVariants as kinds
use Rattle.pb_pddl.specs.declared.token.Token.{Token}
use Rattle.pb_pddl.specs.declared.token.Cursor.{Cursor}
use Rattle.pb_pddl.specs.Tokens.{lower, gap_len, token_at, kind_of, kind_inside, word_first, len_of, is_last, AreTokens, moved, behind}
use Rattle.pb_pddl.specs.Spans.{Spans}
use Rattle.pb_pddl.proofs.Callers.{drop_drop}

take_taken : (n : ℕ) (xs : List ℕ) → take (length (map lower (take n xs))) xs ≡ take n xs
take_taken zero xs = refl
take_taken (suc n) [] = refl
take_taken (suc n) (x ∷ xs) = ap (λ (ys : List ℕ). x ∷ ys) (take_taken n xs)

token_slice : (h : Cursor) (rest : List ℕ) → ((token_at h rest).kind ≡ kinds.End) ⊎ (((token_at h rest).at ≡ h.at) × ((token_at h rest).text ≡ map lower (take (length (token_at h rest).text) rest)))
unfolding token_at
token_slice h [] = inl refl
token_slice h (b ∷ bs) =
    let n : ℕ = len_of (kind_inside (length h.nest) (kind_of b (word_first bs))) bs in
    inr (refl, ap (map lower) (sym (take_taken n (b ∷ bs))))

end_last : is_last kinds.End ≡ true
unfolding is_last
end_last = refl

pub spans : (h : Cursor) (source bytes : List ℕ) (ts : List Token) → bytes ≡ drop h.at source → AreTokens h bytes ts → Spans h.at source ts
unfolding AreTokens
spans h source bytes [] at are = tt
spans h source bytes (t ∷ ts) at are =
    let gap = gap_len false bytes in
    let rest = drop gap bytes in
    let place : rest ≡ drop (h.at + gap) source = ap (drop gap) at ∙ drop_drop h.at gap source in
    elim (token_slice (moved gap h) rest) [
      | inl end ↦ inl (ap (λ (x : Token). x.kind) are.0 ∙ end)
      | inr one ↦
          let at_is : t.at ≡ h.at + gap = ap (λ (x : Token). x.at) are.0 ∙ one.0 in
          let text_is : t.text ≡ map lower (take (length t.text) rest) = subst (λ (x : Token). x.text ≡ map lower (take (length x.text) rest)) (sym are.0) one.1 in
          let source_is : rest ≡ drop t.at source = place ∙ ap (λ i. drop i source) (sym at_is) in
          let b : Bool = is_last t.kind in
          let more : (v : Bool) → is_last t.kind ≡ v → Spans (t.at + length t.text) source ts =
          λ v. elim v as (λ v. is_last t.kind ≡ v → Spans (t.at + length t.text) source ts) [
            | true ↦ λ e. subst (λ (us : List Token). Spans (t.at + length t.text) source us) (sym (are.1 e)) tt
            | false ↦ λ e.
                let next : drop (length t.text) rest ≡ drop (h.at + gap + length t.text) source = ap (drop (length t.text)) place ∙ drop_drop (h.at + gap) (length t.text) source in
                subst (λ i. Spans (i + length t.text) source ts) (sym at_is) (spans (behind (moved gap h) t) source (drop (length t.text) rest) ts next (are.2 e))
          ] in
          inr (omega (arith, at_is), text_is ∙ ap (λ (r : List ℕ). map lower (take (length t.text) r)) source_is, more b refl)
    ]
