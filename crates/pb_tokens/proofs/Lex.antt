-- The list of a text's tokens, one after another.
use Rattle.std.proofs.Common.{◌≡◌, ℕ, true, false, List, [], ◌∷◌, length, drop, refl, sym, ap, subst, ◌∙◌}
use Rattle.std.proofs.lemmas.Bool.{true≢false}
use Rattle.pb_pddl.specs.Tokens.{gap_len, token_at, is_last, AreTokens, moved, behind}
use Rattle.pb_pddl.specs.declared.token.Token.{Token}
use Rattle.pb_pddl.specs.declared.token.Cursor.{Cursor}

pub last_token : (h : Cursor) (bytes : List ℕ) (gap : ℕ) (t : Token) → gap ≡ gap_len false bytes → t ≡ token_at (moved gap h) (drop gap bytes) → is_last t.kind ≡ true → AreTokens h bytes (t ∷ [])
unfolding AreTokens
last_token h bytes gap t g is last = (
  subst (λ n. t ≡ token_at (moved n h) (drop n bytes)) g is,
  λ _. refl,
  λ no. absurd (true≢false (sym last ∙ no)),
)

pub next_token : (h : Cursor) (bytes : List ℕ) (gap : ℕ) (t : Token) (more : List Token) → gap ≡ gap_len false bytes → t ≡ token_at (moved gap h) (drop gap bytes) → is_last t.kind ≡ false
    → AreTokens (behind (moved gap h) t) (drop (length t.text) (drop gap bytes)) more → AreTokens h bytes (t ∷ more)
unfolding AreTokens
next_token h bytes gap t more g is last rest = (
  subst (λ n. t ≡ token_at (moved n h) (drop n bytes)) g is,
  λ yes. absurd (true≢false (sym yes ∙ last)),
  λ _. subst (λ n. AreTokens (behind (moved n h) t) (drop (length t.text) (drop n bytes)) more) g rest,
)

-- the same of what a loop has at hand: the gap, what is behind it, and what is behind the token
module _ (h : Cursor) (bytes : List ℕ) (gap len : ℕ) (rest : List ℕ) (t : Token) (len_is : len ≡ gap_len false bytes) (gap_is : gap ≡ len) (rest_is : rest ≡ drop len bytes) (is : t ≡ token_at (moved gap h) rest) where
  plain : t ≡ token_at (moved gap h) (drop gap bytes)
  plain = subst (λ n. t ≡ token_at (moved gap h) (drop n bytes)) (sym gap_is) (subst (λ r. t ≡ token_at (moved gap h) r) rest_is is)

  pub step_last : is_last t.kind ≡ true → AreTokens h bytes (t ∷ [])
  step_last last = last_token h bytes gap t (gap_is ∙ len_is) plain last

  pub step_next : (here : Cursor) (after : List ℕ) (more : List Token) → is_last t.kind ≡ false → here ≡ behind (moved gap h) t → after ≡ drop (length t.text) rest
      → AreTokens here after more → AreTokens h bytes (t ∷ more)
  step_next here after more last here_is after_is are =
      let back : drop len bytes ≡ drop gap bytes = ap (λ n. drop n bytes) (sym gap_is) in
      let seen : AreTokens (behind (moved gap h) t) (drop (length t.text) (drop gap bytes)) more =
      subst (λ (x : Cursor). AreTokens x (drop (length t.text) (drop gap bytes)) more) here_is (subst (λ r. AreTokens here r more) (after_is ∙ ap (drop (length t.text)) (rest_is ∙ back)) are) in
      next_token h bytes gap t more (gap_is ∙ len_is) plain last seen
