-- A text has the tokens that are its tokens as a function, and no others.
use Rattle.std.proofs.Common.{◌≡◌, ℕ, zero, suc, ◌-◌, ◌<◌, Bool, true, false, cond, List, [], ◌∷◌, length, take, drop, map, refl, sym, ap, subst, ◌∙◌, arith, true≢false}
use Rattle.std.proofs.lemmas.List.{length-drop}
use Rattle.pb_pddl.specs.declared.token.TokenKind.{TokenKind}
use Rattle.pb_pddl.specs.declared.token.TokenKind.TheVariants as kinds
use Rattle.pb_pddl.specs.declared.token.Token.{Token}
use Rattle.pb_pddl.specs.declared.token.Cursor.{Cursor}
use Rattle.pb_pddl.specs.Tokens.{lower, gap_len, kind_of, kind_inside, word_first, len_of, token_at, is_last, AreTokens, TextTokens, moved, start}
use Rattle.pb_pddl.specs.Readings.{first_token, next_cursor, next_bytes, tokens_from, tokens_of}
use Rattle.pb_pddl_laws.proofs.CondsRead.{if_true, if_false}

-- ---- a token that isn't the last takes a byte at least

len_some : (k : TokenKind) (bs : List ℕ) → 0 < len_of k bs
unfolding len_of
len_some kinds.Word bs = omega arith
len_some kinds.Variable bs = omega arith
len_some kinds.Key bs = omega arith
len_some k bs = omega arith

taken_some : (n b : ℕ) (bs : List ℕ) → 0 < n → 0 < length (map lower (take n (b ∷ bs)))
taken_some zero b bs some = absurd (omega arith)
taken_some (suc n) b bs some = omega arith

token_some : (h : Cursor) (bytes : List ℕ) → is_last (token_at h bytes).kind ≡ false → (0 < length bytes) × (0 < length (token_at h bytes).text)
unfolding token_at is_last
token_some h [] goes = absurd (true≢false goes)
token_some h (b ∷ bs) goes =
    let kind : TokenKind = kind_inside (length h.nest) (kind_of b (word_first bs)) in
    (omega arith, taken_some (len_of kind bs) b bs (len_some kind bs))

next_less : (h : Cursor) (bytes : List ℕ) → is_last (first_token h bytes).kind ≡ false → length (next_bytes h bytes) < length bytes
next_less h bytes goes =
    let gap : ℕ = gap_len false bytes in
    let n : ℕ = length (first_token h bytes).text in
    let some = token_some (moved gap h) (drop gap bytes) goes in
    let one : length (drop gap bytes) ≡ length bytes - gap = length-drop gap bytes in
    let two : length (drop n (drop gap bytes)) ≡ length (drop gap bytes) - n = length-drop n (drop gap bytes) in
    omega (arith, one, two, some.0, some.1)

-- ---- they are the text's, and the only ones

tokens_are : (room : ℕ) (h : Cursor) (bytes : List ℕ) → length bytes < room → AreTokens h bytes (tokens_from room h bytes)
unfolding AreTokens tokens_from
tokens_are zero h bytes less = absurd (omega arith)
tokens_are (suc room) h bytes less =
    let last : Bool = is_last (first_token h bytes).kind in
    let others : List Token = tokens_from room (next_cursor h bytes) (next_bytes h bytes) in (
      refl,
      λ e. if_true last [] others e,
      λ e.
          let fewer : length (next_bytes h bytes) < length bytes = next_less h bytes e in
          subst (AreTokens (next_cursor h bytes) (next_bytes h bytes)) (sym (if_false last [] others e)) (tokens_are room (next_cursor h bytes) (next_bytes h bytes) (omega arith)),
    )

tokens_same : (room : ℕ) (h : Cursor) (bytes : List ℕ) (ts : List Token) → length bytes < room → AreTokens h bytes ts → ts ≡ tokens_from room h bytes
unfolding AreTokens tokens_from
tokens_same zero h bytes ts less are = absurd (omega arith)
tokens_same (suc room) h bytes [] less are = absurd are
tokens_same (suc room) h bytes (t ∷ ts) less are =
    let first : Token = first_token h bytes in
    let others : List Token = tokens_from room (next_cursor h bytes) (next_bytes h bytes) in
    let same : t ≡ first = are.0 in
    let at : AreTokens h bytes (first ∷ ts) = subst (λ (x : Token). AreTokens h bytes (x ∷ ts)) same are in
    let cases : (v : Bool) → is_last first.kind ≡ v → ts ≡ cond (is_last first.kind) [] others =
    λ v. elim v as (λ v. is_last first.kind ≡ v → ts ≡ cond (is_last first.kind) [] others) [
      | true ↦ λ e. at.1 e ∙ sym (if_true (is_last first.kind) [] others e)
      | false ↦ λ e.
          let fewer : length (next_bytes h bytes) < length bytes = next_less h bytes e in
          tokens_same room (next_cursor h bytes) (next_bytes h bytes) ts (omega arith) (at.2 e) ∙ sym (if_false (is_last first.kind) [] others e)
    ] in
    ap (λ (x : Token). x ∷ ts) same ∙ ap (λ (us : List Token). first ∷ us) (cases (is_last first.kind) refl)

pub texts_have_tokens : (text : List ℕ) → TextTokens text (tokens_of text)
unfolding tokens_of
texts_have_tokens text = tokens_are (suc (length text)) start text (omega arith)

pub tokens_are_unique : (text : List ℕ) (ts : List Token) → TextTokens text ts → ts ≡ tokens_of text
unfolding tokens_of
tokens_are_unique text ts are = tokens_same (suc (length text)) start text ts (omega arith) are

pub same_tokens : (text : List ℕ) (ts us : List Token) → TextTokens text ts → TextTokens text us → ts ≡ us
same_tokens text ts us one other = tokens_are_unique text ts one ∙ sym (tokens_are_unique text us other)
