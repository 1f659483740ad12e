-- Texts whose tokens stand with one space behind each: they are read from the end, one token before what is behind it.
use Rattle.std.proofs.Common.{◌≡◌, ℕ, suc, ◌+◌, ◌-◌, ◌<◌, ◌≤◌, Bool, true, false, nat_le, if◌then◌else◌, Option, None, Some, List, [], ◌∷◌, ◌++◌, length, take, drop, map, refl, ap, sym, subst, arith, ◌∙◌, length-append}
use Rattle.std.proofs.lemmas.Bool.{and_parts, true≢false}
use Rattle.std.proofs.lemmas.Bool.Decides.{nat_tests}
use Rattle.std.proofs.lemmas.List.{length-take-le}
use Rattle.std.proofs.Math.Seq.{take-append_seam, drop-append_seam}
use Rattle.std.specs.List.{list_all}
use Rattle.pb_pddl.specs.declared.token.TokenKind.{TokenKind}
use Rattle.pb_pddl.specs.declared.token.TokenKind.TheVariants as kinds
use Rattle.pb_pddl.specs.declared.token.Token.{Token}
use Rattle.pb_pddl.specs.declared.token.Cursor.{Cursor}
use Rattle.pb_pddl.specs.Tokens.{is_white, begins_word, goes_on_word, lower, gap_next, gap_len, run_len, kind_of, word_first, kind_inside, len_of, is_last, unclosed, token_at, opened, moved, behind, AreTokens}
use Rattle.pb_pddl.specs.Grammar.{Says, Opens, Closes, Ends}
use Rattle.pb_pddl.specs.Reading.{front}

-- Wherever the bytes begin, inside so many parentheses, they have tokens of which Q holds.
pub record Reads (bytes : List ℕ) (depth : ℕ) (Q : List Token → Type 0) : Type 0 where
  pub has : (h : Cursor) → length h.nest ≡ depth → (ts : List Token) × AreTokens h bytes ts × Q ts

pub weakened : {bytes : List ℕ} {depth : ℕ} {Q P : List Token → Type 0} → Reads bytes depth Q → ((ts : List Token) → Q ts → P ts) → Reads bytes depth P
weakened r f = record { has = λ h e. let found = r.has h e in (found.0, found.1, f found.0 found.2) }

pub same_bytes : {bytes other : List ℕ} {depth : ℕ} {Q : List Token → Type 0} → bytes ≡ other → Reads bytes depth Q → Reads other depth Q
same_bytes {depth = depth} {Q = Q} e r = subst (λ (b : List ℕ). Reads b depth Q) e r

-- ---- a space

shifted : (h : Cursor) (rest : List ℕ) (ts : List Token) → AreTokens (moved 1 h) rest ts → AreTokens h (32 ∷ rest) ts
unfolding AreTokens gap_len gap_next is_white
shifted h rest [] a = a
shifted h rest (t ∷ ts) a =
    let gap = gap_len false rest in
    let same : (h.at + 1) + gap ≡ h.at + suc gap = omega arith in
    subst (λ (at : ℕ).
    let here : Cursor = record { at = at; nest = h.nest; head = h.head } in
    (t ≡ token_at here (drop gap rest)) × (is_last t.kind ≡ true → ts ≡ []) × (is_last t.kind ≡ false → AreTokens (behind here t) (drop (length t.text) (drop gap rest)) ts)) same a

pub space : {rest : List ℕ} {depth : ℕ} {Q : List Token → Type 0} → Reads rest depth Q → Reads (32 ∷ rest) depth Q
space {rest} r = record { has = λ h e. let found = r.has (moved 1 h) e in (found.0, shifted h rest found.0 found.1, found.2) }

-- ---- words and keywords

run_is : (bytes rest : List ℕ) → list_all goes_on_word bytes ≡ true → run_len (bytes ++ 32 ∷ rest) ≡ length bytes
unfolding run_len goes_on_word begins_word
run_is [] rest all = refl
run_is (b ∷ bs) rest all =
    let parts = and_parts (goes_on_word b) (list_all goes_on_word bs) all in
    ap (λ test. if test then suc (run_len (bs ++ 32 ∷ rest)) else 0) parts.0 ∙ ap suc (run_is bs rest parts.1)

-- a token of a kind that goes on with a word
pub record IsWordKind (kind : TokenKind) : Type 0 where
  pub inside : (n : ℕ) → kind_inside n kind ≡ kind
  pub len : (bytes : List ℕ) → len_of kind bytes ≡ suc (run_len bytes)
  pub nest : (h : Cursor) → opened h kind ≡ h.nest
  pub goes_on : is_last kind ≡ false

pub word_kind : IsWordKind kinds.Word
unfolding kind_inside len_of opened is_last
word_kind = record { inside = λ n. refl; len = λ bytes. refl; nest = λ h. refl; goes_on = refl }

pub key_kind : IsWordKind kinds.Key
unfolding kind_inside len_of opened is_last
key_kind = record { inside = λ n. refl; len = λ bytes. refl; nest = λ h. refl; goes_on = refl }

-- the bytes of such a token, in lower case
pub record IsSpelling (kind : TokenKind) (first : ℕ) (others : List ℕ) : Type 0 where
  pub no_gap : gap_next false first ≡ None
  pub kind_is : (rest : List ℕ) → kind_of first (word_first (others ++ 32 ∷ rest)) ≡ kind
  pub goes : list_all goes_on_word others ≡ true
  pub low : map lower (first ∷ others) ≡ first ∷ others

no_gap_len : (first : ℕ) (rest : List ℕ) → gap_next false first ≡ None → gap_len false (first ∷ rest) ≡ 0
unfolding gap_len
no_gap_len first rest e = ap (λ (next : Option Bool). elim next as (λ _. ℕ) [ None ↦ 0 | Some go ↦ suc (gap_len go rest) ]) e

-- a token that stands here, before the tokens of what is behind it
joined : (h : Cursor) (bytes rest : List ℕ) (ts : List Token) (text : List ℕ) → gap_len false bytes ≡ 0 → (token_at h bytes).text ≡ text → is_last (token_at h bytes).kind ≡ false → drop (length text) bytes ≡ rest
    → AreTokens (behind h (token_at h bytes)) rest ts → AreTokens h bytes (token_at h bytes ∷ ts)
unfolding AreTokens
joined h bytes rest ts text none said goes behind_it are =
    let t = token_at h bytes in
    let here : moved 0 h ≡ h = λ i. (let e : h.at + 0 ≡ h.at = omega arith in record { at = e i; nest = h.nest; head = h.head }) in
    let left : rest ≡ drop (length t.text) bytes = sym behind_it ∙ ap (λ (text : List ℕ). drop (length text) bytes) (sym said) in
    subst (λ (gap : ℕ). (t ≡ token_at (moved gap h) (drop gap bytes)) × (is_last t.kind ≡ true → ts ≡ []) × (is_last t.kind ≡ false → AreTokens (behind (moved gap h) t) (drop (length t.text) (drop gap bytes)) ts)) (sym none)
    (subst (λ (c : Cursor). (t ≡ token_at c bytes) × (is_last t.kind ≡ true → ts ≡ []) × (is_last t.kind ≡ false → AreTokens (behind c t) (drop (length t.text) bytes) ts)) (sym here)
    (refl, (λ e. absurd (true≢false (sym e ∙ goes))), (λ e. subst (λ (bs : List ℕ). AreTokens (behind h t) bs ts) left are)))

pub spelled : {rest : List ℕ} {depth : ℕ} {Q : List Token → Type 0} (kind : TokenKind) (first : ℕ) (others : List ℕ) → IsWordKind kind → IsSpelling kind first others → Reads rest depth Q
    → Reads (first ∷ others ++ 32 ∷ rest) depth (λ ts. (us : List Token) × Says kind (first ∷ others) ts us × Q us)
unfolding token_at
spelled {rest} {depth} {Q} kind first others kind_goes is r = record {
  has = λ h e.
      let bytes : List ℕ = first ∷ others ++ 32 ∷ rest in
      let t : Token = token_at h bytes in
      let kind_is : t.kind ≡ kind = ap (kind_inside (length h.nest)) (is.kind_is rest) ∙ kind_goes.inside (length h.nest) in
      let run : len_of t.kind (others ++ 32 ∷ rest) ≡ length (first ∷ others) =
      ap (λ k. len_of k (others ++ 32 ∷ rest)) kind_is ∙ kind_goes.len (others ++ 32 ∷ rest) ∙ ap suc (run_is others rest is.goes) in
      let text_is : t.text ≡ first ∷ others =
      ap (λ n. map lower (take n bytes)) run ∙ ap (map lower) (take-append_seam (first ∷ others) (32 ∷ rest)) ∙ is.low in
      let depth_is : length (behind h t).nest ≡ depth = ap (λ k. length (opened h k)) kind_is ∙ ap length (kind_goes.nest h) ∙ e in
      let found = (space r).has (behind h t) depth_is in (
        t ∷ found.0,
        joined h bytes (32 ∷ rest) found.0 (first ∷ others) (no_gap_len first (others ++ 32 ∷ rest) is.no_gap) text_is (ap is_last kind_is ∙ kind_goes.goes_on) (drop-append_seam (first ∷ others) (32 ∷ rest)) found.1,
        (found.0, (t, (refl, kind_is), text_is), found.2),
      );
}

-- ---- parentheses

not_deep : (n : ℕ) → n < 32 → nat_le 32 n ≡ false
not_deep n less = grind (arith, nat_tests)

pub opens : {rest : List ℕ} {depth : ℕ} {Q : List Token → Type 0} → depth < 32 → Reads rest (depth + 1) Q → Reads (40 ∷ 32 ∷ rest) depth (λ ts. (us : List Token) × Opens ts us × Q us)
unfolding token_at kind_of kind_inside len_of opened is_last gap_len gap_next is_white lower
opens {rest} {depth} {Q} low r = record {
  has = λ h e.
      let bytes : List ℕ = 40 ∷ 32 ∷ rest in
      let t : Token = token_at h bytes in
      let less : length h.nest < 32 = omega (arith, e, low) in
      let kind_is : t.kind ≡ kinds.Open = ap (λ test. if test then kinds.Deep else kinds.Open) (not_deep (length h.nest) less) in
      let text_is : t.text ≡ 40 ∷ [] = ap (λ k. map lower (take (len_of k (32 ∷ rest)) bytes)) kind_is in
      let depth_is : length (behind h t).nest ≡ depth + 1 = ap (λ k. length (opened h k)) kind_is ∙ length-append h.nest (h.at ∷ []) ∙ ap (λ n. n + 1) e in
      let found = (space r).has (behind h t) depth_is in (
        t ∷ found.0,
        joined h bytes (32 ∷ rest) found.0 (40 ∷ []) refl text_is (ap is_last kind_is) refl found.1,
        (found.0, (t, (refl, kind_is)), found.2),
      );
}

-- a closing parenthesis, with this byte behind it
closed_by : {rest : List ℕ} {depth : ℕ} {Q : List Token → Type 0} (byte : ℕ) → Reads (byte ∷ rest) depth Q → Reads (41 ∷ byte ∷ rest) (depth + 1) (λ ts. (us : List Token) × Closes ts us × Q us)
unfolding token_at kind_of kind_inside len_of opened is_last gap_len gap_next is_white lower
closed_by {rest} {depth} {Q} byte r = record {
  has = λ h e.
      let bytes : List ℕ = 41 ∷ byte ∷ rest in
      let t : Token = token_at h bytes in
      let inner : length h.nest - 1 ≤ length h.nest = omega arith in
      let depth_is : length (behind h t).nest ≡ depth = let less = length-take-le (length h.nest - 1) h.nest inner in omega (arith, less, e) in
      let found = r.has (behind h t) depth_is in (
        t ∷ found.0,
        joined h bytes (byte ∷ rest) found.0 (41 ∷ []) refl refl refl refl found.1,
        (found.0, (t, (refl, refl)), found.2),
      );
}

pub closes : {rest : List ℕ} {depth : ℕ} {Q : List Token → Type 0} → Reads rest depth Q → Reads (41 ∷ 32 ∷ rest) (depth + 1) (λ ts. (us : List Token) × Closes ts us × Q us)
closes r = closed_by 32 (space r)

-- ---- the end of a text, behind its last parenthesis

ended : Reads (10 ∷ []) 0 Ends
unfolding AreTokens gap_len gap_next is_white token_at is_last front
ended = record {
  has = λ h e. (
    record { kind = kinds.End; text = []; at = unclosed (moved 1 h); head = h.head } ∷ [],
    (refl, (λ last. refl), (λ goes. absurd (true≢false goes))),
    refl,
  );
}

pub closes_last : Reads (41 ∷ 10 ∷ []) 1 (λ ts. (us : List Token) × Closes ts us × Ends us)
closes_last = closed_by 10 ended
