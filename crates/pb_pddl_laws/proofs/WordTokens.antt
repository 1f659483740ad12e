-- A token that is a word has lower-case letters, digits, - and _ alone, and begins with a letter or a digit.
use Rattle.std.proofs.Common.{◌≡◌, ℕ, suc, Bool, true, false, ◌||◌, ◌==◌, IsTrue, List, [], ◌∷◌, length, take, drop, map, refl, sym, subst, arith, inl, inr}
use Rattle.std.proofs.lemmas.Bool.{or_left}
use Rattle.std.specs.Prelude.{if◌then◌else◌}
use Rattle.std.proofs.lemmas.List.Elements.{All-cons, All-nil}
use Rattle.pb_pddl.specs.declared.token.TokenKind.{TokenKind}
use Rattle.pb_pddl.specs.declared.token.TokenKind.TheVariants as kinds
use Rattle.pb_pddl.specs.declared.token.Token.{Token}
use Rattle.pb_pddl.specs.declared.token.Cursor.{Cursor}
use Rattle.pb_pddl.specs.Tokens.{begins_word, goes_on_word, lower, gap_len, run_len, kind_of, kind_inside, word_first, len_of, token_at, is_last, AreTokens, moved, behind}
use Rattle.pb_pddl.specs.Words.{is_first_byte, is_word_byte, AreWordBytes, IsWord}
use Rattle.pb_pddl_laws.proofs.CondsRead.{if_cases, if_true, if_false}

-- ---- bytes

lower_word : (b : ℕ) → goes_on_word b ≡ true → IsTrue (is_word_byte (lower b))
unfolding goes_on_word begins_word lower
lower_word b e = grind (arith, e)

lower_first : (b : ℕ) → begins_word b ≡ true → IsTrue (is_first_byte (lower b))
unfolding begins_word lower
lower_first b e = grind (arith, e)

abbrev is_test : ℕ → Type 0
is_test b = IsTrue (is_word_byte b)

run_words : (bs : List ℕ) → AreWordBytes (map lower (take (run_len bs) bs))
unfolding run_len
run_words [] = All-nil is_test
run_words (b ∷ bs) =
    let cases : (v : Bool) → goes_on_word b ≡ v → AreWordBytes (map lower (take (if goes_on_word b then suc (run_len bs) else 0) (b ∷ bs))) =
    λ v. elim v as (λ v. goes_on_word b ≡ v → AreWordBytes (map lower (take (if goes_on_word b then suc (run_len bs) else 0) (b ∷ bs)))) [
      | true ↦ λ e.
          subst (λ n. AreWordBytes (map lower (take n (b ∷ bs)))) (sym (if_true (goes_on_word b) (suc (run_len bs)) 0 e)) (All-cons is_test (lower b) (map lower (take (run_len bs) bs)) (lower_word b e) (run_words bs))
      | false ↦ λ e. subst (λ n. AreWordBytes (map lower (take n (b ∷ bs)))) (sym (if_false (goes_on_word b) (suc (run_len bs)) 0 e)) (All-nil is_test)
    ] in
    cases (goes_on_word b) refl

-- ---- a token

open_no_word : (v : Bool) → (if v then kinds.Deep else kinds.Open) ≡ kinds.Word → ⊥
open_no_word true e = cc
open_no_word false e = cc

word_inside : (n : ℕ) (k : TokenKind) → kind_inside n k ≡ kinds.Word → k ≡ kinds.Word
unfolding kind_inside
word_inside n kinds.Open e = absurd (open_no_word _ e)
word_inside n kinds.Close e = e
word_inside n kinds.Equals e = e
word_inside n kinds.Dash e = e
word_inside n kinds.Word e = e
word_inside n kinds.Variable e = e
word_inside n kinds.Key e = e
word_inside n kinds.Deep e = e
word_inside n kinds.Byte e = e
word_inside n kinds.End e = e

word_begins : (b : ℕ) (word : Bool) → kind_of b word ≡ kinds.Word → begins_word b ≡ true
unfolding kind_of
word_begins b word e =
    elim (if_cases (b == 40) _ _ kinds.Word e) [
      | inl w ↦ absurd cc
      | inr w ↦ elim (if_cases (b == 41) _ _ kinds.Word w.1) [
        | inl w ↦ absurd cc
        | inr w ↦ elim (if_cases (b == 61) _ _ kinds.Word w.1) [
          | inl w ↦ absurd cc
          | inr w ↦ elim (if_cases (b == 45) _ _ kinds.Word w.1) [
            | inl w ↦ absurd cc
            | inr w ↦ elim (if_cases (begins_word b) _ _ kinds.Word w.1) [ inl w ↦ w.0 | inr w ↦ absurd (others _ _ w.1) ]
          ]
        ]
      ]
    ]
  where
    others : (u v : Bool) → (if u then kinds.Variable else if v then kinds.Key else kinds.Byte) ≡ kinds.Word → ⊥
    others true v e = cc
    others false true e = cc
    others false false e = cc

token_word : (h : Cursor) (bytes : List ℕ) → (token_at h bytes).kind ≡ kinds.Word → IsWord (token_at h bytes).text
unfolding token_at len_of goes_on_word
token_word h [] e = absurd cc
token_word h (b ∷ bs) e =
    let begins : begins_word b ≡ true = word_begins b (word_first bs) (word_inside (length h.nest) (kind_of b (word_first bs)) e) in
    subst (λ (k : TokenKind). IsWord (map lower (take (len_of k bs) (b ∷ bs)))) (sym e)
    (lower_first b begins, All-cons is_test (lower b) (map lower (take (run_len bs) bs)) (lower_word b (or_left (begins_word b || b == 45) (b == 95) (or_left (begins_word b) (b == 45) begins))) (run_words bs))

-- ---- the tokens of a text

-- those of these tokens that are words have such a text
abbrev pub WordsIn : List Token → Type 0
WordsIn [] = Unit {0}
WordsIn (t ∷ ts) = (t.kind ≡ kinds.Word → IsWord t.text) × WordsIn ts

pub text_words : (h : Cursor) (bytes : List ℕ) (ts : List Token) → AreTokens h bytes ts → WordsIn ts
unfolding AreTokens
text_words h bytes [] are = tt
text_words h bytes (t ∷ ts) are =
    let here : Cursor = moved (gap_len false bytes) h in
    let rest : List ℕ = drop (gap_len false bytes) bytes in
    let cases : (v : Bool) → is_last t.kind ≡ v → WordsIn ts = λ v. elim v as (λ v. is_last t.kind ≡ v → WordsIn ts) [
      | true ↦ λ e. subst WordsIn (sym (are.1 e)) tt
      | false ↦ λ e. text_words (behind here t) (drop (length t.text) rest) ts (are.2 e)
    ] in
    (subst (λ (x : Token). x.kind ≡ kinds.Word → IsWord x.text) (sym are.0) (token_word here rest), cases (is_last t.kind) refl)
