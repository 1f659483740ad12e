-- How deep parentheses stand inside one another, and that the limit on them never decides how a condition or an effect is read.
use Rattle.std.proofs.Common.{◌≡◌, ℕ, zero, suc, ◌+◌, ◌-◌, ◌<◌, ◌≤◌, Bool, true, false, cond, List, [], ◌∷◌, ◌++◌, length, take, drop, Ok, Err, refl, sym, ap, subst, ◌∙◌, arith, inl, inr}
use Rattle.std.proofs.Common.{length-append}
use Rattle.std.specs.Prelude.{codes, nat_le, if◌then◌else◌}
use Rattle.pb_pddl.specs.declared.token.TokenKind.{TokenKind}
use Rattle.pb_pddl.specs.declared.token.TokenKind.TheVariants as kinds
use Rattle.pb_pddl.specs.declared.token.Token.{Token}
use Rattle.pb_pddl.specs.declared.token.Cursor.{Cursor}
use Rattle.pb_pddl.specs.declared.tree.Atom.{Atom}
use Rattle.pb_pddl.specs.declared.tree.Term.{Term}
use Rattle.pb_pddl.specs.declared.tree.Cost.{Cost}
use Rattle.pb_pddl.specs.declared.parts.EffectParts.{EffectParts}
use Rattle.pb_pddl.specs.Tokens.{gap_len, token_at, kind_of, kind_inside, word_first, is_last, opened, AreTokens, moved, behind}
use Rattle.pb_pddl.specs.Reading.{◌>>=◌, Read, folds, all_of}
use Rattle.pb_pddl.specs.Grammar.{Takes, Steps, IsTerm, IsAtom, IsCond, IsCost, IsEffect}

-- how many are open behind a token of this kind
abbrev pub nested : TokenKind → ℕ → ℕ
nested kinds.Open n = suc n
nested kinds.Close zero = zero
nested kinds.Close (suc n) = n
nested k n = n

-- so many are open before these tokens, and never does a ( stand inside 32 others
abbrev pub Shallow : ℕ → List Token → Type 0
Shallow n [] = Unit {0}
Shallow n (t ∷ ts) = (t.kind ≡ kinds.Open → n < 32) × Shallow (nested t.kind n) ts

-- ---- the tokens of a text are so

open_shallow : (n : ℕ) (k : TokenKind) → kind_inside n k ≡ kinds.Open → n < 32
unfolding kind_inside
open_shallow n kinds.Open e = cases (nat_le 32 n) refl e where
  cases : (v : Bool) → nat_le 32 n ≡ v → (if v then kinds.Deep else kinds.Open) ≡ kinds.Open → n < 32
  cases true is clash = absurd cc
  cases false is same = grind (arith, is)
open_shallow n kinds.Close e = absurd cc
open_shallow n kinds.Equals e = absurd cc
open_shallow n kinds.Dash e = absurd cc
open_shallow n kinds.Word e = absurd cc
open_shallow n kinds.Variable e = absurd cc
open_shallow n kinds.Key e = absurd cc
open_shallow n kinds.Deep e = absurd cc
open_shallow n kinds.Byte e = absurd cc
open_shallow n kinds.End e = absurd cc

token_shallow : (h : Cursor) (bytes : List ℕ) → (token_at h bytes).kind ≡ kinds.Open → length h.nest < 32
unfolding token_at
token_shallow h [] e = absurd cc
token_shallow h (b ∷ bs) e = open_shallow (length h.nest) (kind_of b (word_first bs)) e

length_taken : (n : ℕ) (xs : List ℕ) → n ≤ length xs → length (take n xs) ≡ n
length_taken zero xs few = refl
length_taken (suc n) [] few = absurd (omega arith)
length_taken (suc n) (x ∷ xs) few = let e : length (take n xs) ≡ n = length_taken n xs (omega arith) in omega arith

opened_is : (h : Cursor) (k : TokenKind) → length (opened h k) ≡ nested k (length h.nest)
unfolding opened
opened_is h kinds.Open = let e : length (h.nest ++ h.at ∷ []) ≡ length h.nest + 1 = length-append h.nest (h.at ∷ []) in omega (arith, e)
opened_is h kinds.Close = closed h.nest where
  closed : (xs : List ℕ) → length (take (length xs - 1) xs) ≡ nested kinds.Close (length xs)
  closed [] = refl
  closed (x ∷ xs) = let e : suc (length xs) - 1 ≡ length xs = omega arith in ap (λ n. length (take n (x ∷ xs))) e ∙ length_taken (length xs) (x ∷ xs) (omega arith)
opened_is h kinds.Equals = refl
opened_is h kinds.Dash = refl
opened_is h kinds.Word = refl
opened_is h kinds.Variable = refl
opened_is h kinds.Key = refl
opened_is h kinds.Deep = refl
opened_is h kinds.Byte = refl
opened_is h kinds.End = refl

pub text_shallow : (h : Cursor) (bytes : List ℕ) (ts : List Token) → AreTokens h bytes ts → Shallow (length h.nest) ts
unfolding AreTokens
text_shallow h bytes [] are = tt
text_shallow h bytes (t ∷ ts) are =
    let gap = gap_len false bytes in
    let here = moved gap h in
    let rest = drop gap bytes in
    let cases : (v : Bool) → is_last t.kind ≡ v → Shallow (nested t.kind (length h.nest)) ts =
    λ v. elim v as (λ v. is_last t.kind ≡ v → Shallow (nested t.kind (length h.nest)) ts) [
      | true ↦ λ e. subst (λ (us : List Token). Shallow (nested t.kind (length h.nest)) us) (sym (are.1 e)) tt
      | false ↦ λ e. subst (λ n. Shallow n ts) (opened_is here t.kind) (text_shallow (behind here t) (drop (length t.text) rest) ts (are.2 e))
    ] in
    (λ e. token_shallow here rest (ap (λ (x : Token). x.kind) (sym are.0) ∙ e), cases (is_last t.kind) refl)

-- ---- fewer may be open, and what follows is so too

nested_less : (k : TokenKind) (m n : ℕ) → m ≤ n → nested k m ≤ nested k n
nested_less kinds.Open m n le = omega arith
nested_less kinds.Close zero zero le = omega arith
nested_less kinds.Close zero (suc n) le = omega arith
nested_less kinds.Close (suc m) zero le = absurd (omega arith)
nested_less kinds.Close (suc m) (suc n) le = omega arith
nested_less kinds.Equals m n le = le
nested_less kinds.Dash m n le = le
nested_less kinds.Word m n le = le
nested_less kinds.Variable m n le = le
nested_less kinds.Key m n le = le
nested_less kinds.Deep m n le = le
nested_less kinds.Byte m n le = le
nested_less kinds.End m n le = le

shallow_less : (m n : ℕ) (ts : List Token) → m ≤ n → Shallow n ts → Shallow m ts
shallow_less m n [] le is = tt
shallow_less m n (t ∷ ts) le is = (λ e. let below : n < 32 = is.0 e in omega arith, shallow_less (nested t.kind m) (nested t.kind n) ts (nested_less t.kind m n le) is.1)

pub shallow_behind : (n : ℕ) (used rest : List Token) → Shallow n (used ++ rest) → Shallow 0 rest
shallow_behind n [] rest is = shallow_less 0 n rest (omega arith) is
shallow_behind n (t ∷ used) rest is = shallow_behind (nested t.kind n) used rest is.1

pub takes_shallow : (n : ℕ) (kind : TokenKind) (ts : List Token) (t : Token) (rest : List Token) → Takes kind ts t rest → Shallow n ts → (kind ≡ kinds.Open → n < 32) × Shallow (nested kind n) rest
takes_shallow n kind ts t rest h is =
    let seen : Shallow n (t ∷ rest) = subst (Shallow n) h.0 is in
    (λ e. seen.0 (h.1 ∙ e), subst (λ k. Shallow (nested k n) rest) h.1 seen.1)

-- ---- atoms, conditions and effects end as deep as they begin

steps_keep : {S : Type 0} (X : S → List Token → S → List Token → Type 0) (I : List Token → Type 0) → ((s : S) (ts : List Token) (now : S) (rest : List Token) → X s ts now rest → I ts → I rest)
    → (k : ℕ) (s : S) (ts : List Token) (now : S) (rest : List Token) → Steps X k s ts now rest → I ts → I rest
steps_keep X I keep zero s ts now rest (is, at) i = subst I (sym at) i
steps_keep X I keep (suc k) s ts now rest (mid, us, one, others) i = steps_keep X I keep k mid us now rest others (keep s ts mid us one i)

term_shallow : (variables : Bool) (n : ℕ) (s : List Term) (ts : List Token) (now : List Term) (rest : List Token) → IsTerm variables s ts now rest → Shallow n ts → Shallow n rest
term_shallow variables n s ts now rest (name, cases) is =
    elim cases [
      | inl ((t, h, e), now_is) ↦ (takes_shallow n kinds.Word ts t rest h is).1
      | inr (allowed, (t, h, e), now_is) ↦ (takes_shallow n kinds.Variable ts t rest h is).1
    ]

atom_shallow : (variables : Bool) (n : ℕ) (ts rest : List Token) (atom : Atom) → IsAtom variables ts rest atom → Shallow (suc n) ts → Shallow n rest
atom_shallow variables n ts rest atom a is =
    let one = (takes_shallow (suc n) kinds.Word ts a.head.0.0 a.inside a.head.0.1 is).1 in
    let two = steps_keep (IsTerm variables) (Shallow (suc n)) (term_shallow variables (suc n)) a.terms.0 [] a.inside atom.terms a.last a.terms.1 one in
    (takes_shallow (suc n) kinds.Close a.last a.close.0 rest a.close.1 two).1

pub cond_shallow : (variables : Bool) (room n : ℕ) (said : List Atom) (ts : List Token) (now : List Atom) (rest : List Token) → IsCond variables room said ts now rest → Shallow n ts → Shallow n rest
cond_shallow variables zero n said ts now rest c is = absurd c
cond_shallow variables (suc room) n said ts now rest (inside, (o, opens), cases) is =
    let one : Shallow (suc n) inside = (takes_shallow n kinds.Open ts o inside opens is).1 in
    elim cases [
      | inl ((c, closes), e) ↦ (takes_shallow (suc n) kinds.Close inside c rest closes one).1
      | inr (inl (start, last, says, many, (c, closes))) ↦
          let two = (takes_shallow (suc n) kinds.Word inside says.0 start says.1 one).1 in
          let three = steps_keep (IsCond variables room) (Shallow (suc n)) (cond_shallow variables room (suc n)) many.0 said start now last many.1 two in
          (takes_shallow (suc n) kinds.Close last c rest closes three).1
      | inr (inr (atom, a, e)) ↦ atom_shallow variables n inside rest atom a one
    ]

-- from the increase or = on
cost_shallow : (kind : TokenKind) (text : List ℕ) (n : ℕ) (ts rest : List Token) (cost : Cost) → nested kind (suc n) ≡ suc n → IsCost kind text ts rest cost → Shallow (suc n) ts → Shallow n rest
cost_shallow kind text n ts rest cost level c is =
    let sign : Shallow (suc n) c.first = subst (λ k. Shallow k c.first) level (takes_shallow (suc n) kind ts c.sign.0 c.first c.sign.1 is).1 in
    let total = c.function in
    let inner = (takes_shallow (suc n) kinds.Open c.first total.2.0 total.0 total.2.1 sign).1 in
    let word = (takes_shallow (suc (suc n)) kinds.Word total.0 total.3.0 total.1 total.3.1 inner).1 in
    let close = (takes_shallow (suc (suc n)) kinds.Close total.1 total.4.0 c.second total.4.1 word).1 in
    let number = (takes_shallow (suc n) kinds.Word c.second c.number.0 c.last c.number.1 close).1 in
    (takes_shallow (suc n) kinds.Close c.last c.close.0 rest c.close.1 number).1

pub effect_shallow : (room n : ℕ) (said : EffectParts) (ts : List Token) (now : EffectParts) (rest : List Token) → IsEffect room said ts now rest → Shallow n ts → Shallow n rest
effect_shallow zero n said ts now rest c is = absurd c
effect_shallow (suc room) n said ts now rest (inside, (o, opens), cases) is =
    let one : Shallow (suc n) inside = (takes_shallow n kinds.Open ts o inside opens is).1 in
    elim cases [
      | inl ((c, closes), e) ↦ (takes_shallow (suc n) kinds.Close inside c rest closes one).1
      | inr (inl (start, last, says, many, (c, closes))) ↦
          let two = (takes_shallow (suc n) kinds.Word inside says.0 start says.1 one).1 in
          let three = steps_keep (IsEffect room) (Shallow (suc n)) (effect_shallow room (suc n)) many.0 said start now last many.1 two in
          (takes_shallow (suc n) kinds.Close last c rest closes three).1
      | inr (inr (inl (start, behind, last, atom, says, (p, inner), a, (c, closes), e))) ↦
          let two = (takes_shallow (suc n) kinds.Word inside says.0 start says.1 one).1 in
          let three : Shallow (suc (suc n)) behind = (takes_shallow (suc n) kinds.Open start p behind inner two).1 in
          (takes_shallow (suc n) kinds.Close last c rest closes (atom_shallow true (suc n) behind last atom a three)).1
      | inr (inr (inr (inl (cost, c, e)))) ↦ cost_shallow kinds.Word (codes "increase") n inside rest cost refl c one
      | inr (inr (inr (inr (atom, a, e)))) ↦ atom_shallow true n inside rest atom a one
    ]

-- ---- two steps that agree where something holds, which they keep

module _ {S : Type 0} (more : List Token → Bool) (one two : S → List Token → Read S) (I : List Token → Type 0)
    (keep : (s : S) (ts : List Token) (now : S) (rest : List Token) → more ts ≡ true → I ts → one s ts ≡ Ok (now, rest) → I rest) (agree : (s : S) (ts : List Token) → more ts ≡ true → I ts → one s ts ≡ two s ts) where
  pub folds_agree : (n : ℕ) (s : S) (ts : List Token) → I ts → folds more one n s ts ≡ folds more two n s ts
  unfolding folds
  folds_agree zero s ts i = refl
  folds_agree (suc n) s ts i =
      let rest_same : (r : Read S) → more ts ≡ true → one s ts ≡ r → (r >>= λ next. folds more one n next.0 next.1) ≡ (r >>= λ next. folds more two n next.0 next.1) =
      λ r. elim r as (λ r. more ts ≡ true → one s ts ≡ r → (r >>= λ next. folds more one n next.0 next.1) ≡ (r >>= λ next. folds more two n next.0 next.1)) [
        | Ok p ↦ λ goes e. folds_agree n p.0 p.1 (keep s ts p.0 p.1 goes i e)
        | Err e ↦ λ goes is. refl
      ] in
      let cases : (v : Bool) → more ts ≡ v → cond v (one s ts >>= λ next. folds more one n next.0 next.1) (Ok (s, ts)) ≡ cond v (two s ts >>= λ next. folds more two n next.0 next.1) (Ok (s, ts)) =
      λ v. elim v as (λ v. more ts ≡ v → cond v (one s ts >>= λ next. folds more one n next.0 next.1) (Ok (s, ts)) ≡ cond v (two s ts >>= λ next. folds more two n next.0 next.1) (Ok (s, ts))) [
        | true ↦ λ goes. rest_same (one s ts) goes refl ∙ ap (λ (r : Read S). r >>= λ next. folds more two n next.0 next.1) (agree s ts goes i)
        | false ↦ λ stops. refl
      ] in
      cases (more ts) refl

  pub all_agree : (s : S) (ts : List Token) → I ts → all_of more one s ts ≡ all_of more two s ts
  unfolding all_of
  all_agree s ts i = folds_agree (length ts) s ts i
