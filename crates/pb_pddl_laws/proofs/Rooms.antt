-- Where there is room enough, how much there is does not change how a condition or an effect is read.
use Rattle.std.proofs.Common.{◌≡◌, ℕ, zero, suc, ◌+◌, ◌<◌, ◌≤◌, Bool, true, false, cond, List, ◌∷◌, length, drop, Ok, Err, refl, sym, ap, ◌∙◌, arith, ◌⊎◌, inl, inr}
use Rattle.std.specs.Prelude.{codes}
use Rattle.pb_pddl.specs.declared.token.TokenKind.TheVariants as kinds
use Rattle.pb_pddl.specs.declared.token.Token.{Token}
use Rattle.pb_pddl.specs.declared.tree.Atom.{Atom}
use Rattle.pb_pddl.specs.declared.parts.EffectParts.{EffectParts}
use Rattle.pb_pddl.specs.declared.error.Want.TheVariants as wants
use Rattle.pb_pddl.specs.Reading.{◌>>=◌, Read, front, begins, spells, need, fault_at, all_of, begins_open, add_atom, cond_at, conds_at, add_literal, add_increase, negative_at, effect_at, effects_at}
use Rattle.pb_pddl_laws.proofs.Singles.{begins_takes, takes_less, open_token, word_token, spells_says}
use Rattle.pb_pddl_laws.proofs.ActionsRead.{cond_is, cond_less, effect_is}
use Rattle.pb_pddl_laws.proofs.EffectsRead.{effect_complete}
use Rattle.pb_pddl_laws.proofs.Nesting.{Shallow, takes_shallow, cond_shallow, effect_shallow, all_agree}

-- room enough for a form that begins here, inside n others: for all that may be inside one another, or for each token
abbrev pub Enough : ℕ → ℕ → List Token → Type 0
Enough room n ts = ((32 ≤ n + room) × Shallow n ts) ⊎ (length ts ≤ room)

open_fits : (n : ℕ) (ts : List Token) → begins_open ts ≡ true → Shallow n ts → n < 32
open_fits n ts opens is = (takes_shallow n kinds.Open ts (front ts) (drop 1 ts) (begins_takes kinds.Open ts open_token opens) is).0 refl

some_tokens : (ts : List Token) → begins_open ts ≡ true → 0 < length ts
some_tokens ts opens = let less : length (drop 1 ts) < length ts = takes_less kinds.Open ts (front ts) (drop 1 ts) (begins_takes kinds.Open ts open_token opens) in omega arith

-- with no room left, no ( stands here
no_room : (n : ℕ) (ts : List Token) → Enough 0 n ts → begins_open ts ≡ false
no_room n ts enough =
    let cases : (v : Bool) → begins_open ts ≡ v → begins_open ts ≡ false = λ v. elim v as (λ v. begins_open ts ≡ v → begins_open ts ≡ false) [
      | true ↦ λ opens. elim enough [
        | inl (le, is) ↦ let below : n < 32 = open_fits n ts opens is in absurd (omega arith)
        | inr le ↦ let some : 0 < length ts = some_tokens ts opens in absurd (omega arith)
      ]
      | false ↦ λ e. e
    ] in
    cases (begins_open ts) refl

-- behind ( and a word
enough_inside : (room n : ℕ) (text : List ℕ) (ts : List Token) → begins_open ts ≡ true → spells kinds.Word text (drop 1 ts) ≡ true → Enough (suc room) n ts → Enough room (suc n) (drop 1 (drop 1 ts))
enough_inside room n text ts opens says enough =
    let open_takes = begins_takes kinds.Open ts open_token opens in
    let said = spells_says kinds.Word text (drop 1 ts) word_token says in
    elim enough [
      | inl (le, is) ↦
          let one = (takes_shallow n kinds.Open ts (front ts) (drop 1 ts) open_takes is).1 in
          inl (omega arith, (takes_shallow (suc n) kinds.Word (drop 1 ts) said.0 (drop 1 (drop 1 ts)) said.1 one).1)
      | inr le ↦
          let one : length (drop 1 ts) < length ts = takes_less kinds.Open ts (front ts) (drop 1 ts) open_takes in
          let two : length (drop 1 (drop 1 ts)) < length (drop 1 ts) = takes_less kinds.Word (drop 1 ts) said.0 (drop 1 (drop 1 ts)) said.1 in
          inr (omega arith)
    ]

-- a case that counts only where the test holds
in_true : {A : Type 0} (b : Bool) (x y z : A) → (b ≡ true → x ≡ y) → cond b x z ≡ cond b y z
in_true true x y z e = e refl
in_true false x y z e = refl

in_false : {A : Type 0} (b : Bool) (x y z : A) → (b ≡ false → x ≡ y) → cond b z x ≡ cond b z y
in_false true x y z e = refl
in_false false x y z e = e refl

-- ---- conditions

module _ (variables : Bool) where
  -- behind the ( of a condition, where one reads those inside
  abbrev pub cond_inside : (List Atom → List Token → Read (List Atom)) → List Atom → List Token → Read (List Atom)
  cond_inside one said inside =
      cond (begins kinds.Close inside) (Ok (said, drop 1 inside)) (cond (spells kinds.Word (codes "and") inside) (conds_at variables one said (drop 1 inside)) (add_atom variables said inside))

  cond_open : (room : ℕ) (said : List Atom) (ts : List Token) → begins_open ts ≡ true → cond_at variables (suc room) said ts ≡ cond_inside (cond_at variables room) said (drop 1 ts)
  unfolding cond_at need
  cond_open room said ts opens = ap (λ b. cond b (Ok (drop 1 ts)) (Err (fault_at wants.Paren ts)) >>= λ inside. cond_inside (cond_at variables room) said inside) opens

  cond_shut : (room : ℕ) (said : List Atom) (ts : List Token) → begins_open ts ≡ false → cond_at variables room said ts ≡ Err (fault_at wants.Paren ts)
  unfolding cond_at need
  cond_shut zero said ts shut = refl
  cond_shut (suc room) said ts shut = ap (λ b. cond b (Ok (drop 1 ts)) (Err (fault_at wants.Paren ts)) >>= λ inside. cond_inside (cond_at variables room) said inside) shut

  conds_agree : (one two : List Atom → List Token → Read (List Atom)) (said : List Atom) (ts : List Token) → all_of begins_open one said ts ≡ all_of begins_open two said ts → conds_at variables one said ts ≡ conds_at variables two said ts
  unfolding conds_at
  conds_agree one two said ts e = ap (λ (r : Read (List Atom)). r >>= λ all. need kinds.Close wants.Paren all.1 >>= λ rest. Ok (all.0, rest)) e

  enough_behind : (room more n : ℕ) (said : List Atom) (ts : List Token) (now : List Atom) (rest : List Token) → cond_at variables room said ts ≡ Ok (now, rest) → Enough more n ts → Enough more n rest
  enough_behind room more n said ts now rest e enough =
      let is = cond_is variables room said ts now rest e in
      elim enough [
        | inl (le, shallow) ↦ inl (le, cond_shallow variables room n said ts now rest is shallow)
        | inr le ↦ let less : length rest < length ts = cond_less variables room said ts now rest is in inr (omega arith)
      ]

  pub cond_agree : (one two n : ℕ) (said : List Atom) (ts : List Token) → Enough one n ts → Enough two n ts → cond_at variables one said ts ≡ cond_at variables two said ts
  cond_agree zero two n said ts first second = let shut = no_room n ts first in cond_shut zero said ts shut ∙ sym (cond_shut two said ts shut)
  cond_agree (suc one) zero n said ts first second = let shut = no_room n ts second in cond_shut (suc one) said ts shut ∙ sym (cond_shut zero said ts shut)
  cond_agree (suc one) (suc two) n said ts first second =
      let cases : (v : Bool) → begins_open ts ≡ v → cond_at variables (suc one) said ts ≡ cond_at variables (suc two) said ts =
      λ v. elim v as (λ v. begins_open ts ≡ v → cond_at variables (suc one) said ts ≡ cond_at variables (suc two) said ts) [
        | true ↦ λ opens.
            cond_open one said ts opens
            ∙ in_false (begins kinds.Close (drop 1 ts)) _ _ (Ok (said, drop 1 (drop 1 ts))) (λ _.
            in_true (spells kinds.Word (codes "and") (drop 1 ts)) (conds_at variables (cond_at variables one) said (drop 1 (drop 1 ts))) (conds_at variables (cond_at variables two) said (drop 1 (drop 1 ts))) (add_atom variables said (drop 1 ts)) (λ says.
            conds_agree (cond_at variables one) (cond_at variables two) said (drop 1 (drop 1 ts))
            (all_agree begins_open (cond_at variables one) (cond_at variables two) (λ us. Enough one (suc n) us × Enough two (suc n) us)
            (λ s us now rest goes i e. (enough_behind one one (suc n) s us now rest e i.0, enough_behind one two (suc n) s us now rest e i.1))
            (λ s us goes i. cond_agree one two (suc n) s us i.0 i.1)
            said (drop 1 (drop 1 ts)) (enough_inside one n (codes "and") ts opens says first, enough_inside two n (codes "and") ts opens says second))))
            ∙ sym (cond_open two said ts opens)
        | false ↦ λ shut. cond_shut (suc one) said ts shut ∙ sym (cond_shut (suc two) said ts shut)
      ] in
      cases (begins_open ts) refl

  -- with room for each token
  abbrev pub any_cond : List Atom → List Token → Read (List Atom)
  any_cond said ts = cond_at variables (length ts) said ts

  pub any_cond_shut : (said : List Atom) (ts : List Token) → begins_open ts ≡ false → any_cond said ts ≡ Err (fault_at wants.Paren ts)
  any_cond_shut said ts shut = cond_shut (length ts) said ts shut

  pub any_cond_open : (said : List Atom) (t : Token) (us : List Token) → begins_open (t ∷ us) ≡ true → any_cond said (t ∷ us) ≡ cond_inside any_cond said us
  any_cond_open said t us opens =
      cond_open (length us) said (t ∷ us) opens
      ∙ in_false (begins kinds.Close us) _ _ (Ok (said, drop 1 us)) (λ _.
      in_true (spells kinds.Word (codes "and") us) (conds_at variables (cond_at variables (length us)) said (drop 1 us)) (conds_at variables any_cond said (drop 1 us)) (add_atom variables said us) (λ says.
      conds_agree (cond_at variables (length us)) any_cond said (drop 1 us)
      (all_agree begins_open (cond_at variables (length us)) any_cond (λ ws. length ws ≤ length us)
      (λ s ws now rest goes few e. let less : length rest < length ws = cond_less variables (length us) s ws now rest (cond_is variables (length us) s ws now rest e) in omega arith)
      (λ s ws goes few. cond_agree (length us) (length ws) 0 s ws (inr few) (inr (omega arith)))
      said (drop 1 us)
      (let said_and = spells_says kinds.Word (codes "and") us word_token says in let less : length (drop 1 us) < length us = takes_less kinds.Word us said_and.0 (drop 1 us) said_and.1 in omega arith))))

-- ---- effects

pub effect_less : (room : ℕ) (said : EffectParts) (ts : List Token) (now : EffectParts) (rest : List Token) → effect_at room said ts ≡ Ok (now, rest) → length rest < length ts
effect_less room said ts now rest e = (effect_complete room said ts now rest (effect_is room said ts now rest e)).2

-- behind the ( of an effect, where one reads those inside
abbrev pub effect_inside : (EffectParts → List Token → Read EffectParts) → EffectParts → List Token → Read EffectParts
effect_inside one said inside =
    cond (begins kinds.Close inside) (Ok (said, drop 1 inside))
    (cond (spells kinds.Word (codes "and") inside) (effects_at one said (drop 1 inside)) (cond (spells kinds.Word (codes "not") inside) (negative_at said (drop 1 inside))
    (cond (spells kinds.Word (codes "increase") inside) (add_increase said inside) (add_literal false said inside))))

effect_open : (room : ℕ) (said : EffectParts) (ts : List Token) → begins_open ts ≡ true → effect_at (suc room) said ts ≡ effect_inside (effect_at room) said (drop 1 ts)
unfolding effect_at need
effect_open room said ts opens = ap (λ b. cond b (Ok (drop 1 ts)) (Err (fault_at wants.Paren ts)) >>= λ inside. effect_inside (effect_at room) said inside) opens

effect_shut : (room : ℕ) (said : EffectParts) (ts : List Token) → begins_open ts ≡ false → effect_at room said ts ≡ Err (fault_at wants.Paren ts)
unfolding effect_at need
effect_shut zero said ts shut = refl
effect_shut (suc room) said ts shut = ap (λ b. cond b (Ok (drop 1 ts)) (Err (fault_at wants.Paren ts)) >>= λ inside. effect_inside (effect_at room) said inside) shut

effects_agree : (one two : EffectParts → List Token → Read EffectParts) (said : EffectParts) (ts : List Token) → all_of begins_open one said ts ≡ all_of begins_open two said ts → effects_at one said ts ≡ effects_at two said ts
unfolding effects_at
effects_agree one two said ts e = ap (λ (r : Read EffectParts). r >>= λ all. need kinds.Close wants.Paren all.1 >>= λ rest. Ok (all.0, rest)) e

effect_enough : (room more n : ℕ) (said : EffectParts) (ts : List Token) (now : EffectParts) (rest : List Token) → effect_at room said ts ≡ Ok (now, rest) → Enough more n ts → Enough more n rest
effect_enough room more n said ts now rest e enough =
    let is = effect_is room said ts now rest e in
    elim enough [
      | inl (le, shallow) ↦ inl (le, effect_shallow room n said ts now rest is shallow)
      | inr le ↦ let less : length rest < length ts = effect_less room said ts now rest e in inr (omega arith)
    ]

pub effect_agree : (one two n : ℕ) (said : EffectParts) (ts : List Token) → Enough one n ts → Enough two n ts → effect_at one said ts ≡ effect_at two said ts
effect_agree zero two n said ts first second = let shut = no_room n ts first in effect_shut zero said ts shut ∙ sym (effect_shut two said ts shut)
effect_agree (suc one) zero n said ts first second = let shut = no_room n ts second in effect_shut (suc one) said ts shut ∙ sym (effect_shut zero said ts shut)
effect_agree (suc one) (suc two) n said ts first second =
    let cases : (v : Bool) → begins_open ts ≡ v → effect_at (suc one) said ts ≡ effect_at (suc two) said ts =
    λ v. elim v as (λ v. begins_open ts ≡ v → effect_at (suc one) said ts ≡ effect_at (suc two) said ts) [
      | true ↦ λ opens.
          effect_open one said ts opens
          ∙ in_false (begins kinds.Close (drop 1 ts)) _ _ (Ok (said, drop 1 (drop 1 ts))) (λ _.
          in_true (spells kinds.Word (codes "and") (drop 1 ts)) (effects_at (effect_at one) said (drop 1 (drop 1 ts))) (effects_at (effect_at two) said (drop 1 (drop 1 ts))) _ (λ says.
          effects_agree (effect_at one) (effect_at two) said (drop 1 (drop 1 ts))
          (all_agree begins_open (effect_at one) (effect_at two) (λ us. Enough one (suc n) us × Enough two (suc n) us)
          (λ s us now rest goes i e. (effect_enough one one (suc n) s us now rest e i.0, effect_enough one two (suc n) s us now rest e i.1))
          (λ s us goes i. effect_agree one two (suc n) s us i.0 i.1)
          said (drop 1 (drop 1 ts)) (enough_inside one n (codes "and") ts opens says first, enough_inside two n (codes "and") ts opens says second))))
          ∙ sym (effect_open two said ts opens)
      | false ↦ λ shut. effect_shut (suc one) said ts shut ∙ sym (effect_shut (suc two) said ts shut)
    ] in
    cases (begins_open ts) refl

-- with room for each token
abbrev pub any_effect : EffectParts → List Token → Read EffectParts
any_effect said ts = effect_at (length ts) said ts

pub any_effect_shut : (said : EffectParts) (ts : List Token) → begins_open ts ≡ false → any_effect said ts ≡ Err (fault_at wants.Paren ts)
any_effect_shut said ts shut = effect_shut (length ts) said ts shut

pub any_effect_open : (said : EffectParts) (t : Token) (us : List Token) → begins_open (t ∷ us) ≡ true → any_effect said (t ∷ us) ≡ effect_inside any_effect said us
any_effect_open said t us opens =
    effect_open (length us) said (t ∷ us) opens
    ∙ in_false (begins kinds.Close us) _ _ (Ok (said, drop 1 us)) (λ _.
    in_true (spells kinds.Word (codes "and") us) (effects_at (effect_at (length us)) said (drop 1 us)) (effects_at any_effect said (drop 1 us)) _ (λ says.
    effects_agree (effect_at (length us)) any_effect said (drop 1 us)
    (all_agree begins_open (effect_at (length us)) any_effect (λ ws. length ws ≤ length us)
    (λ s ws now rest goes few e. let less : length rest < length ws = effect_less (length us) s ws now rest e in omega arith)
    (λ s ws goes few. effect_agree (length us) (length ws) 0 s ws (inr few) (inr (omega arith)))
    said (drop 1 us)
    (let said_and = spells_says kinds.Word (codes "and") us word_token says in let less : length (drop 1 us) < length us = takes_less kinds.Word us said_and.0 (drop 1 us) said_and.1 in omega arith))))
