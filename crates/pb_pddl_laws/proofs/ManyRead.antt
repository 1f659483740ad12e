-- Many pieces, one after another: what is read is what the grammar has, and the other way round.
use Rattle.std.proofs.Common.{◌≡◌, ℕ, zero, suc, ◌<◌, ◌≤◌, Bool, true, false, cond, List, length, Ok, refl, sym, ap, ◌∙◌, arith}
use Rattle.pb_pddl.specs.declared.token.Token.{Token}
use Rattle.pb_pddl.specs.Reading.{◌>>=◌, Read, folds, all_of}
use Rattle.pb_pddl.specs.Grammar.{Steps, Many}
use Rattle.pb_pddl_laws.proofs.Singles.{ok_pair, bind_ok}

-- what is read as a piece is one
abbrev pub IsSound : {S : Type 0} → (List Token → Bool) → (S → List Token → Read S) → (S → List Token → S → List Token → Type 0) → Type 0
IsSound {S} more step X = (s : S) (ts : List Token) (now : S) (rest : List Token) → more ts ≡ true → step s ts ≡ Ok (now, rest) → X s ts now rest

-- a piece is read, and takes a token at least
abbrev pub IsComplete : {S : Type 0} → (List Token → Bool) → (S → List Token → Read S) → (S → List Token → S → List Token → Type 0) → Type 0
IsComplete {S} more step X = (s : S) (ts : List Token) (now : S) (rest : List Token) → X s ts now rest → (more ts ≡ true) × (step s ts ≡ Ok (now, rest)) × (length rest < length ts)

module _ {S : Type 0} (more : List Token → Bool) (step : S → List Token → Read S) (X : S → List Token → S → List Token → Type 0) where
  pub folds_sound : (n : ℕ) (s : S) (ts : List Token) (now : S) (rest : List Token) → IsSound more step X → folds more step n s ts ≡ Ok (now, rest) → Many X s ts now rest
  unfolding folds
  folds_sound zero s ts now rest sound e = let p = ok_pair s now ts rest e in (0, (sym p.0, sym p.1))
  folds_sound (suc n) s ts now rest sound e =
      let b : Bool = more ts in
      let cases : (v : Bool) → more ts ≡ v → cond v (step s ts >>= λ next. folds more step n next.0 next.1) (Ok (s, ts)) ≡ Ok (now, rest) → Many X s ts now rest =
      λ v. elim v as (λ v. more ts ≡ v → cond v (step s ts >>= λ next. folds more step n next.0 next.1) (Ok (s, ts)) ≡ Ok (now, rest) → Many X s ts now rest) [
        | true ↦ λ m h.
            let o = bind_ok (step s ts) (λ next. folds more step n next.0 next.1) (now, rest) h in
            let others = folds_sound n o.0.0 o.0.1 now rest sound o.2 in
            (suc others.0, (o.0.0, o.0.1, sound s ts o.0.0 o.0.1 m o.1, others.1))
        | false ↦ λ m h. let p = ok_pair s now ts rest h in (0, (sym p.0, sym p.1))
      ] in
      cases b refl e

  pub folds_complete : (k n : ℕ) (s : S) (ts : List Token) (now : S) (rest : List Token) → IsComplete more step X → more rest ≡ false → length ts ≤ n → Steps X k s ts now rest → folds more step n s ts ≡ Ok (now, rest)
  unfolding folds
  folds_complete zero zero s ts now rest complete stop le (is, at) = ap (λ (x : S). Ok (x, ts)) (sym is) ∙ ap (λ (r : List Token). Ok (now, r)) (sym at)
  folds_complete zero (suc n) s ts now rest complete stop le (is, at) =
      ap (λ b. cond b (step s ts >>= λ next. folds more step n next.0 next.1) (Ok (s, ts))) (ap more (sym at) ∙ stop) ∙ ap (λ (x : S). Ok (x, ts)) (sym is) ∙ ap (λ (r : List Token). Ok (now, r)) (sym at)
  folds_complete (suc k) zero s ts now rest complete stop le (mid, us, one, others) = let c = complete s ts mid us one in absurd (omega (arith, c.2))
  folds_complete (suc k) (suc n) s ts now rest complete stop le (mid, us, one, others) =
      let c = complete s ts mid us one in
      ap (λ b. cond b (step s ts >>= λ next. folds more step n next.0 next.1) (Ok (s, ts))) c.0 ∙ ap (λ r. r >>= λ next. folds more step n next.0 next.1) c.1
      ∙ folds_complete k n mid us now rest complete stop (omega (arith, c.2)) others

  pub all_sound : (s : S) (ts : List Token) (now : S) (rest : List Token) → IsSound more step X → all_of more step s ts ≡ Ok (now, rest) → Many X s ts now rest
  unfolding all_of
  all_sound s ts now rest sound e = folds_sound (length ts) s ts now rest sound e

  pub all_complete : (s : S) (ts : List Token) (now : S) (rest : List Token) → IsComplete more step X → more rest ≡ false → Many X s ts now rest → all_of more step s ts ≡ Ok (now, rest)
  unfolding all_of
  all_complete s ts now rest complete stop (k, steps) = folds_complete k (length ts) s ts now rest complete stop (omega arith) steps

  pub steps_less : (k : ℕ) (s : S) (ts : List Token) (now : S) (rest : List Token) → IsComplete more step X → Steps X k s ts now rest → length rest ≤ length ts
  steps_less zero s ts now rest complete (is, at) = let e : length rest ≡ length ts = ap length at in omega (arith, e)
  steps_less (suc k) s ts now rest complete (mid, us, one, others) =
      let c = complete s ts mid us one in
      let h : length rest ≤ length us = steps_less k mid us now rest complete others in
      omega (arith, h, c.2)
