-- Pieces one after another, as a loop reads them.
use Rattle.std.proofs.Common.{◌≡◌, ◌≢◌, ℕ, zero, suc, ◌+◌, ◌-◌, ◌<◌, ◌≤◌, Bool, true, false, cond, List, length, Ok, Err, refl, sym, ap, ◌∙◌, arith}
use Rattle.pb_pddl.specs.declared.token.Token.{Token}
use Rattle.pb_pddl.specs.declared.error.SyntaxError.{SyntaxError}
use Rattle.pb_pddl.specs.declared.error.SyntaxError.TheVariants as errors
use Rattle.pb_pddl.specs.Reading.{◌>>=◌, Read, folds, all_of}

module _ {S : Type 0} (more : List Token → Bool) (step : S → List Token → Read S) where
  one_more : (n : ℕ) (s : S) (ts : List Token) → more ts ≡ true → folds more step (suc n) s ts ≡ (step s ts >>= λ next. folds more step n next.0 next.1)
  unfolding folds
  one_more n s ts e = ap (λ b. cond b (step s ts >>= λ next. folds more step n next.0 next.1) (Ok (s, ts))) e

  no_more : (n : ℕ) (s : S) (ts : List Token) → more ts ≡ false → folds more step n s ts ≡ Ok (s, ts)
  unfolding folds
  no_more zero s ts e = refl
  no_more (suc n) s ts e = ap (λ b. cond b (step s ts >>= λ next. folds more step n next.0 next.1) (Ok (s, ts))) e

  none_left : (s : S) (ts : List Token) → folds more step 0 s ts ≡ Ok (s, ts)
  unfolding folds
  none_left s ts = refl

  pub goes_on : (count i : ℕ) (s next : S) (ts rest : List Token) (total : Read S) → i < count → more ts ≡ true → step s ts ≡ Ok (next, rest)
      → folds more step (count - i) s ts ≡ total → folds more step (count - (i + 1)) next rest ≡ total
  goes_on count i s next ts rest total lt m h so_far =
      let k : count - i ≡ suc (count - (i + 1)) = omega arith in
      let one : folds more step (count - i) s ts ≡ folds more step (count - (i + 1)) next rest =
      ap (λ n. folds more step n s ts) k ∙ one_more (count - (i + 1)) s ts m ∙ ap (λ (r : Read S). r >>= λ x. folds more step (count - (i + 1)) x.0 x.1) h in
      sym one ∙ so_far

  pub ends : (e : SyntaxError) (count i : ℕ) (s : S) (ts : List Token) (total : Read S) → i < count → more ts ≡ true → (e ≢ errors.Memory → step s ts ≡ Err e)
      → folds more step (count - i) s ts ≡ total → e ≢ errors.Memory → total ≡ Err e
  ends e count i s ts total lt m h so_far some =
      let k : count - i ≡ suc (count - (i + 1)) = omega arith in
      sym so_far ∙ ap (λ n. folds more step n s ts) k ∙ one_more (count - (i + 1)) s ts m ∙ ap (λ (r : Read S). r >>= λ x. folds more step (count - (i + 1)) x.0 x.1) (h some)

  pub stops : (n : ℕ) (s : S) (ts : List Token) (total : Read S) → more ts ≡ false → folds more step n s ts ≡ total → total ≡ Ok (s, ts)
  stops n s ts total m so_far = sym so_far ∙ no_more n s ts m

  pub is_done : (count i : ℕ) (s : S) (ts : List Token) (total : Read S) → count ≤ i → folds more step (count - i) s ts ≡ total → total ≡ Ok (s, ts)
  is_done count i s ts total le so_far =
      let k : count - i ≡ 0 = omega arith in
      sym so_far ∙ ap (λ n. folds more step n s ts) k ∙ none_left s ts

  pub at_first : (s : S) (ts : List Token) → folds more step (length ts - 0) s ts ≡ all_of more step s ts
  unfolding all_of
  at_first s ts = let k : length ts - 0 ≡ length ts = omega arith in ap (λ n. folds more step n s ts) k
