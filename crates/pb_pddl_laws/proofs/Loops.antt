-- Loops over pieces, and what is read behind the last.
use Rattle.std.proofs.Common.{◌≡◌, ℕ, zero, suc, ◌<◌, ◌≤◌, Bool, true, false, cond, List, [], ◌∷◌, length, Ok, Err, refl, sym, ap, ◌∙◌, arith, true≢false}
use Rattle.pb_pddl.specs.declared.token.Token.{Token}
use Rattle.pb_pddl.specs.Reading.{◌>>=◌, Read, front, no_token, folds, all_of}
use Rattle.pb_pddl.specs.Places.{Place, fits, refused}
use Rattle.pb_pddl_laws.proofs.Readers.{Reads, Can, reads_tokens, reads_same, reads_then, can_same, can_then, then_read}
use Rattle.pb_pddl_laws.proofs.Singles.{bind_bind}

-- a step takes a token at least
abbrev pub Takes : {S : Type 0} → (List Token → Bool) → (S → List Token → Read S) → Type 0
Takes {S} more step = (s : S) (ts : List Token) (now : S) (rest : List Token) → more ts ≡ true → step s ts ≡ Ok (now, rest) → length rest < length ts

module _ {S : Type 0} (more : List Token → Bool) (step : S → List Token → Read S) (none : more [] ≡ false) (takes : Takes more step) where
  -- more tries than tokens change nothing
  pub folds_fuel : (n m : ℕ) (s : S) (ts : List Token) → length ts ≤ n → length ts ≤ m → folds more step n s ts ≡ folds more step m s ts
  unfolding folds
  folds_fuel zero zero s ts few less = refl
  folds_fuel zero (suc m) s [] few less = sym (ap (λ b. cond b (step s [] >>= λ next. folds more step m next.0 next.1) (Ok (s, []))) none)
  folds_fuel zero (suc m) s (t ∷ ts) few less = absurd (omega arith)
  folds_fuel (suc n) zero s [] few less = ap (λ b. cond b (step s [] >>= λ next. folds more step n next.0 next.1) (Ok (s, []))) none
  folds_fuel (suc n) zero s (t ∷ ts) few less = absurd (omega arith)
  folds_fuel (suc n) (suc m) s ts few less =
      let step_same : (r : Read S) → more ts ≡ true → step s ts ≡ r → (r >>= λ next. folds more step n next.0 next.1) ≡ (r >>= λ next. folds more step m next.0 next.1) =
      λ r. elim r as (λ r. more ts ≡ true → step s ts ≡ r → (r >>= λ next. folds more step n next.0 next.1) ≡ (r >>= λ next. folds more step m next.0 next.1)) [
        | Ok p ↦ λ goes e. let shorter : length p.1 < length ts = takes s ts p.0 p.1 goes e in folds_fuel n m p.0 p.1 (omega arith) (omega arith)
        | Err e ↦ λ goes is. refl
      ] in
      let cases : (v : Bool) → more ts ≡ v → cond v (step s ts >>= λ next. folds more step n next.0 next.1) (Ok (s, ts)) ≡ cond v (step s ts >>= λ next. folds more step m next.0 next.1) (Ok (s, ts)) =
      λ v. elim v as (λ v. more ts ≡ v → cond v (step s ts >>= λ next. folds more step n next.0 next.1) (Ok (s, ts)) ≡ cond v (step s ts >>= λ next. folds more step m next.0 next.1) (Ok (s, ts))) [
        | true ↦ λ goes. step_same (step s ts) goes refl
        | false ↦ λ stops. refl
      ] in
      cases (more ts) refl

  pub all_more : (s : S) (ts : List Token) → more ts ≡ true → all_of more step s ts ≡ (step s ts >>= λ next. all_of more step next.0 next.1)
  unfolding all_of folds
  all_more s ts goes =
      let step_same : (r : Read S) → step s ts ≡ r → (r >>= λ next. folds more step (length ts) next.0 next.1) ≡ (r >>= λ next. all_of more step next.0 next.1) =
      λ r. elim r as (λ r. step s ts ≡ r → (r >>= λ next. folds more step (length ts) next.0 next.1) ≡ (r >>= λ next. all_of more step next.0 next.1)) [
        | Ok p ↦ λ e. let shorter : length p.1 < length ts = takes s ts p.0 p.1 goes e in folds_fuel (length ts) (length p.1) p.0 p.1 (omega arith) (omega arith)
        | Err e ↦ λ is. refl
      ] in
      folds_fuel (length ts) (suc (length ts)) s ts (omega arith) (omega arith)
      ∙ ap (λ b. cond b (step s ts >>= λ next. folds more step (length ts) next.0 next.1) (Ok (s, ts))) goes
      ∙ step_same (step s ts) refl

  pub all_stop : (s : S) (ts : List Token) → more ts ≡ false → all_of more step s ts ≡ Ok (s, ts)
  unfolding all_of folds
  all_stop s ts stops =
      folds_fuel (length ts) (suc (length ts)) s ts (omega arith) (omega arith) ∙ ap (λ b. cond b (step s ts >>= λ next. folds more step (length ts) next.0 next.1) (Ok (s, ts))) stops

-- the pieces, and then what is read behind the last
abbrev pub loop : {S Y : Type 0} → (List Token → Bool) → (S → List Token → Read S) → (S → List Token → Read Y) → S → List Token → Read Y
loop more step ends s ts = all_of more step s ts >>= λ all. ends all.0 all.1

module _ {S Y : Type 0} (more : List Token → Bool) (step : S → List Token → Read S) (ends : S → List Token → Read Y) (none : more [] ≡ false) (takes : Takes more step) where
  pub loop_more : (s : S) (ts : List Token) → more ts ≡ true → loop more step ends s ts ≡ (step s ts >>= λ next. loop more step ends next.0 next.1)
  loop_more s ts goes =
      ap (λ r. r >>= λ all. ends all.0 all.1) (all_more more step none takes s ts goes) ∙ bind_bind (step s ts) (λ next. all_of more step next.0 next.1) (λ all. ends all.0 all.1)

  pub loop_stop : (s : S) (ts : List Token) → more ts ≡ false → loop more step ends s ts ≡ ends s ts
  loop_stop s ts stops = ap (λ r. r >>= λ all. ends all.0 all.1) (all_stop more step none takes s ts stops)

  module _ (test : Token → Bool) (place : S → Place) (more_is : (ts : List Token) → more ts ≡ test (front ts))
      (refuse_step : (s : S) (t : Token) (us : List Token) → test t ≡ true → fits (place s) t ≡ false → step s (t ∷ us) ≡ Err (refused (place s) t))
      (refuse_end : (s : S) (ts : List Token) → test (front ts) ≡ false → fits (place s) (front ts) ≡ false → ends s ts ≡ Err (refused (place s) (front ts))) where
    refuse_more : (s : S) (ts : List Token) → more ts ≡ true → fits (place s) (front ts) ≡ false → loop more step ends s ts ≡ Err (refused (place s) (front ts))
    unfolding front
    refuse_more s [] goes misfit = absurd (true≢false (sym goes ∙ none))
    refuse_more s (t ∷ us) goes misfit = loop_more s (t ∷ us) goes ∙ ap (λ r. r >>= λ next. loop more step ends next.0 next.1) (refuse_step s t us (sym (more_is (t ∷ us)) ∙ goes) misfit)

    refuse_at : (s : S) (ts : List Token) (v : Bool) → more ts ≡ v → fits (place s) (front ts) ≡ false → loop more step ends s ts ≡ Err (refused (place s) (front ts))
    refuse_at s ts true goes misfit = refuse_more s ts goes misfit
    refuse_at s ts false stops misfit = loop_stop s ts stops ∙ refuse_end s ts (sym (more_is ts) ∙ stops) misfit

    pub refuse_loop : (s : S) (ts : List Token) → fits (place s) (front ts) ≡ false → loop more step ends s ts ≡ Err (refused (place s) (front ts))
    refuse_loop s ts misfit = refuse_at s ts (more ts) refl misfit

    pub more_front : (t : Token) (us : List Token) (v : Bool) → test t ≡ v → more (t ∷ us) ≡ v
    unfolding front
    more_front t us v e = more_is (t ∷ us) ∙ e

module _ {S Y : Type 0} (more : List Token → Bool) (step : S → List Token → Read S) (ends : S → List Token → Read Y) (test : Token → Bool) (place : S → Place)
    (more_is : (ts : List Token) → more ts ≡ test (front ts)) (none : more [] ≡ false) (takes : Takes more step)
    (no_end : (s : S) → fits (place s) no_token ≡ false)
    (refuse_step : (s : S) (t : Token) (us : List Token) → test t ≡ true → fits (place s) t ≡ false → step s (t ∷ us) ≡ Err (refused (place s) t))
    (refuse_end : (s : S) (ts : List Token) → test (front ts) ≡ false → fits (place s) (front ts) ≡ false → ends s ts ≡ Err (refused (place s) (front ts)))
    (can_step : (s : S) (t : Token) → test t ≡ true → fits (place s) t ≡ true → Can (λ us. step s (t ∷ us)))
    (can_end : (s : S) (t : Token) → test t ≡ false → fits (place s) t ≡ true → Can (λ us. ends s (t ∷ us)))
    (can_loop : (s : S) → Can (loop more step ends s)) where
  pub can_behind : (s : S) (t : Token) → fits (place s) t ≡ true → Can (λ us. loop more step ends s (t ∷ us))
  can_behind s t fit =
      let cases : (v : Bool) → test t ≡ v → Can (λ us. loop more step ends s (t ∷ us)) = λ v. elim v as (λ v. test t ≡ v → Can (λ us. loop more step ends s (t ∷ us))) [
        | true ↦ λ e.
            can_same (λ us. loop more step ends s (t ∷ us)) (then_read (λ us. step s (t ∷ us)) (loop more step ends)) (λ us. loop_more more step ends none takes s (t ∷ us) (more_front more step ends none takes test place more_is refuse_step refuse_end t us true e))
            (can_then (λ us. step s (t ∷ us)) (loop more step ends) (can_step s t e fit) can_loop)
        | false ↦ λ e. can_same (λ us. loop more step ends s (t ∷ us)) (λ us. ends s (t ∷ us)) (λ us. loop_stop more step ends none takes s (t ∷ us) (more_front more step ends none takes test place more_is refuse_step refuse_end t us false e)) (can_end s t e fit)
      ] in
      cases (test t) refl

  reads_behind : (m : ℕ) (s : S) (t : Token) → fits (place s) t ≡ true → (test t ≡ true → Reads S m (λ us. step s (t ∷ us))) → (test t ≡ false → Reads Y m (λ us. ends s (t ∷ us)))
      → ((next : S) → Reads Y m (loop more step ends next)) → Reads Y m (λ us. loop more step ends s (t ∷ us))
  reads_behind m s t fit one last others =
      let cases : (v : Bool) → test t ≡ v → Reads Y m (λ us. loop more step ends s (t ∷ us)) = λ v. elim v as (λ v. test t ≡ v → Reads Y m (λ us. loop more step ends s (t ∷ us))) [
        | true ↦ λ e.
            reads_same (λ us. loop more step ends s (t ∷ us)) (then_read (λ us. step s (t ∷ us)) (loop more step ends)) (λ us. loop_more more step ends none takes s (t ∷ us) (more_front more step ends none takes test place more_is refuse_step refuse_end t us true e)) m
            (reads_then (λ us. step s (t ∷ us)) (loop more step ends) m (one e) others can_loop)
        | false ↦ λ e. reads_same (λ us. loop more step ends s (t ∷ us)) (λ us. ends s (t ∷ us)) (λ us. loop_stop more step ends none takes s (t ∷ us) (more_front more step ends none takes test place more_is refuse_step refuse_end t us false e)) m (last e)
      ] in
      cases (test t) refl

  pub reads_loop : (k n : ℕ) → n ≤ k → ((m : ℕ) → m < n → (s : S) (t : Token) → test t ≡ true → fits (place s) t ≡ true → Reads S m (λ us. step s (t ∷ us)))
      → ((m : ℕ) → m < n → (s : S) (t : Token) → test t ≡ false → fits (place s) t ≡ true → Reads Y m (λ us. ends s (t ∷ us))) → (s : S) → Reads Y n (loop more step ends s)
  reads_loop zero n le steps lasts s = reads_tokens (loop more step ends s) (place s) (no_end s) (refuse_loop more step ends none takes test place more_is refuse_step refuse_end s) (can_behind s) (can_loop s) n (λ m less t fit. absurd (omega arith))
  reads_loop (suc k) n le steps lasts s =
      reads_tokens (loop more step ends s) (place s) (no_end s) (refuse_loop more step ends none takes test place more_is refuse_step refuse_end s) (can_behind s) (can_loop s) n
      (λ m less t fit. reads_behind m s t fit (λ e. steps m less s t e fit) (λ e. lasts m less s t e fit) (reads_loop k m (omega arith) (λ l below. steps l (omega arith)) (λ l below. lasts l (omega arith))))
