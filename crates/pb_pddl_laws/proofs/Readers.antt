-- Readers of tokens: what they take, where they stop, and that they can end.
use Rattle.std.proofs.Common.{◌≡◌, ℕ, zero, suc, ◌+◌, ◌<◌, ◌≤◌, Bool, true, false, List, [], ◌∷◌, ◌++◌, length, Result, Ok, Err, refl, sym, ap, ◌∙◌, arith, ◌⊎◌, inl, inr, true≢false}
use Rattle.std.proofs.lemmas.List.{append_assoc}
use Rattle.std.proofs.Common.{length-append}
use Rattle.pb_pddl.specs.declared.token.Token.{Token}
use Rattle.pb_pddl.specs.declared.error.SyntaxError.{SyntaxError}
use Rattle.pb_pddl.specs.Reading.{◌>>=◌, Read, front, no_token}
use Rattle.pb_pddl.specs.Places.{Place, fits, refused}
use Rattle.pb_pddl_laws.proofs.Singles.{bind_ok, bind_again, ok_pair}

abbrev pub failed : {X : Type 0} → SyntaxError → Result X SyntaxError
failed e = Err e

pub err_ok : {X : Type 0} (e : SyntaxError) (x : X) → Ok x ≡ failed e → ⊥
err_ok e x clash = cc

pub bind_err : {A B : Type 0} (r : Result A SyntaxError) (f : A → Result B SyntaxError) (e : SyntaxError) → (r >>= f) ≡ Err e → (r ≡ Err e) ⊎ ((x : A) × (r ≡ Ok x) × (f x ≡ Err e))
bind_err (Ok x) f e is = inr ((x, refl, is))
bind_err (Err d) f e is = inl cc

-- These tokens can go on to an end. Behind them the reader refuses each token that does not fit the place, and goes on with each that does.
pub record Stops (X : Type 0) (f : List Token → Read X) (before : List Token) (place : Place) : Type 0 where
  pub refuses : (after : List Token) → fits place (front after) ≡ false → f (before ++ after) ≡ Err (refused place (front after))
  pub goes_on : (t : Token) → fits place t ≡ true → (us : List Token) × (x : X) × ((rest : List Token) → f (before ++ t ∷ (us ++ rest)) ≡ Ok (x, rest))
  pub lives : (us : List Token) × (x : X) × ((rest : List Token) → f (before ++ (us ++ rest)) ≡ Ok (x, rest))

-- what is read does not depend on what follows
abbrev pub Frames : {X : Type 0} → ℕ → (List Token → Read X) → Type 0
Frames {X} n f =
    (ts : List Token) (x : X) (rest : List Token) → length ts ≤ n → f ts ≡ Ok (x, rest)
    → (used : List Token) × (ts ≡ used ++ rest) × ((more : List Token) → f (used ++ more) ≡ Ok (x, more))

-- an error is at the first token that does not fit its place
abbrev pub Faults : {X : Type 0} → ℕ → (List Token → Read X) → Type 0
Faults {X} n f =
    (ts : List Token) (e : SyntaxError) → length ts ≤ n → f ts ≡ Err e
    → (before : List Token) × (after : List Token) × (place : Place) × (ts ≡ before ++ after) × (fits place (front after) ≡ false) × Stops X f before place

-- some tokens are read
abbrev pub Can : {X : Type 0} → (List Token → Read X) → Type 0
Can {X} f = (us : List Token) × (x : X) × ((rest : List Token) → f (us ++ rest) ≡ Ok (x, rest))

pub record Reads (X : Type 0) (n : ℕ) (f : List Token → Read X) : Type 0 where
  pub frames : Frames n f
  pub faults : Faults n f

-- ---- readers that give the same

module _ {X : Type 0} (f g : List Token → Read X) (same : (ts : List Token) → f ts ≡ g ts) where
  pub can_same : Can g → Can f
  can_same c = (c.0, c.1, λ rest. same (c.0 ++ rest) ∙ c.2 rest)

  stops_same : (before : List Token) (place : Place) → Stops X g before place → Stops X f before place
  stops_same before place s = record {
    refuses = λ after misfit. same (before ++ after) ∙ s.refuses after misfit;
    goes_on = λ t fit. let u = s.goes_on t fit in (u.0, u.1, λ rest. same (before ++ t ∷ (u.0 ++ rest)) ∙ u.2 rest);
    lives = (s.lives.0, s.lives.1, λ rest. same (before ++ (s.lives.0 ++ rest)) ∙ s.lives.2 rest);
  }

  pub reads_same : (n : ℕ) → Reads X n g → Reads X n f
  reads_same n r = record {
    frames = λ ts x rest few e. let u = r.frames ts x rest few (sym (same ts) ∙ e) in (u.0, u.1, λ more. same (u.0 ++ more) ∙ u.2 more);
    faults = λ ts e few err. let u = r.faults ts e few (sym (same ts) ∙ err) in (u.0, u.1, u.2, u.3, u.4, stops_same u.0 u.2 u.5);
  }

-- ---- a value, with no token

pub reads_done : {X : Type 0} (n : ℕ) (x : X) → Reads X n (λ ts. Ok (x, ts))
reads_done {X} n x = record {
  frames = λ ts y rest few e. let p = ok_pair x y ts rest e in ([], p.1, λ more. ap (λ (z : X). Ok (z, more)) p.0);
  faults = λ ts e few err. absurd (err_ok {X = X × List Token} e (x, ts) err);
}

pub can_done : {X : Type 0} (x : X) → Can {X = X} (λ ts. Ok (x, ts))
can_done x = ([], x, λ rest. refl)

-- ---- one after another

pub part_less : (n : ℕ) (ts used rest : List Token) → length ts ≤ n → ts ≡ used ++ rest → length rest ≤ n
part_less n ts used rest few is = let e : length ts ≡ length used + length rest = ap length is ∙ length-append used rest in omega (arith, e)

module _ {X Y : Type 0} (g : List Token → Read X) (h : X → List Token → Read Y) where
  abbrev pub then_read : List Token → Read Y
  then_read ts = g ts >>= λ p. h p.0 p.1

  both : (a b rest : List Token) (x : X) (y : Y) → ((more : List Token) → g (a ++ more) ≡ Ok (x, more)) → ((more : List Token) → h x (b ++ more) ≡ Ok (y, more)) → then_read ((a ++ b) ++ rest) ≡ Ok (y, rest)
  both a b rest x y first second =
      ap then_read (append_assoc a b rest) ∙ bind_again (g (a ++ (b ++ rest))) (λ p. h p.0 p.1) (x, b ++ rest) (Ok (y, rest)) (first (b ++ rest)) (second rest)

  pub can_then : Can g → ((x : X) → Can (h x)) → Can then_read
  can_then c k = let d = k c.1 in (c.0 ++ d.0, d.1, λ rest. both c.0 d.0 rest c.1 d.1 c.2 d.2)

  stops_first : (before : List Token) (place : Place) → ((x : X) → Can (h x)) → Stops X g before place → Stops Y then_read before place
  stops_first before place k s = record {
    refuses = λ after misfit. ap (λ r. r >>= λ p. h p.0 p.1) (s.refuses after misfit);
    goes_on = λ t fit.
        let u = s.goes_on t fit in
        let d = k u.1 in (
          u.0 ++ d.0,
          d.1,
          λ rest.
              ap (λ (us : List Token). then_read (before ++ t ∷ us)) (append_assoc u.0 d.0 rest)
              ∙ bind_again (g (before ++ t ∷ (u.0 ++ (d.0 ++ rest)))) (λ p. h p.0 p.1) (u.1, d.0 ++ rest) (Ok (d.1, rest)) (u.2 (d.0 ++ rest)) (d.2 rest),
        );
    lives =
        let u = s.lives in
        let d = k u.1 in (
          u.0 ++ d.0,
          d.1,
          λ rest.
              ap (λ (us : List Token). then_read (before ++ us)) (append_assoc u.0 d.0 rest)
              ∙ bind_again (g (before ++ (u.0 ++ (d.0 ++ rest)))) (λ p. h p.0 p.1) (u.1, d.0 ++ rest) (Ok (d.1, rest)) (u.2 (d.0 ++ rest)) (d.2 rest),
        );
  }

  stops_second : (used before : List Token) (place : Place) (x : X) → ((more : List Token) → g (used ++ more) ≡ Ok (x, more)) → Stops Y (h x) before place → Stops Y then_read (used ++ before) place
  stops_second used before place x frame s = record {
    refuses = λ after misfit.
        ap then_read (append_assoc used before after)
        ∙ bind_again (g (used ++ (before ++ after))) (λ p. h p.0 p.1) (x, before ++ after) (Err (refused place (front after))) (frame (before ++ after)) (s.refuses after misfit);
    goes_on = λ t fit.
        let u = s.goes_on t fit in (
          u.0,
          u.1,
          λ rest.
              ap then_read (append_assoc used before (t ∷ (u.0 ++ rest)))
              ∙ bind_again (g (used ++ (before ++ t ∷ (u.0 ++ rest)))) (λ p. h p.0 p.1) (x, before ++ t ∷ (u.0 ++ rest)) (Ok (u.1, rest)) (frame (before ++ t ∷ (u.0 ++ rest))) (u.2 rest),
        );
    lives =
        let u = s.lives in (
          u.0,
          u.1,
          λ rest.
              ap then_read (append_assoc used before (u.0 ++ rest))
              ∙ bind_again (g (used ++ (before ++ (u.0 ++ rest)))) (λ p. h p.0 p.1) (x, before ++ (u.0 ++ rest)) (Ok (u.1, rest)) (frame (before ++ (u.0 ++ rest))) (u.2 rest),
        );
  }

  pub reads_then : (n : ℕ) → Reads X n g → ((x : X) → Reads Y n (h x)) → ((x : X) → Can (h x)) → Reads Y n then_read
  reads_then n r k can = record {
    frames = λ ts y rest few e.
        let o = bind_ok (g ts) (λ p. h p.0 p.1) (y, rest) e in
        let a = r.frames ts o.0.0 o.0.1 few o.1 in
        let b = (k o.0.0).frames o.0.1 y rest (part_less n ts a.0 o.0.1 few a.1) o.2 in
        (a.0 ++ b.0, a.1 ∙ ap (λ (us : List Token). a.0 ++ us) b.1 ∙ sym (append_assoc a.0 b.0 rest), λ more. both a.0 b.0 more o.0.0 y a.2 b.2);
    faults = λ ts e few err. elim (bind_err (g ts) (λ p. h p.0 p.1) e err) [
      | inl first ↦ let u = r.faults ts e few first in (u.0, u.1, u.2, u.3, u.4, stops_first u.0 u.2 can u.5)
      | inr (p, ok, second) ↦
          let a = r.frames ts p.0 p.1 few ok in
          let u = (k p.0).faults p.1 e (part_less n ts a.0 p.1 few a.1) second in
          (a.0 ++ u.0, u.1, u.2, a.1 ∙ ap (λ (us : List Token). a.0 ++ us) u.3 ∙ sym (append_assoc a.0 u.0 u.1), u.4, stops_second a.0 u.0 u.2 p.0 a.2 u.5)
    ];
  }

-- ---- one token, which fits a place, and then the rest

pub front_cons : (t : Token) (us : List Token) → front (t ∷ us) ≡ t
unfolding front
front_cons t us = refl

pub front_none : front [] ≡ no_token
unfolding front
front_none = refl

module _ {X : Type 0} (f : List Token → Read X) (place : Place) (no_end : fits place no_token ≡ false) (refuse : (ts : List Token) → fits place (front ts) ≡ false → f ts ≡ Err (refused place (front ts))) (can : (t : Token) → fits place t ≡ true → Can (λ us. f (t ∷ us))) (all : Can f) where
  at_first : Stops X f [] place
  at_first = record {
    refuses = refuse;
    goes_on = λ t fit. can t fit;
    lives = all;
  }

  stops_behind : (t : Token) (before : List Token) (next : Place) → Stops X (λ us. f (t ∷ us)) before next → Stops X f (t ∷ before) next
  stops_behind t before next s = record {
    refuses = s.refuses;
    goes_on = s.goes_on;
    lives = s.lives;
  }

  frames_token : (n : ℕ) → ((t : Token) → fits place t ≡ true → Reads X n (λ us. f (t ∷ us))) → (ts : List Token) (x : X) (rest : List Token) → length ts ≤ suc n → f ts ≡ Ok (x, rest) → (v : Bool) → fits place (front ts) ≡ v
      → (used : List Token) × (ts ≡ used ++ rest) × ((more : List Token) → f (used ++ more) ≡ Ok (x, more))
  frames_token n r ts x rest few e false misfit = absurd (err_ok (refused place (front ts)) (x, rest) (sym e ∙ refuse ts misfit))
  frames_token n r [] x rest few e true fit = absurd (true≢false (sym fit ∙ ap (fits place) front_none ∙ no_end))
  frames_token n r (t ∷ us) x rest few e true fit =
      let u = (r t (sym (ap (fits place) (front_cons t us)) ∙ fit)).frames us x rest (omega arith) e in
      (t ∷ u.0, ap (λ (vs : List Token). t ∷ vs) u.1, u.2)

  faults_token : (n : ℕ) → ((t : Token) → fits place t ≡ true → Reads X n (λ us. f (t ∷ us))) → (ts : List Token) (e : SyntaxError) → length ts ≤ suc n → f ts ≡ Err e → (v : Bool) → fits place (front ts) ≡ v
      → (before : List Token) × (after : List Token) × (next : Place) × (ts ≡ before ++ after) × (fits next (front after) ≡ false) × Stops X f before next
  faults_token n r ts e few err false misfit = ([], ts, place, refl, misfit, at_first)
  faults_token n r [] e few err true fit = absurd (true≢false (sym fit ∙ ap (fits place) front_none ∙ no_end))
  faults_token n r (t ∷ us) e few err true fit =
      let u = (r t (sym (ap (fits place) (front_cons t us)) ∙ fit)).faults us e (omega arith) err in
      (t ∷ u.0, u.1, u.2, ap (λ (vs : List Token). t ∷ vs) u.3, u.4, stops_behind t u.0 u.2 u.5)

  pub reads_token : (n : ℕ) → ((t : Token) → fits place t ≡ true → Reads X n (λ us. f (t ∷ us))) → Reads X (suc n) f
  reads_token n r = record {
    frames = λ ts x rest few e. frames_token n r ts x rest few e (fits place (front ts)) refl;
    faults = λ ts e few err. faults_token n r ts e few err (fits place (front ts)) refl;
  }

  -- of no tokens
  pub reads_none : Reads X 0 f
  reads_none = record {
    frames = λ ts x rest few e. absurd (err_ok (refused place (front ts)) (x, rest) (sym e ∙ refuse ts (none_fits ts few)));
    faults = λ ts e few err. ([], ts, place, refl, none_fits ts few, at_first);
  } where
    none_fits : (ts : List Token) → length ts ≤ 0 → fits place (front ts) ≡ false
    none_fits [] few = ap (fits place) front_none ∙ no_end
    none_fits (t ∷ us) few = absurd (omega arith)

  pub reads_tokens : (n : ℕ) → ((m : ℕ) → m < n → (t : Token) → fits place t ≡ true → Reads X m (λ us. f (t ∷ us))) → Reads X n f
  reads_tokens zero r = reads_none
  reads_tokens (suc n) r = reads_token n (r n (omega arith))

-- ---- a reader that takes one token which fits the place, and then reads on

module _ {X : Type 0} (f : List Token → Read X) (h : Token → List Token → Read X) (place : Place) (no_end : fits place no_token ≡ false)
    (refuse : (ts : List Token) → fits place (front ts) ≡ false → f ts ≡ Err (refused place (front ts))) (take : (t : Token) (us : List Token) → fits place t ≡ true → f (t ∷ us) ≡ h t us)
    (can : (t : Token) → fits place t ≡ true → Can (h t)) where
  pub can_one : (t : Token) → fits place t ≡ true → Can f
  can_one t fit = let c = can t fit in (t ∷ c.0, c.1, λ rest. take t (c.0 ++ rest) fit ∙ c.2 rest)

  pub reads_one : Can f → (n : ℕ) → ((m : ℕ) → m < n → (t : Token) → fits place t ≡ true → Reads X m (h t)) → Reads X n f
  reads_one all n r =
      reads_tokens f place no_end refuse (λ t fit. can_same (λ us. f (t ∷ us)) (h t) (λ us. take t us fit) (can t fit)) all n
      (λ m less t fit. reads_same (λ us. f (t ∷ us)) (h t) (λ us. take t us fit) m (r m less t fit))
