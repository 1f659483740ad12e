-- Reading beside the table: each reader tells what the table does not let stand.
use Rattle.std.proofs.Common.{◌≡◌, ℕ, zero, suc, ◌<◌, ◌≤◌, Bool, true, false, cond, List, [], ◌∷◌, ◌++◌, length, Option, Some, None, Ok, Err, refl, sym, ap, ◌∙◌, arith, true≢false}
use Rattle.std.proofs.lemmas.List.{append_assoc}
use Rattle.pb_pddl.specs.declared.token.Token.{Token}
use Rattle.pb_pddl.specs.declared.error.SyntaxError.{SyntaxError}
use Rattle.pb_pddl.specs.Reading.{◌>>=◌, Read, front, no_token}
use Rattle.pb_pddl.specs.Places
use Rattle.pb_pddl.specs.Places.{Place, fits, refused}
use Rattle.pb_pddl_laws.specs.Table.{Symbol, place_of, after, Leads}
use Rattle.pb_pddl_laws.proofs.Readers.{Reads, then_read, front_cons, front_none, part_less}
use Rattle.pb_pddl_laws.proofs.Loops.{Takes, loop, loop_more, loop_stop, refuse_loop, more_front}

-- the error of the first token that does not fit, where this is due
abbrev pub misfit : List Symbol → List Token → Option SyntaxError
misfit [] ts = cond (fits Places.TheEnd (front ts)) None (Some (refused Places.TheEnd (front ts)))
misfit (s ∷ due) [] = Some (refused (place_of s) no_token)
misfit (s ∷ due) (t ∷ ts) = cond (fits (place_of s) t) (misfit (after s t ++ due) ts) (Some (refused (place_of s) t))

-- the error of what is read, or that of what follows it, where this is due behind what was read
abbrev pub seen : {X : Type 0} → (X → List Symbol) → List Symbol → Read X → Option SyntaxError
seen rest due (Ok p) = misfit (rest p.0 ++ due) p.1
seen rest due (Err e) = Some e

-- what is read of n tokens at most is what the table has for these symbols, and leaves the rest
abbrev pub Does : {X : Type 0} → ℕ → (List Token → Read X) → (X → List Symbol) → List Symbol → Type 0
Does n f rest symbols = (due : List Symbol) (ts : List Token) → length ts ≤ n → seen rest due (f ts) ≡ misfit (symbols ++ due) ts

abbrev pub nothing : {X : Type 0} → X → List Symbol
nothing x = []

pub misfit_stuck : (s : Symbol) (due : List Symbol) (ts : List Token) → fits (place_of s) (front ts) ≡ false → misfit (s ∷ due) ts ≡ Some (refused (place_of s) (front ts))
unfolding front
misfit_stuck s due [] e = refl
misfit_stuck s due (t ∷ us) e = ap (λ b. cond b (misfit (after s t ++ due) us) (Some (refused (place_of s) t))) e

pub misfit_goes : (s : Symbol) (due : List Symbol) (t : Token) (us : List Token) → fits (place_of s) t ≡ true → misfit (s ∷ due) (t ∷ us) ≡ misfit (after s t ++ due) us
misfit_goes s due t us e = ap (λ b. cond b (misfit (after s t ++ due) us) (Some (refused (place_of s) t))) e

-- ---- the tokens before fix what is due

pub one_place : (whole : List Symbol) (before : List Token) (due other : List Symbol) → Leads whole before due → Leads whole before other → due ≡ other
one_place whole [] due other e h = e ∙ sym h
one_place [] (t ∷ before) due other e h = absurd e
one_place (s ∷ whole) (t ∷ before) due other e h = one_place (after s t ++ whole) before due other e.1 h.1

-- what they lead to tells what follows
pub leads_misfit : (whole : List Symbol) (before : List Token) (due : List Symbol) (us : List Token) → Leads whole before due → misfit whole (before ++ us) ≡ misfit due us
leads_misfit whole [] due us e = ap (λ (d : List Symbol). misfit d us) (sym e)
leads_misfit [] (t ∷ before) due us e = absurd e
leads_misfit (s ∷ whole) (t ∷ before) due us e = misfit_goes s whole t (before ++ us) e.0 ∙ leads_misfit (after s t ++ whole) before due us e.1

-- ---- readers that give the same, or read nothing

pub does_same : {X : Type 0} (n : ℕ) (f g : List Token → Read X) (rest : X → List Symbol) (symbols : List Symbol) → ((ts : List Token) → f ts ≡ g ts) → Does n g rest symbols → Does n f rest symbols
does_same n f g rest symbols same d = λ due ts few. ap (seen rest due) (same ts) ∙ d due ts few

pub does_done : {X : Type 0} (n : ℕ) (rest : X → List Symbol) (x : X) → Does n (λ ts. Ok (x, ts)) rest (rest x)
does_done n rest x = λ due ts few. refl

pub does_either : {X : Type 0} (b : Bool) (n : ℕ) (f g : List Token → Read X) (rest : X → List Symbol) (symbols : List Symbol) → (b ≡ true → Does n f rest symbols) → (b ≡ false → Does n g rest symbols)
    → Does n (λ us. cond b (f us) (g us)) rest symbols
does_either true n f g rest symbols yes_f no_g = yes_f refl
does_either false n f g rest symbols yes_f no_g = no_g refl

pub does_as : {X : Type 0} (n : ℕ) (f : List Token → Read X) (rest : X → List Symbol) (a b : List Symbol) → b ≡ a → Does n f rest a → Does n f rest b
does_as n f rest a b e d = λ due ts few. d due ts few ∙ ap (λ (s : List Symbol). misfit (s ++ due) ts) (sym e)

same_seen : {X : Type 0} (more due : List Symbol) (r : Read X) → seen (λ x. more) due r ≡ seen nothing (more ++ due) r
same_seen more due (Ok p) = refl
same_seen more due (Err e) = refl

-- more is due behind it
pub does_more : {X : Type 0} (n : ℕ) (f : List Token → Read X) (symbols more : List Symbol) → Does n f nothing symbols → Does n f (λ x. more) (symbols ++ more)
does_more n f symbols more d = λ due ts few. same_seen more due (f ts) ∙ d (more ++ due) ts few ∙ ap (λ (s : List Symbol). misfit s ts) (sym (append_assoc symbols more due))

-- ---- one after another

module _ {X Y : Type 0} (g : List Token → Read X) (h : X → List Token → Read Y) (mid : X → List Symbol) (rest : Y → List Symbol) (symbols : List Symbol) where
  pub does_then : (n : ℕ) → Reads X n g → Does n g mid symbols → ((x : X) → Does n (h x) rest (mid x)) → Does n (then_read g h) rest symbols
  does_then n r d k = λ due ts few. at due ts few (g ts) refl ∙ d due ts few
    where
      at : (due : List Symbol) (ts : List Token) → length ts ≤ n → (q : Read X) → g ts ≡ q → seen rest due (q >>= λ p. h p.0 p.1) ≡ seen mid due q
      at due ts few (Ok p) e = let a = r.frames ts p.0 p.1 few e in k p.0 due p.1 (part_less n ts a.0 p.1 few a.1)
      at due ts few (Err e) is = refl

-- ---- one token, and then the rest

abbrev pub SamePlace : Symbol → Place → Type 0
SamePlace s place = (t : Token) → (fits (place_of s) t ≡ fits place t) × (refused (place_of s) t ≡ refused place t)

module _ {X : Type 0} (f : List Token → Read X) (h : Token → List Token → Read X) (place : Place) (no_end : fits place no_token ≡ false)
    (refuse : (ts : List Token) → fits place (front ts) ≡ false → f ts ≡ Err (refused place (front ts))) (take : (t : Token) (us : List Token) → fits place t ≡ true → f (t ∷ us) ≡ h t us)
    (s : Symbol) (is : SamePlace s place) (rest : X → List Symbol) (symbols : List Symbol) where
  pub does_one : (n : ℕ) → ((m : ℕ) → m < n → (t : Token) → fits place t ≡ true → Does m (h t) rest (after s t ++ symbols)) → Does n f rest (s ∷ symbols)
  does_one n d = λ due ts few. at due ts few (fits place (front ts)) refl
    where
      at : (due : List Symbol) (ts : List Token) → length ts ≤ n → (v : Bool) → fits place (front ts) ≡ v → seen rest due (f ts) ≡ misfit (s ∷ (symbols ++ due)) ts
      at due ts few false misfits =
          ap (seen rest due) (refuse ts misfits) ∙ sym (misfit_stuck s (symbols ++ due) ts ((is (front ts)).0 ∙ misfits) ∙ ap (λ (e : SyntaxError). Some e) (is (front ts)).1)
      at due [] few true goes = absurd (true≢false (sym goes ∙ ap (fits place) front_none ∙ no_end))
      at due (t ∷ us) few true goes =
          let fit : fits place t ≡ true = sym (ap (fits place) (front_cons t us)) ∙ goes in
          ap (seen rest due) (take t us fit) ∙ d (length us) (omega (arith, few)) t fit due us (omega arith)
          ∙ ap (λ (x : List Symbol). misfit x us) (append_assoc (after s t) symbols due) ∙ sym (misfit_goes s (symbols ++ due) t us ((is t).0 ∙ fit))

-- ---- loops

module _ {S Y : Type 0} (more : List Token → Bool) (step : S → List Token → Read S) (ends : S → List Token → Read Y) (test : Token → Bool) (place : S → Place)
    (more_is : (ts : List Token) → more ts ≡ test (front ts)) (none : more [] ≡ false) (takes : Takes more step)
    (no_end : (s : S) → fits (place s) no_token ≡ false)
    (refuse_step : (s : S) (t : Token) (us : List Token) → test t ≡ true → fits (place s) t ≡ false → step s (t ∷ us) ≡ Err (refused (place s) t))
    (refuse_end : (s : S) (ts : List Token) → test (front ts) ≡ false → fits (place s) (front ts) ≡ false → ends s ts ≡ Err (refused (place s) (front ts)))
    (symbol : S → Symbol) (is : (s : S) → SamePlace (symbol s) (place s)) (rest : Y → List Symbol) where
  does_next : (n : ℕ) → ((m : ℕ) → m < n → (s : S) (t : Token) → test t ≡ true → fits (place s) t ≡ true → Does m (λ us. step s (t ∷ us)) (λ x. symbol x ∷ []) (after (symbol s) t))
      → ((m : ℕ) → m < n → (s : S) (t : Token) → test t ≡ false → fits (place s) t ≡ true → Does m (λ us. ends s (t ∷ us)) rest (after (symbol s) t))
      → ((m : ℕ) → m < n → (s : S) → Does m (loop more step ends s) rest (symbol s ∷ [])) → (s : S) → Does n (loop more step ends s) rest (symbol s ∷ [])
  does_next n steps lasts again s = λ due ts few. at due ts few (fits (place s) (front ts)) refl
    where
      stepped : (due : List Symbol) (t : Token) (us : List Token) → suc (length us) ≤ n → (q : Read S) → step s (t ∷ us) ≡ q → test t ≡ true → seen rest due (q >>= λ next. loop more step ends next.0 next.1) ≡ seen (λ x. symbol x ∷ []) due q
      stepped due t us few (Err e) q_is goes = refl
      stepped due t us few (Ok p) q_is goes =
          let shorter : length p.1 < suc (length us) = takes s (t ∷ us) p.0 p.1 (more_front more step ends none takes test place more_is refuse_step refuse_end t us true goes) q_is in again (length p.1) (omega (arith, shorter, few)) p.0 due p.1 (omega arith)

      behind : (due : List Symbol) (t : Token) (us : List Token) → suc (length us) ≤ n → fits (place s) t ≡ true → (v : Bool) → test t ≡ v → seen rest due (loop more step ends s (t ∷ us)) ≡ misfit (after (symbol s) t ++ due) us
      behind due t us few fit true goes =
          ap (seen rest due) (loop_more more step ends none takes s (t ∷ us) (more_front more step ends none takes test place more_is refuse_step refuse_end t us true goes)) ∙ stepped due t us few (step s (t ∷ us)) refl goes ∙ steps (length us) (omega (arith, few)) s t goes fit due us (omega arith)
      behind due t us few fit false stops = ap (seen rest due) (loop_stop more step ends none takes s (t ∷ us) (more_front more step ends none takes test place more_is refuse_step refuse_end t us false stops)) ∙ lasts (length us) (omega (arith, few)) s t stops fit due us (omega arith)

      at : (due : List Symbol) (ts : List Token) → length ts ≤ n → (v : Bool) → fits (place s) (front ts) ≡ v → seen rest due (loop more step ends s ts) ≡ misfit (symbol s ∷ due) ts
      at due ts few false misfits =
          ap (seen rest due) (refuse_loop more step ends none takes test place more_is refuse_step refuse_end s ts misfits) ∙ sym (misfit_stuck (symbol s) due ts ((is s (front ts)).0 ∙ misfits) ∙ ap (λ (e : SyntaxError). Some e) (is s (front ts)).1)
      at due [] few true goes = absurd (true≢false (sym goes ∙ ap (fits (place s)) front_none ∙ no_end s))
      at due (t ∷ us) few true goes =
          let fit : fits (place s) t ≡ true = sym (ap (fits (place s)) (front_cons t us)) ∙ goes in
          behind due t us few fit (test t) refl ∙ sym (misfit_goes (symbol s) due t us ((is s t).0 ∙ fit))

  pub does_loop : (k n : ℕ) → n ≤ k → ((m : ℕ) → m < n → (s : S) (t : Token) → test t ≡ true → fits (place s) t ≡ true → Does m (λ us. step s (t ∷ us)) (λ x. symbol x ∷ []) (after (symbol s) t))
      → ((m : ℕ) → m < n → (s : S) (t : Token) → test t ≡ false → fits (place s) t ≡ true → Does m (λ us. ends s (t ∷ us)) rest (after (symbol s) t)) → (s : S) → Does n (loop more step ends s) rest (symbol s ∷ [])
  does_loop zero n le steps lasts = does_next n steps lasts (λ m less. absurd (omega arith))
  does_loop (suc k) n le steps lasts = does_next n steps lasts (λ m less. does_loop k m (omega arith) (λ l below. steps l (omega arith)) (λ l below. lasts l (omega arith)))
