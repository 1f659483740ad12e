-- Readers that can end, refuse what does not fit, and do what the table does: the three together, once for each way to put readers together.
use Rattle.std.proofs.Common.{◌≡◌, ℕ, Bool, true, false, cond, List, ◌∷◌, ◌++◌, drop, Result, Ok, Err, refl, sym, ap, ◌∙◌}
use Rattle.pb_pddl.specs.declared.token.Token.{Token}
use Rattle.pb_pddl.specs.declared.error.SyntaxError.{SyntaxError}
use Rattle.pb_pddl.specs.Reading.{◌>>=◌, Read, front, no_token}
use Rattle.pb_pddl.specs.Places.{Place, fits, refused}
use Rattle.pb_pddl_laws.specs.Table.{Symbol, after}
use Rattle.pb_pddl_laws.proofs.Readers.{Reads, Can, reads_done, can_done, reads_same, can_same, reads_then, can_then, then_read, reads_one, can_one}
use Rattle.pb_pddl_laws.proofs.Following.{Does, SamePlace, nothing, does_same, does_done, does_as, does_then, does_more, does_one}
use Rattle.pb_pddl_laws.proofs.Singles.{bind_failed}
use Rattle.pb_pddl_laws.proofs.CondsRead.{if_true, if_false}

-- behind what is read the rest is due, where these symbols were
pub record Agrees (X : Type 0) (f : List Token → Read X) (rest : X → List Symbol) (symbols : List Symbol) : Type 0 where
  pub can : Can f
  pub reads : (n : ℕ) → Reads X n f
  pub does : (n : ℕ) → Does n f rest symbols

pub agrees_done : {X : Type 0} {rest : X → List Symbol} (x : X) → Agrees X (λ ts. Ok (x, ts)) rest (rest x)
agrees_done {X} {rest} x = record { can = can_done x; reads = λ n. reads_done n x; does = λ n. does_done n rest x }

pub agrees_same : {X : Type 0} {f g : List Token → Read X} {rest : X → List Symbol} {symbols : List Symbol} → ((ts : List Token) → f ts ≡ g ts) → Agrees X g rest symbols → Agrees X f rest symbols
agrees_same {X} {f} {g} {rest} {symbols} same a = record { can = can_same f g same a.can; reads = λ n. reads_same f g same n (a.reads n); does = λ n. does_same n f g rest symbols same (a.does n) }

pub agrees_as : {X : Type 0} {f : List Token → Read X} {rest : X → List Symbol} {a b : List Symbol} → b ≡ a → Agrees X f rest a → Agrees X f rest b
agrees_as {X} {f} {rest} {a} {b} same r = record { can = r.can; reads = r.reads; does = λ n. does_as n f rest a b same (r.does n) }

pub agrees_then : {X Y : Type 0} {g : List Token → Read X} (h : X → List Token → Read Y) {mid : X → List Symbol} {rest : Y → List Symbol} {symbols : List Symbol}
    → Agrees X g mid symbols → ((x : X) → Agrees Y (h x) rest (mid x)) → Agrees Y (then_read g h) rest symbols
agrees_then {X} {Y} {g} h {mid} {rest} {symbols} a b = record {
  can = can_then g h a.can (λ x. (b x).can);
  reads = λ n. reads_then g h n (a.reads n) (λ x. (b x).reads n) (λ x. (b x).can);
  does = λ n. does_then g h mid rest symbols n (a.reads n) (a.does n) (λ x. (b x).does n);
}

-- more is due behind it
pub agrees_more : {X : Type 0} {f : List Token → Read X} {symbols : List Symbol} (more : List Symbol) → Agrees X f nothing symbols → Agrees X f (λ x. more) (symbols ++ more)
agrees_more {X} {f} {symbols} more a = record { can = a.can; reads = a.reads; does = λ n. does_more n f symbols more (a.does n) }

-- what is read makes a value, behind which more is due
pub agrees_make : {A S : Type 0} {g : List Token → Read A} (make : A → S) {rest : S → List Symbol} {symbols : List Symbol} (more : List Symbol) → ((x : A) → more ≡ rest (make x)) → Agrees A g nothing symbols
    → Agrees S (then_read g (λ x ts. Ok (make x, ts))) rest (symbols ++ more)
agrees_make make more same a = agrees_then (λ x ts. Ok (make x, ts)) (agrees_more more a) (λ x. agrees_as (same x) (agrees_done (make x)))

pub agrees_either : {X : Type 0} (b : Bool) {f g : List Token → Read X} {rest : X → List Symbol} {symbols : List Symbol}
    → (b ≡ true → Agrees X f rest symbols) → (b ≡ false → Agrees X g rest symbols) → Agrees X (λ us. cond b (f us) (g us)) rest symbols
agrees_either true yes_f no_g = yes_f refl
agrees_either false yes_f no_g = no_g refl

-- with what is due by the same test
pub agrees_choice : {X : Type 0} (b : Bool) {f g : List Token → Read X} {rest : X → List Symbol} {due other : List Symbol}
    → (b ≡ true → Agrees X f rest due) → (b ≡ false → Agrees X g rest other) → Agrees X (λ us. cond b (f us) (g us)) rest (cond b due other)
agrees_choice true yes_f no_g = yes_f refl
agrees_choice false yes_f no_g = no_g refl

-- ---- one token, and then the rest

-- a step that takes one token which fits the place, as this one does, and is then this one
pub record TakesOne (A : Type 0) (f : List Token → Result A SyntaxError) (h : Token → List Token → Result A SyntaxError) (place : Place) : Type 0 where
  pub no_end : fits place no_token ≡ false
  pub refuse : (ts : List Token) → fits place (front ts) ≡ false → f ts ≡ Err (refused place (front ts))
  pub take : (t : Token) (us : List Token) → fits place t ≡ true → f (t ∷ us) ≡ h t us
  pub some : Token
  pub some_fits : fits place some ≡ true

-- by a test of the token
pub takes_test : {A : Type 0} {place : Place} (test : Token → Bool) (error : Token → SyntaxError) (v : Token → List Token → A) → ((t : Token) → fits place t ≡ test t) → ((t : Token) → refused place t ≡ error t) → test no_token ≡ false
    → (some : Token) → test some ≡ true → TakesOne A (λ ts. cond (test (front ts)) (Ok (v (front ts) (drop 1 ts))) (Err (error (front ts)))) (λ t us. Ok (v t us)) place
unfolding front
takes_test test error v fits_is refused_is none some is = record {
  no_end = fits_is no_token ∙ none;
  refuse = λ ts e. if_false (test (front ts)) _ _ (sym (fits_is (front ts)) ∙ e) ∙ ap (λ (x : SyntaxError). Err x) (sym (refused_is (front ts)));
  take = λ t us e. if_true (test t) _ _ (sym (fits_is t) ∙ e);
  some = some;
  some_fits = fits_is some ∙ is;
}

-- and a step behind it, which may look at that token
pub takes_then : {A B : Type 0} {f : List Token → Result A SyntaxError} {h : Token → List Token → Result A SyntaxError} {place : Place} (k : Token → A → Result B SyntaxError)
    → TakesOne A f h place → TakesOne B (λ ts. f ts >>= k (front ts)) (λ t us. h t us >>= k t) place
unfolding front
takes_then {A} {B} {f} {h} {place} k o = record {
  no_end = o.no_end;
  refuse = λ ts e. bind_failed (f ts) (k (front ts)) (refused place (front ts)) (o.refuse ts e);
  take = λ t us e. ap (λ r. r >>= k t) (o.take t us e);
  some = o.some;
  some_fits = o.some_fits;
}

pub agrees_one : {X : Type 0} {f : List Token → Read X} {h : Token → List Token → Read X} {place : Place} (s : Symbol) → SamePlace s place → TakesOne (X × List Token) f h place → {rest : X → List Symbol} {symbols : List Symbol}
    → ((t : Token) → fits place t ≡ true → Agrees X (h t) rest (after s t ++ symbols)) → Agrees X f rest (s ∷ symbols)
agrees_one {X} {f} {h} {place} s is o {rest} {symbols} a =
    let can = can_one f h place o.no_end o.refuse o.take (λ t fit. (a t fit).can) o.some o.some_fits in
    record {
      can = can;
      reads = λ n. reads_one f h place o.no_end o.refuse o.take (λ t fit. (a t fit).can) can n (λ m less t fit. (a t fit).reads m);
      does = λ n. does_one f h place o.no_end o.refuse o.take s is rest symbols n (λ m less t fit. (a t fit).does m);
    }
